-- Document 01's cases marked P, mended as READINGS says, and others beside them: one table under one statement, computed from the definitions.
use Prim.Native.Nat.{ℕ, zero, suc, ◌+◌, ◌^◌}
use mathlib.Core.Path.{◌≡◌, refl}
use mathlib.Core.List.{List, [], ◌∷◌, ◌++◌, map}
use lib.ListN.{length, replicate}
use Rattle.wire.specs.Res
use Rattle.wire.specs.Res.{Res, got, fault}
use Rattle.wire.specs.Bits
use Rattle.wire.specs.Bits.{source, digits}
use Rattle.wire.specs.Width
use Rattle.wire.specs.Number
use Rattle.wire.specs.Number.{read5, read8, code5}
use Rattle.signed.specs.Words as signed
use Rattle.utf8.specs.Text as utf8
use Rattle.table.specs.First
use Rattle.table.specs.Valid
use Rattle.table.specs.Rows
use Rattle.table.specs.Setting
use Rattle.table.specs.Setting.{change, setting, settings}
use Rattle.calendar.specs.Plain
use Rattle.calendar.specs.Formulas
use Rattle.value.specs.Dates
use Rattle.value.specs.Code
use Rattle.value.specs.Code.{code_at}
use Rattle.value.specs.Simple
use Rattle.value.specs.Simple.{range_code}
use Rattle.model.specs.Model
use Rattle.model.specs.Model.{Event, event, Path, events, texts}
use Rattle.model.specs.Items
use mathlib.Core.Bool.{true, false}
use Rattle.model.specs.Items.{Lengths, Mode}
use Rattle.model.specs.Read
use Rattle.model.specs.Write
use Rattle.model.specs.Write.{bare}
use Rattle.model.specs.Pack
use Rattle.model.specs.Whole
use Rattle.model.specs.Whole.{mode, Reply, accepted, declined, Made, made, unmade, mode_number, reading, writing, event_words}

-- the worked table; whether type 3 is held
unfoldable pub words : ℕ → List ℕ
words held =
    1 ∷ 4 ∷ 1 ∷ 4
    ∷ 1 ∷ 2 ∷ 0 ∷ 1 ∷ 0 ∷ 0 ∷ 0
    ∷ 1 ∷ 1 ∷ 0 ∷ 0 ∷ 0 ∷ 0 ∷ 0
    ∷ 1 ∷ 1 ∷ 0 ∷ 0 ∷ 1 ∷ 4294967293 ∷ 4
    ∷ held ∷ 1 ∷ 0 ∷ 0 ∷ 5 ∷ 0 ∷ 0
    ∷ 20 ∷ 0 ∷ 2
    ∷ 1 ∷ 1 ∷ 2 ∷ 0
    ∷ 0 ∷ 11 ∷ 3 ∷ 0
    ∷ 3 ∷ 3 ∷ 0 ∷ 3
    ∷ 0 ∷ 12 ∷ 1 ∷ 0
    ∷ []

-- request 1's table, form 2 or its first 51 words as form 1; whether type 2 is held
unfoldable pub cast_rows : ℕ → ℕ → List ℕ
cast_rows form held =
    form ∷ 5 ∷ 0 ∷ 3
    ∷ 1 ∷ 2 ∷ 0 ∷ 0 ∷ 0 ∷ 0 ∷ 0
    ∷ 1 ∷ 1 ∷ 0 ∷ 0 ∷ 0 ∷ 0 ∷ 0
    ∷ held ∷ 1 ∷ 0 ∷ 0 ∷ 5 ∷ 0 ∷ 0
    ∷ 1 ∷ 0 ∷ 0 ∷ 0 ∷ 0 ∷ 0 ∷ 0
    ∷ 1 ∷ 1 ∷ 0 ∷ 0 ∷ 2 ∷ 0 ∷ 0
    ∷ 1 ∷ 1 ∷ 2 ∷ 0
    ∷ 0 ∷ 11 ∷ 1 ∷ 0
    ∷ 0 ∷ 12 ∷ 3 ∷ 0
    ∷ []

unfoldable pub cast : ℕ → List ℕ
cast held =
    cast_rows 2 held
    ++ (3 ∷ 3
    ∷ 2 ∷ 3 ∷ 4
    ∷ 13 ∷ 1 ∷ 14 ∷ 2 ∷ 15 ∷ 3
    ∷ 0 ∷ 0 ∷ 0 ∷ 3 ∷ 0 ∷ 0 ∷ 2 ∷ 1 ∷ 0 ∷ 0
    ∷ 0 ∷ 0 ∷ 0 ∷ 0 ∷ 0 ∷ 3
    ∷ [])

unfoldable pub casted : List ℕ
casted = 0x9F ∷ 0x8B ∷ 0x21 ∷ 0x88 ∷ 0x24 ∷ 0x86 ∷ 0x92 ∷ 0xC4 ∷ []

unfoldable pub cast_list : List Event
cast_list =
    event 1 10 1 10 ∷ event 1 11 1 10 ∷ event 8 2 0 3 ∷ event 3 2 0 21 ∷ event 6 0 0 0 ∷ event 1 12 1 5 ∷ event 8 1 1 4 ∷ event 3 1 0 1 ∷ event 6 0 0 0 ∷ event 6 0 0 0 ∷ []

-- one type of a simple kind; one type, which is empty; one that holds itself twice, without end
unfoldable pub simply : ℕ → List ℕ
simply kind = 1 ∷ 1 ∷ 0 ∷ 0 ∷ 1 ∷ 1 ∷ 0 ∷ 0 ∷ kind ∷ 0 ∷ 0 ∷ []

unfoldable pub hollow : List ℕ
hollow = 1 ∷ 1 ∷ 0 ∷ 0 ∷ 1 ∷ 0 ∷ 0 ∷ 0 ∷ 0 ∷ 0 ∷ 0 ∷ []

unfoldable pub tangle : List ℕ
tangle = 1 ∷ 1 ∷ 0 ∷ 3 ∷ 1 ∷ 2 ∷ 0 ∷ 0 ∷ 0 ∷ 0 ∷ 0 ∷ 1 ∷ 1 ∷ 2 ∷ 0 ∷ 0 ∷ 10 ∷ 0 ∷ 0 ∷ 0 ∷ 6 ∷ 0 ∷ 0 ∷ []

unfoldable pub worked : ℕ → ℕ → List ℕ
worked third last = 0x8F ∷ 0x8C ∷ third ∷ 0x15 ∷ 0x12 ∷ 0x43 ∷ 0x4E ∷ 0x0C ∷ last ∷ []

unfoldable pub front : List Event
front = event 1 10 1 10 ∷ event 2 20 1 1 ∷ event 3 4294967295 0 3 ∷ []

unfoldable pub back : List Event
back = event 5 2 0 3 ∷ event 1 12 1 5 ∷ event 3 1 0 1 ∷ event 6 0 0 0 ∷ event 1 12 1 5 ∷ event 3 0 0 1 ∷ event 6 0 0 0 ∷ event 6 0 0 0 ∷ []

unfoldable pub list : List Event
list = front ++ (event 1 11 1 10 ∷ event 3 2 0 21 ∷ event 6 0 0 0 ∷ back)

unfoldable pub blank : Event
blank = event 7 11 3 31

-- what is asked: a code's bits; a code read of bits with nothing after them; a payload read; a list written in mode 2
pub data Asked : Type 0 where
  coded : List ℕ → Asked
  reads : ((ℕ → ℕ) → ℕ → ℕ → Res (ℕ × ℕ)) → List ℕ → Asked
  payload : (table : List ℕ) (name : ℕ) → List ℕ → Asked
  -- with so many words for events; a list written in a mode
  within : (table : List ℕ) (words : ℕ) → List ℕ → Asked
  writes_in : ℕ → (table : List ℕ) → List Event → List ℕ → Asked
  writes : (table : List ℕ) → List Event → List ℕ → Asked
  -- a payload read, and what was read written in its mode
  rewrites : (table : List ℕ) (name : ℕ) → List ℕ → Asked
  -- by a party: a payload read, a list's words written in a mode, a mark set
  read_by : (party : ℕ) (table : List ℕ) (name type : ℕ) → List ℕ → Asked
  written_by : (party : ℕ) (table : List ℕ) (name type mode : ℕ) → List ℕ → List ℕ → Asked
  set : (party : ℕ) (table : List ℕ) (type mark : ℕ) → Asked

-- and what comes of it
pub data Shown : Type 0 where
  bits : List ℕ → Shown
  value : ℕ → ℕ → Shown
  faults : ℕ → Shown
  lists : Mode → List Event → List ℕ → ℕ → Shown
  refuses : ℕ → ℕ → Path → Shown
  makes : List ℕ → ℕ → Shown
  leaves : (number place : ℕ) (words : List ℕ) → Shown

unfoldable pub shown_res : Res (ℕ × ℕ) → Shown
shown_res (got (v, p)) = value v p
shown_res (fault n) = faults n

unfoldable pub shown_reply : Reply → Shown
shown_reply (accepted mode ns q) = lists mode (events ns) (texts ns) q
shown_reply (declined n p π) = refuses n p π

unfoldable pub shown_made : Made → Shown
shown_made (made s n) = makes s n
shown_made (unmade n p) = refuses n p []

unfoldable pub shown_back : (table : List ℕ) (name : ℕ) → Reply → Shown
shown_back l name (accepted mode ns q) = shown_made (writing l 0 name 0 (mode_number mode) (event_words (events ns)) (texts ns) 100)
shown_back l name (declined n p π) = refuses n p π

unfoldable pub shown : Asked → Shown
shown (coded w) = bits w
shown (reads rd w) = shown_res (rd (source w) (length w) 0)
shown (payload l name s) = shown_reply (reading l 0 name 0 s 8192 8192)
shown (within l n s) = shown_reply (reading l 0 10 0 s n 8192)
shown (writes_in m l L T) = shown_made (writing l 0 10 0 m (event_words L) T 100)
shown (writes l L T) = shown_made (writing l 0 10 0 2 (event_words L) T 100)
shown (rewrites l name s) = shown_back l name (reading l 0 name 0 s 8192 8192)
shown (read_by p l name type s) = shown_reply (reading l p name type s 8192 8192)
shown (written_by p l name type m L T) = shown_made (writing l p name type m L T 100)
shown (set p l type mark) = let r = setting l p type mark in leaves r.number r.place r.words

pub record Case : Type 0 where
  pub ask : Asked
  pub comes : Shown

infix 25 ◌⇒◌
abbrev pub ◌⇒◌ : Asked → Shown → Case
a ⇒ s = record { ask = a; comes = s }

unfoldable pub nest : ℕ → Event → List Event
nest zero e = e ∷ []
nest (suc n) e = event 1 10 1 0 ∷ nest n e

-- P
unfoldable pub proved : List Case
proved =
    (coded (code5 0) ⇒ bits (0 ∷ 0 ∷ 0 ∷ 0 ∷ 0 ∷ []))
    ∷ (coded (code5 15) ⇒ bits (0 ∷ 1 ∷ 1 ∷ 1 ∷ 1 ∷ []))
    ∷ (coded (code5 16) ⇒ bits (1 ∷ 0 ∷ 0 ∷ 0 ∷ 0 ∷ 1 ∷ 0 ∷ 0 ∷ 0 ∷ 0 ∷ []))
    ∷ (reads read5 (0 ∷ 1 ∷ 1 ∷ 1 ∷ 1 ∷ []) ⇒ value 15 5)
    ∷ (reads read5 (1 ∷ 0 ∷ 0 ∷ 0 ∷ 0 ∷ 0 ∷ 1 ∷ 1 ∷ 1 ∷ 1 ∷ []) ⇒ faults 12)
    ∷ (reads read5 (replicate 8 1) ⇒ faults 13)
    ∷ (reads read8 (digits 8 0x7F) ⇒ value 127 8)
    ∷ (reads read8 (digits 16 0x8100) ⇒ value 128 16)
    ∷ (reads read8 (digits 16 0x8005) ⇒ faults 12)
    ∷ (reads (code_at (range_code 0 4)) (1 ∷ 0 ∷ 0 ∷ []) ⇒ value 4 3)
    ∷ (reads (code_at (range_code 0 4)) (1 ∷ 0 ∷ 1 ∷ []) ⇒ faults 14)
    ∷ (reads (code_at (range_code 7 7)) [] ⇒ value 7 0)
    ∷ (reads (code_at Code.signed) (1 ∷ 0 ∷ 0 ∷ 0 ∷ 0 ∷ 0 ∷ []) ⇒ faults 15)
    ∷ (reads (code_at Code.signed) (1 ∷ code5 (2 ^ 31)) ⇒ value (2 ^ 31) 41)
    ∷ (reads (code_at Code.signed) (0 ∷ code5 (2 ^ 31)) ⇒ faults 13)
    ∷ (payload hollow 10 (0x0F ∷ []) ⇒ lists (mode Lengths.never false) (event 1 10 0 0 ∷ event 6 0 0 0 ∷ []) [] 8)
    ∷ (payload hollow 10 (0x0F ∷ 0x00 ∷ []) ⇒ refuses 17 8 [])
    ∷ (payload (words 1) 10 (worked 0xAA 0x20) ⇒ lists (mode Lengths.always false) list (72 ∷ 105 ∷ []) 68)
    ∷ (payload (words 0) 10 (worked 0xAA 0x20) ⇒ lists (mode Lengths.always false) (front ++ (blank ∷ back)) [] 68)
    ∷ []

-- and others: the reader's refusals, the writer's in order
unfoldable pub beside : List Case
beside =
    (payload (words 1) 10 (worked 0xAA 0x21) ⇒ refuses 17 68 [])
    ∷ (payload (words 1) 10 (worked 0x6A 0x20) ⇒ refuses 10 62 (10 ∷ []))
    ∷ (payload (words 1) 10 (worked 0xEA 0x20) ⇒ refuses 11 18 (10 ∷ []))
    ∷ (payload (words 1) 10 [] ⇒ refuses 3 0 [])
    ∷ (payload (words 1) 10 (0xCF ∷ []) ⇒ refuses 4 0 [])
    ∷ (payload (words 256) 65536 [] ⇒ refuses 1 25 [])
    ∷ (payload (words 1) 65536 [] ⇒ refuses 2 0 [])
    ∷ (writes (words 1) list (72 ∷ 105 ∷ []) ⇒ makes (worked 0xAA 0x20) 68)
    ∷ (writes (words 1) [] [] ⇒ refuses 18 0 [])
    ∷ (writes (words 1) (blank ∷ []) [] ⇒ refuses 19 0 [])
    ∷ (writes (words 1) (event 1 10 0 0 ∷ []) [] ⇒ refuses 18 0 [])
    ∷ (writes (words 1) (event 1 10 1 0 ∷ event 2 20 2 0 ∷ []) [] ⇒ refuses 18 1 [])
    ∷ (writes (words 1) (event 1 10 1 0 ∷ event 2 20 1 0 ∷ event 3 5 0 0 ∷ []) [] ⇒ refuses 20 2 [])
    ∷ (writes (words 0) list (72 ∷ 105 ∷ []) ⇒ refuses 9 3 [])
    ∷ (writes (words 1) list (72 ∷ []) ⇒ refuses 23 4 [])
    ∷ (writes (words 1) list (200 ∷ 105 ∷ []) ⇒ refuses 16 4 [])
    ∷ (writes (words 1) list (72 ∷ 105 ∷ 1 ∷ []) ⇒ refuses 23 14 [])
    ∷ (writes (words 1) (list ++ (blank ∷ [])) (72 ∷ 105 ∷ []) ⇒ refuses 19 14 [])
    ∷ (writes tangle (nest 32 blank) [] ⇒ refuses 6 32 [])
    ∷ (writes tangle (nest 31 (event 1 10 1 0)) [] ⇒ refuses 18 32 [])
    ∷ []

-- request 1's examples
unfoldable pub cast_cases : List Case
cast_cases =
    (payload (cast 1) 10 casted ⇒ lists (mode Lengths.always true) cast_list (72 ∷ 105 ∷ []) 62)
    ∷ (payload (cast 0) 10 casted
    ⇒ lists (mode Lengths.always true) (event 1 10 1 10 ∷ event 7 11 2 34 ∷ event 1 12 1 5 ∷ event 8 1 1 4 ∷ event 3 1 0 1 ∷ event 6 0 0 0 ∷ event 6 0 0 0 ∷ []) [] 62)
    ∷ (payload (cast 1) 10 (0x9F ∷ 0x70 ∷ 0x91 ∷ 0x00 ∷ [])
    ⇒ lists (mode Lengths.always true) (event 1 10 1 5 ∷ event 1 11 1 5 ∷ event 8 1 0 1 ∷ event 3 1 0 1 ∷ event 6 0 0 0 ∷ event 1 12 1 5 ∷ event 8 3 0 2 ∷ event 6 0 0 0 ∷ event 6 0 0 0 ∷ []) [] 27)
    ∷ (payload (cast 1) 10 (0x8F ∷ 0x8A ∷ 0x03 ∷ 0x86 ∷ 0x28 ∷ 0x92 ∷ 0x1A ∷ 0x40 ∷ [])
    ⇒ lists (mode Lengths.always false) (event 1 10 1 10 ∷ event 1 11 1 5 ∷ event 3 1 0 1 ∷ event 6 0 0 0 ∷ event 1 12 1 10 ∷ event 8 2 2 3 ∷ event 3 2 0 21 ∷ event 6 0 0 0 ∷ event 6 0 0 0 ∷ []) (72 ∷ 105 ∷ []) 58)
    ∷ (payload (cast 1) 10 (0x1F ∷ 0xBA ∷ 0x90 ∷ [])
    ⇒ lists (mode Lengths.never true) (event 1 10 0 0 ∷ event 1 11 0 0 ∷ event 8 3 0 3 ∷ event 6 0 0 0 ∷ event 1 12 0 0 ∷ event 8 4 3 4 ∷ event 3 9 0 5 ∷ event 6 0 0 0 ∷ event 6 0 0 0 ∷ []) [] 20)
    ∷ (payload (cast 1) 10 (0x1F ∷ 0xE0 ∷ []) ⇒ refuses 14 8 (10 ∷ []))
    ∷ (payload (cast 1) 10 (0x1F ∷ 0x38 ∷ []) ⇒ refuses 14 10 (10 ∷ []))
    ∷ (payload (cast 1) 10 (0x9F ∷ 0x38 ∷ 0x20 ∷ []) ⇒ refuses 5 18 (10 ∷ []))
    ∷ (payload (cast 0) 10 (0x1F ∷ 0x81 ∷ 0x41 ∷ 0x00 ∷ []) ⇒ refuses 9 8 (10 ∷ []))
    ∷ (payload (cast_rows 1 1) 10 casted ⇒ refuses 4 0 [])
    ∷ (within (cast 1) 8 casted ⇒ refuses 7 28 (10 ∷ 11 ∷ []))
    ∷ (writes_in 6 (cast 1) cast_list (72 ∷ 105 ∷ []) ⇒ makes casted 62)
    ∷ (writes_in 4 (cast 1) (event 1 10 0 0 ∷ event 1 11 0 0 ∷ event 8 0 0 0 ∷ []) [] ⇒ refuses 20 2 [])
    ∷ (writes_in 4 (cast 1) (event 1 10 0 0 ∷ event 1 11 0 0 ∷ event 8 1 0 0 ∷ event 3 0 0 0 ∷ event 6 0 0 0 ∷ event 1 12 0 0 ∷ event 8 3 4 0 ∷ []) [] ⇒ refuses 20 6 [])
    ∷ (writes_in 0 (cast 1) (event 1 10 0 0 ∷ event 1 11 0 0 ∷ event 8 2 0 0 ∷ []) [] ⇒ refuses 18 2 [])
    ∷ (writes_in 4 (cast 1) (event 1 10 0 0 ∷ event 1 11 0 0 ∷ event 3 1 0 0 ∷ []) [] ⇒ refuses 18 2 [])
    ∷ (writes_in 4 (cast 0) (event 1 10 0 0 ∷ event 1 11 0 0 ∷ event 8 2 0 0 ∷ event 3 0 0 0 ∷ []) [] ⇒ refuses 9 1 [])
    ∷ (writes_in 3 (cast 1) [] [] ⇒ refuses 22 0 [])
    ∷ (writes_in 7 (cast 1) [] [] ⇒ refuses 22 0 [])
    ∷ (writes_in 4 (cast_rows 1 1) [] [] ⇒ refuses 22 0 [])
    ∷ []

-- request 3's examples, and those where it meets request 1
unfoldable pub sized : ℕ → List Event
sized n = event 1 1 1 n ∷ event 3 1 0 1 ∷ event 6 0 0 0 ∷ []

unfoldable pub three_groups : List ℕ
three_groups = 0x8F ∷ 0xC0 ∷ 0x65 ∷ 0x50 ∷ 0xA8 ∷ 0x92 ∷ 0x1A ∷ 0x70 ∷ 0x61 ∷ 0x00 ∷ []

unfoldable pub two_groups : List ℕ
two_groups = 0x8F ∷ 0x80 ∷ 0x60 ∷ []

unfoldable pub eight_groups : List ℕ
eight_groups = 0x8F ∷ 0xFE ∷ 0x00 ∷ 0x00 ∷ 0x00 ∷ 0x01 ∷ 0x80 ∷ []

unfoldable pub inner_padded : List ℕ
inner_padded = 0x9F ∷ 0x8C ∷ 0x70 ∷ 0x0C ∷ 0x41 ∷ 0x24 ∷ 0x34 ∷ 0x96 ∷ 0x20 ∷ []

unfoldable pub padded_cases : List Case
padded_cases =
    (payload (words 1) 10 three_groups
    ⇒ lists (mode Lengths.always false)
    (event 1 10 1 15 ∷ event 2 20 1 1 ∷ event 3 4294967295 0 3 ∷ event 1 11 1 10 ∷ event 3 2 0 21 ∷ event 6 0 0 0 ∷ back) (72 ∷ 105 ∷ []) 73)
    ∷ (rewrites (words 1) 10 three_groups ⇒ makes (worked 0xAA 0x20) 68)
    ∷ (payload (simply 0) 1 (0x8F ∷ 0x0C ∷ []) ⇒ lists (mode Lengths.always false) (sized 5) [] 14)
    ∷ (payload (simply 0) 1 two_groups ⇒ lists (mode Lengths.always false) (sized 10) [] 19)
    ∷ (rewrites (simply 0) 1 two_groups ⇒ makes (0x8F ∷ 0x0C ∷ []) 14)
    ∷ (payload (simply 0) 1 eight_groups ⇒ lists (mode Lengths.always false) (sized 40) [] 49)
    ∷ (rewrites (simply 0) 1 eight_groups ⇒ makes (0x8F ∷ 0x0C ∷ []) 14)
    ∷ (payload (simply 0) 1 (0x8F ∷ 0xFF ∷ 0x00 ∷ 0x00 ∷ 0x00 ∷ 0x00 ∷ []) ⇒ refuses 13 8 [])
    ∷ (payload hollow 1 (0x8F ∷ 0x80 ∷ 0x00 ∷ []) ⇒ lists (mode Lengths.always false) (event 1 1 1 10 ∷ event 6 0 0 0 ∷ []) [] 18)
    ∷ (payload (simply 2) 1 (0x0F ∷ 0x80 ∷ 0x40 ∷ []) ⇒ refuses 12 8 (1 ∷ []))
    ∷ (payload (simply 2) 1 (0x8F ∷ 0x82 ∷ 0xA0 ∷ 0x10 ∷ []) ⇒ refuses 12 18 (1 ∷ []))
    ∷ (payload (simply 0) 1 (0x8F ∷ 0x80 ∷ 0xA0 ∷ []) ⇒ refuses 11 18 (1 ∷ []))
    ∷ (payload (simply 0) 1 (0x8F ∷ 0x82 ∷ 0x60 ∷ []) ⇒ refuses 10 8 [])
    ∷ (payload (simply 0) 1 (0x8F ∷ 0xE0 ∷ []) ⇒ refuses 5 8 [])
    ∷ (payload (cast 1) 10 inner_padded
    ⇒ lists (mode Lengths.always true)
    (event 1 10 1 10 ∷ event 1 11 1 15 ∷ event 8 2 0 3 ∷ event 3 2 0 21 ∷ event 6 0 0 0 ∷ event 1 12 1 5 ∷ event 8 1 1 4 ∷ event 3 1 0 1 ∷ event 6 0 0 0 ∷ event 6 0 0 0 ∷ []) (72 ∷ 105 ∷ []) 67)
    ∷ (rewrites (cast 1) 10 inner_padded ⇒ makes casted 62)
    ∷ (payload (cast 1) 10 (0x9F ∷ 0x8C ∷ 0x70 ∷ 0x0C ∷ 0x71 ∷ 0x24 ∷ 0x34 ∷ 0x96 ∷ 0x20 ∷ []) ⇒ refuses 14 33 (10 ∷ []))
    ∷ (payload (cast 1) 10 (0x9F ∷ 0x8C ∷ 0x70 ∷ 0x0C ∷ 0xC1 ∷ 0x24 ∷ 0x34 ∷ 0xCB ∷ 0x10 ∷ []) ⇒ refuses 11 33 (10 ∷ 11 ∷ []))
    ∷ []

-- request 9's tables: one type, which is a text; one with nothing but an attribute that is one
unfoldable pub spoken : List ℕ
spoken = 1 ∷ 1 ∷ 0 ∷ 0 ∷ 1 ∷ 1 ∷ 0 ∷ 0 ∷ 5 ∷ 0 ∷ 0 ∷ []

unfoldable pub labelled : List ℕ
labelled = 1 ∷ 2 ∷ 1 ∷ 0 ∷ 1 ∷ 0 ∷ 0 ∷ 1 ∷ 0 ∷ 0 ∷ 0 ∷ 1 ∷ 1 ∷ 0 ∷ 0 ∷ 5 ∷ 0 ∷ 0 ∷ 20 ∷ 1 ∷ 1 ∷ []

unfoldable pub bell : List ℕ
bell = 0x8F ∷ 0x8C ∷ 0xAA ∷ 0x15 ∷ 0x12 ∷ 0x08 ∷ 0x3E ∷ 0x0C ∷ 0x20 ∷ []

-- and its examples
unfoldable pub control_cases : List Case
control_cases =
    (payload spoken 1 (0x0F ∷ 0x18 ∷ 0x48 ∷ 0x50 ∷ 0x68 ∷ [])
    ⇒ lists (mode Lengths.never false) (event 1 1 0 0 ∷ event 3 3 0 29 ∷ event 6 0 0 0 ∷ []) (9 ∷ 10 ∷ 13 ∷ []) 37)
    ∷ (payload spoken 1 (0x0F ∷ 0x13 ∷ 0x08 ∷ 0x38 ∷ []) ⇒ refuses 25 8 (1 ∷ []))
    ∷ (payload spoken 1 (0x0F ∷ 0x08 ∷ 0x00 ∷ []) ⇒ refuses 25 8 (1 ∷ []))
    ∷ (payload spoken 1 (0x0F ∷ 0x08 ∷ 0xF8 ∷ []) ⇒ refuses 25 8 (1 ∷ []))
    ∷ (payload spoken 1 (0x0F ∷ 0x1B ∷ 0xFE ∷ 0x14 ∷ 0x28 ∷ [])
    ⇒ lists (mode Lengths.never false) (event 1 1 0 0 ∷ event 3 3 0 29 ∷ event 6 0 0 0 ∷ []) (0x7F ∷ 0xC2 ∷ 0x85 ∷ []) 37)
    ∷ (payload spoken 1 (0x0F ∷ 0x10 ∷ 0x3F ∷ 0xF8 ∷ []) ⇒ refuses 16 8 (1 ∷ []))
    ∷ (within spoken 4 (0x0F ∷ 0x08 ∷ 0x38 ∷ []) ⇒ refuses 25 8 (10 ∷ []))
    ∷ (payload (words 1) 10 bell ⇒ refuses 25 32 (10 ∷ 11 ∷ []))
    ∷ (payload (words 0) 10 bell ⇒ lists (mode Lengths.always false) (front ++ (blank ∷ back)) [] 68)
    ∷ (writes_in 0 spoken (event 1 10 0 0 ∷ event 3 1 0 0 ∷ event 6 0 0 0 ∷ []) (7 ∷ []) ⇒ refuses 25 1 [])
    ∷ (writes_in 0 spoken (event 1 10 0 0 ∷ event 3 2 0 0 ∷ event 6 0 0 0 ∷ []) (7 ∷ []) ⇒ refuses 23 1 [])
    ∷ (writes_in 0 labelled (event 1 10 0 0 ∷ event 2 20 1 0 ∷ event 3 1 0 0 ∷ event 6 0 0 0 ∷ []) (11 ∷ []) ⇒ refuses 25 2 [])
    ∷ []

-- request 5's table: a boolean with this held word; and request 1's, held by parties 0 and 1, but for type 2 by party 1 alone
unfoldable pub shared : ℕ → List ℕ
shared held = 1 ∷ 1 ∷ 0 ∷ 0 ∷ held ∷ 1 ∷ 0 ∷ 0 ∷ 0 ∷ 0 ∷ 0 ∷ []

unfoldable pub joined : List ℕ
joined = settings (cast 1) (change 1 0 1 ∷ change 1 1 1 ∷ change 1 2 1 ∷ change 1 3 1 ∷ change 1 4 1 ∷ change 0 2 0 ∷ [])

-- and its examples
unfoldable pub party_cases : List Case
party_cases =
    (read_by 2 (shared 4) 1 0 (0x8F ∷ 0x0C ∷ []) ⇒ lists (mode Lengths.always false) (sized 5) [] 14)
    ∷ (read_by 0 (shared 4) 1 0 (0x8F ∷ 0x0C ∷ []) ⇒ lists (mode Lengths.always false) (event 7 1 0 6 ∷ []) [] 14)
    ∷ (read_by 0 (shared 4) 1 0 (0x0F ∷ 0x80 ∷ []) ⇒ refuses 9 8 [])
    ∷ (read_by 8 (shared 4) 1 0 (0x8F ∷ 0x0C ∷ []) ⇒ refuses 26 0 [])
    ∷ (read_by 8 (shared 4) 1 0 [] ⇒ refuses 26 0 [])
    ∷ (read_by 8 (shared 4) 1 1 (0x8F ∷ 0x0C ∷ []) ⇒ refuses 2 0 [])
    ∷ (written_by 8 (shared 4) 1 0 9 (1 ∷ 1 ∷ 1 ∷ 0 ∷ 3 ∷ []) [] ⇒ refuses 26 0 [])
    ∷ (written_by 8 (shared 4) 1 1 9 (1 ∷ 1 ∷ 1 ∷ 0 ∷ 3 ∷ []) [] ⇒ refuses 2 0 [])
    ∷ (written_by 0 (shared 4) 1 0 2 (event_words (sized 0)) [] ⇒ refuses 9 0 [])
    ∷ (written_by 2 (shared 4) 1 0 2 (event_words (sized 0)) [] ⇒ makes (0x8F ∷ 0x0C ∷ []) 14)
    ∷ (set 0 (shared 4) 0 1 ⇒ leaves 0 0 (shared 5))
    ∷ (set 2 (shared 4) 0 0 ⇒ leaves 0 0 (shared 0))
    ∷ (set 7 (shared 4) 0 5 ⇒ leaves 0 0 (shared 132))
    ∷ (set 8 (shared 4) 0 1 ⇒ leaves 26 0 (shared 4))
    ∷ (set 8 (shared 4) 1 1 ⇒ leaves 2 0 (shared 4))
    ∷ (set 0 (shared 4) 1 1 ⇒ leaves 2 0 (shared 4))
    ∷ (read_by 0 (shared 256) 1 0 (0x8F ∷ 0x0C ∷ []) ⇒ refuses 1 4 [])
    ∷ (set 0 (shared 256) 0 1 ⇒ leaves 1 4 (shared 256))
    ∷ (read_by 0 joined 10 0 casted
    ⇒ lists (mode Lengths.always true)
    (event 1 10 1 10 ∷ event 7 11 2 34 ∷ event 1 12 1 5 ∷ event 8 1 1 4 ∷ event 3 1 0 1 ∷ event 6 0 0 0 ∷ event 6 0 0 0 ∷ []) [] 62)
    ∷ (read_by 1 joined 10 0 casted ⇒ lists (mode Lengths.always true) cast_list (72 ∷ 105 ∷ []) 62)
    ∷ (written_by 0 joined 10 0 6 (event_words cast_list) (72 ∷ 105 ∷ []) ⇒ refuses 9 1 [])
    ∷ []

-- request 10's table: one type, a text that is not held; what a payload of it is read as
unfoldable pub unspoken : List ℕ
unspoken = 1 ∷ 1 ∷ 0 ∷ 0 ∷ 0 ∷ 1 ∷ 0 ∷ 0 ∷ 5 ∷ 0 ∷ 0 ∷ []

unfoldable pub stepped_over : (last taken used : ℕ) → Case
stepped_over last taken used = payload unspoken 1 (0x8F ∷ last ∷ []) ⇒ lists (mode Lengths.always false) (event 7 1 0 taken ∷ []) [] used

unfoldable pub said : (last v : ℕ) → Case
said last v = payload (simply 0) 1 (0x0F ∷ last ∷ []) ⇒ lists (mode Lengths.never false) (event 1 1 0 0 ∷ event 3 v 0 1 ∷ event 6 0 0 0 ∷ []) [] 9

-- and its examples: what is butted is refused at the end of the first, also where what follows is no payload; eight payloads have one list with a
-- Blank, and so have two of the worked example, which differ by a bit in it
unfoldable pub butted_cases : List Case
butted_cases =
    said 0x00 0 ∷ said 0x80 1
    ∷ (payload (simply 0) 1 (0x0F ∷ 0x80 ∷ 0x0F ∷ 0x00 ∷ []) ⇒ refuses 17 9 [])
    ∷ (payload (simply 0) 1 (0x0F ∷ 0x81 ∷ []) ⇒ refuses 17 9 [])
    ∷ stepped_over 0x18 8 16 ∷ stepped_over 0x19 8 16 ∷ stepped_over 0x1A 8 16 ∷ stepped_over 0x1B 8 16
    ∷ stepped_over 0x1C 8 16 ∷ stepped_over 0x1D 8 16 ∷ stepped_over 0x1E 8 16 ∷ stepped_over 0x1F 8 16
    ∷ stepped_over 0x00 5 13 ∷ stepped_over 0x10 7 15
    ∷ (payload (words 1) 10 (worked 0xAA 0x20 ++ worked 0xAA 0x20) ⇒ refuses 17 68 [])
    ∷ (payload (words 0) 10 (0x8F ∷ 0x8C ∷ 0xAA ∷ 0x15 ∷ 0x12 ∷ 0x42 ∷ 0x4E ∷ 0x0C ∷ 0x20 ∷ [])
    ⇒ lists (mode Lengths.always false) (front ++ (blank ∷ back)) [] 68)
    ∷ []

-- request 14's tables: a date alone; an optional attribute that is one. What a payload of the first is read as, and what a list is written as
unfoldable pub tagged : List ℕ
tagged = 1 ∷ 2 ∷ 1 ∷ 0 ∷ 1 ∷ 0 ∷ 0 ∷ 1 ∷ 0 ∷ 0 ∷ 0 ∷ 1 ∷ 1 ∷ 0 ∷ 0 ∷ 8 ∷ 0 ∷ 0 ∷ 20 ∷ 0 ∷ 1 ∷ []

unfoldable pub dated : (kind p q n : ℕ) → List ℕ → Case
dated kind p q n l = payload (simply kind) 1 (0x0F ∷ l) ⇒ lists (mode Lengths.never false) (event 1 1 0 0 ∷ event 3 p q n ∷ event 6 0 0 0 ∷ []) [] (8 + n)

unfoldable pub dating : (kind p q : ℕ) → Shown → Case
dating kind p q s = writes_in 0 (simply kind) (event 1 10 0 0 ∷ event 3 p q 0 ∷ event 6 0 0 0 ∷ []) [] ⇒ s

-- and its examples
unfoldable pub date_cases : List Case
date_cases =
    dated 7 31684 141417728 64 (0x00 ∷ 0x00 ∷ 0xAD ∷ 0x2A ∷ 0x00 ∷ 0x6D ∷ 0xDD ∷ 0x00 ∷ [])
    ∷ dated 7 32001 4070332840 64 (0x00 ∷ 0x00 ∷ 0xC9 ∷ 0x75 ∷ 0x02 ∷ 0x9C ∷ 0x59 ∷ 0xA8 ∷ [])
    ∷ dated 7 32019 134217728 64 (0x00 ∷ 0x00 ∷ 0xCB ∷ 0x01 ∷ 0x00 ∷ 0x00 ∷ 0x00 ∷ 0x00 ∷ [])
    ∷ dated 7 29739 2281701376 64 (0x00 ∷ 0x00 ∷ 0x00 ∷ 0x00 ∷ 0x00 ∷ 0x00 ∷ 0x00 ∷ 0x00 ∷ [])
    ∷ dated 7 188177276 891706367 64 (0xFF ∷ 0xFF ∷ 0xFF ∷ 0xFF ∷ 0x05 ∷ 0x26 ∷ 0x5B ∷ 0xFF ∷ [])
    ∷ (payload (simply 7) 1 (0x0F ∷ 0x00 ∷ 0x00 ∷ 0x00 ∷ 0x00 ∷ 0x05 ∷ 0x26 ∷ 0x5C ∷ 0x00 ∷ []) ⇒ refuses 14 8 (1 ∷ []))
    ∷ (payload (simply 7) 1 (0x0F ∷ 0x00 ∷ 0x00 ∷ 0x00 ∷ 0x00 ∷ 0x00 ∷ 0x00 ∷ 0x00 ∷ []) ⇒ refuses 5 8 (1 ∷ []))
    ∷ dated 8 31684 134217728 32 (0x00 ∷ 0x00 ∷ 0xAD ∷ 0x2A ∷ [])
    ∷ dated 8 29740 4160749568 32 (0x00 ∷ 0x00 ∷ 0x00 ∷ 0x2C ∷ [])
    ∷ dated 8 29745 134217728 32 (0x00 ∷ 0x00 ∷ 0x00 ∷ 0x2D ∷ [])
    ∷ dated 8 188177276 805306368 32 (0xFF ∷ 0xFF ∷ 0xFF ∷ 0xFF ∷ [])
    ∷ (payload tagged 1 (0x0F ∷ 0x80 ∷ 0x00 ∷ 0x56 ∷ 0x95 ∷ 0x00 ∷ [])
    ⇒ lists (mode Lengths.never false) (event 1 1 0 0 ∷ event 2 20 1 1 ∷ event 3 31684 134217728 32 ∷ event 6 0 0 0 ∷ []) [] 41)
    ∷ dating 7 31684 141417728 (makes (0x0F ∷ 0x00 ∷ 0x00 ∷ 0xAD ∷ 0x2A ∷ 0x00 ∷ 0x6D ∷ 0xDD ∷ 0x00 ∷ []) 72)
    ∷ dating 8 32002 3892314112 (makes (0x0F ∷ 0x00 ∷ 0x00 ∷ 0xC9 ∷ 0x93 ∷ []) 40)
    ∷ dating 8 30402 3892314112 (refuses 20 1 []) ∷ dating 8 32397 134217728 (refuses 20 1 []) ∷ dating 8 32388 4160749568 (refuses 20 1 [])
    ∷ dating 8 32388 0 (refuses 20 1 []) ∷ dating 8 32388 134217729 (refuses 20 1 []) ∷ dating 7 32388 220617728 (refuses 20 1 [])
    ∷ dating 7 29739 2147483648 (refuses 20 1 []) ∷ dating 7 188177276 939524096 (refuses 20 1 []) ∷ dating 2 5 1 (refuses 18 1 [])
    ∷ []

unfoldable pub all : List Case
all = proved ++ (beside ++ (cast_cases ++ (padded_cases ++ (control_cases ++ (party_cases ++ (butted_cases ++ date_cases))))))

pub cases : map (λ (c : Case). shown c.ask) all ≡ map (λ (c : Case). c.comes) all
unfolding all shared joined party_cases Setting.marked Setting.setting_by Setting.setting Setting.settings spoken labelled bell control_cases words hollow tangle worked front back list blank shown_res shown_reply shown_made shown nest cast_rows cast casted cast_list cast_cases proved beside Model.chosen Model.default_type Model.effective_type Model.sends Model.codes Items.substitute_code Items.type_code Items.codes_at Read.cast_at Write.place_in Write.standing Write.codes_out Write.casts Whole.lengths_number Whole.modes_for Whole.mode_by Simple.one_of Valid.derived_words Valid.substitute_words Valid.among Valid.once Valid.words_from Valid.type_pair Valid.row_pair Valid.derived_row Valid.substitute_row Valid.type_pair_row Valid.row_pair_row Valid.cast_words Valid.form_words Valid.form_size Valid.count_words Valid.length_right Rows.substitutes_from Rows.substitutes_of Rows.derived_from Rows.derived_of Model.event_of Model.value Model.maybe Model.attribute Model.attributes Model.contents Model.rows Model.within Model.due Model.plan Model.◌then◌ Model.flag_of Model.events Model.texts Model.tree_slots Model.tree_bytes Model.tree_bits Items.form_of Items.form_at Items.item_at Items.length_at Items.head_at Read.onto Read.after Read.code Read.kept Read.stored Read.met Read.ended Read.closed Read.entered Read.bare Read.sized Read.opened Read.element_at Read.read Write.put Write.along Write.unlike Write.matched Write.taken Write.word_of Write.flag_in Write.simple_out Write.form_out Write.item_out Write.coded Write.head_out Write.sealed Write.too_deep Write.allowed Write.element_out Write.write Pack.pack Whole.mode_byte Whole.mode_number Whole.mode_of Whole.zeros Whole.padding Whole.padded Whole.replied Whole.root_in Whole.in_mode Whole.payload Whole.asked Whole.after_asked Whole.after_verdict Whole.reading Whole.event_words Whole.filled Whole.outcome Whole.events_left Whole.texts_left Whole.events_from Whole.roomed Whole.spent Whole.mode_asked Whole.shaped Whole.written Whole.or_unmade Whole.verdict_made Whole.writing Whole.outcome_made Whole.payload_left Code.HasCode Code.bits_of Code.choice_at Code.number_at Code.signed_of Code.some_of Code.code_at Code.fits Code.code_out Code.size_out Simple.span_code Simple.range_code Simple.unbounded_code Simple.bounded_code Simple.times_code Simple.simple_of Simple.bytes Simple.bytes_at Simple.unless Simple.text_of Simple.simple_at First.first First.◌then◌ First.judge Valid.given Valid.header_words Valid.front_words Valid.unused_words Valid.range_words Valid.enumeration_words Valid.kind_words Valid.empty_words Valid.simple_words Valid.particles_words Valid.content_words Valid.attribute_words Valid.element_words Valid.group_words Valid.occurs_words Valid.particle_words Valid.rows Valid.type_row Valid.attribute_row Valid.particle_row Valid.row_words Valid.verdict_from Valid.verdict Valid.right_at Rows.content_from Rows.row_from Rows.content_of Rows.row_at Rows.row_of Rows.attribute_of Rows.attributes_from Rows.first_of Rows.count_of Rows.attributes_of Rows.table_of Rows.held_of Res.◌>>=◌ Res.◌>>◌ Res.guard Res.at_most Bits.bit_at Bits.num Bits.fixed_at Bits.digits Width.least_from Width.width Number.ones_at Number.is_short Number.groups_at Number.number5 Number.second8_at Number.number8 Number.strict Number.read5 Number.read8 Number.more Number.code_of5 Number.code5 Number.code8 utf8.has utf8.lines utf8.begun utf8.open-lines utf8.goes_on utf8.is_control utf8.has_control utf8.fault_of utf8.text_fault signed.gap_of signed.sign_of signed.magnitude_of signed.word_of signed.wrapped simply sized three_groups two_groups eight_groups inner_padded padded_cases shown_back unspoken stepped_over said butted_cases tagged dated dating date_cases Simple.first_word Simple.second_word Simple.value_of Simple.untexted Code.clock_at Dates.day_in Dates.stamp_bits Dates.day_bits Dates.day_fits Formulas.year_start Formulas.month_start Formulas.from_march Formulas.monthly Formulas.yearly Formulas.civil Formulas.date_by Formulas.days_to Formulas.in_word Formulas.day_by Plain.leap Plain.days_in
cases = refl
