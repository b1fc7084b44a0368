-- What notes spell: the bits of a note, and of the notes of n events from event i on. X are all the texts.
use Rattle.std.specs.Prelude.{Result, Ok, Err}
use Rattle.numbers.specs.declared.refusal.Refusal.{Refusal}
use Rattle.numbers.specs.Refused.{number_of}
use Rattle.std.specs.Prelude.{ℕ, zero, suc, ◌+◌, ◌-◌, ◌*◌, ◌/◌, ◌%◌, ◌^◌, ◌≤◌, ◌≡◌, cond, List, [], ◌++◌, ltb, length, get_or, set, take, drop}
use Rattle.wire.specs.Res.{Res, got, fault}
use Rattle.wire.specs.Bits.{digits}
use Rattle.wire.specs.Number.{code5}
use Rattle.wire.specs.Coded.{Codes}
use Rattle.wire.specs.declared.Coded.{Coded}
use Rattle.value.specs.Simple.{bytes}
use Rattle.numbers.specs.Limit.{most_derivations}
use Rattle.writer_parts.specs.declared.SizedNote.{SizedNote}

-- where the notes of texts begin, and those of dates with a clock
abbrev pub texts_from : ℕ
texts_from = 140737488355328

abbrev pub dates_from : ℕ
dates_from = 9223372036854775808

-- how many bits, and the bits, in the 41 lowest places
unfoldable pub code_bits : ℕ → List ℕ
code_bits x = digits (x / 2 ^ 41) x

-- a text: where it begins in the texts, and how many bytes it is, at most 4095
unfoldable pub text_bits : List ℕ → ℕ → List ℕ
text_bits X y = code5 (y % 4096) ++ bytes (take (y % 4096) (drop (y / 4096) X))

-- a date with a clock: the days, and the milliseconds in the 27 lowest places
unfoldable pub date_bits : ℕ → List ℕ
date_bits y = digits 32 (y / 2 ^ 27) ++ digits 32 (y % 2 ^ 27)

-- a note is one number
unfoldable pub note_bits : List ℕ → ℕ → List ℕ
note_bits X x = cond (ltb x texts_from) (code_bits x) (cond (ltb x dates_from) (text_bits X (x - texts_from)) (date_bits (x - dates_from)))

-- of event i
unfoldable pub note_at : List ℕ → List ℕ → ℕ → List ℕ
note_at X N i = note_bits X (get_or N i 0)

unfoldable pub spells : List ℕ → List ℕ → ℕ → ℕ → List ℕ
spells X N i zero = []
spells X N i (suc n) = note_at X N i ++ spells X N (i + 1) n

-- the notes N with n at event i
abbrev pub keeps : List ℕ → ℕ → ℕ → List ℕ
keeps N i n = set N i n

-- a note that is these bits, whatever the texts
pub record Noted (n : ℕ) (w : List ℕ) : Type 0 where
  pub is : (X : List ℕ) → note_bits X n ≡ w

-- a code that is these bits, so many at most
pub record Short (most : ℕ) (c : Coded) (w : List ℕ) : Type 0 where
  pub code : Codes c w
  pub few : c.size ≤ most

-- a flag before a code, whatever that is
pub record Flagged (flag : ℕ) (c r : Coded) : Type 0 where
  pub long : r.size ≡ c.size + 1
  pub is : (w : List ℕ) → Codes c w → Codes r (digits 1 flag ++ w)

-- the most that there is to choose from
abbrev pub most_choices : ℕ
most_choices = most_derivations

-- what was worked out as a code, or refused
pub record Gives (most : ℕ) (m : Res (List ℕ)) (c : Coded) : Type 0 where
  pub bits : List ℕ
  pub out : m ≡ got bits
  pub code : Short most c bits

abbrev pub Spelling : Type 0
Spelling = Result Coded Refusal

abbrev pub SpeltIs : ℕ → Res (List ℕ) → Spelling → Type 0
SpeltIs most m (Err e) = m ≡ fault (number_of e)
SpeltIs most m (Ok c) = Gives most m c

pub record Spelt (most : ℕ) (m : Res (List ℕ)) (r : Spelling) : Type 0 where
  pub is : SpeltIs most m r

-- a text's note
abbrev pub text_note : ℕ → ℕ → ℕ
text_note n from = texts_from + from * 4096 + n

-- a date that is these bits, few of them
pub record DateNote (h : SizedNote) (w : List ℕ) : Type 0 where
  pub note : Noted h.note w
  pub long : h.bits ≡ length w
  pub short : h.bits ≤ 64
