-- The writing of a plan: from events without their fourth words, and texts, the bits, with the events and the texts left
-- over. A refusal says how many events were then left, the one at fault among them: the event's index is the number of all less that.
-- Document 01's order: no_reading where none is left (`deep`, `taken`); depth (`deep`); blank, no_reading (`taken`); not_held
-- (`element_out`); outside_row, text_bytes, not_utf8, control (`item_out`).
use Rattle.std.specs.Prelude.{ℕ, zero, suc, min, Bool, true, false, cond, List, [], ◌∷◌, ◌++◌, length, take, drop, eqb}
use Rattle.numbers.specs.Refusal as refusal
use Rattle.numbers.specs.Refusal.{not_held, no_reading, text_bytes}
use Rattle.numbers.specs.Kind as kinds
use Rattle.wire.specs.Res.{Res, got, fault, ◌>>=◌, ◌>>◌, at_most}
use Rattle.value.specs.Code.{bits_of, code_out}
use Rattle.value.specs.Simple.{Simple, plain, text, dated, simple_of, value_of, count, bytes, unless}
use Rattle.utf8.specs.Text.{text_fault}
use Rattle.model.specs.Model.{Event, end, Item, event_of, Types, codes, default_type, Plan}
use Rattle.model.specs.Model.Plan.{done, deep, item, element}
use Rattle.model.specs.Model.Item.{required, optional, valued, picked, counted}
use Rattle.model.specs.Items.{Lengths, flag, the_length, substitute_code, type_code, Form, present, simply, form_of, Length, free, long}

-- an event without its fourth word
pub record Bare : Type 0 where
  pub kind : ℕ
  pub p : ℕ
  pub q : ℕ

abbrev pub bare : Event → Bare
bare e = record { kind = e.kind; p = e.p; q = e.q }

-- bits, events left, texts left; or number and events left
pub data Out : Type 0 where
  wrote : List ℕ → List Bare → List ℕ → Out
  refused : (number left : ℕ) → Out

-- bits before what is written; one part after another
unfoldable pub put : List ℕ → Out → Out
put w (wrote x M T) = wrote (w ++ x) M T
put w (refused n i) = refused n i

unfoldable pub along : Out → (List Bare → List ℕ → Out) → Out
along (wrote w M T) k = put w (k M T)
along (refused n i) k = refused n i

-- what is wrong with the event e where f is wanted: nothing (0); it is a Blank; another kind, name, flag or fixed word
unfoldable pub unlike : Bare → Bare → ℕ
unlike f e = cond (eqb f.kind e.kind) (cond (eqb f.p e.p) (cond (eqb f.q e.q) 0 no_reading) no_reading) (cond (eqb e.kind kinds.blank) refusal.blank no_reading)

unfoldable pub matched : ℕ → ℕ → Out → Out
matched zero i o = o
matched (suc n) i o = refused (suc n) i

-- the next event, where the one wanted is made from it
unfoldable pub taken : (Bare → Bare) → List Bare → (Bare → List Bare → Out) → Out
taken f [] k = refused no_reading 0
taken f (e ∷ M) k = matched (unlike (f e) e) (suc (length M)) (k e M)

-- the value that an item's event gives, and the event that this value has
unfoldable pub word_of : Item → Bare → ℕ
word_of (required name) e = 1
word_of (optional name) e = min e.q 1
word_of (valued kind b c) e = value_of (simple_of kind b c) e.p e.q
word_of (picked n) e = e.p
word_of (counted least most) e = e.p

abbrev pub as_item : Item → Bare → Bare
as_item i e = bare (event_of i (word_of i e) 0)

-- a Start's second word: 0 in mode 0, 1 in mode 2, either in mode 1
unfoldable pub flag_in : Lengths → ℕ → ℕ
flag_in Lengths.never q = 0
flag_in Lengths.optional q = min q 1
flag_in Lengths.always q = 1

-- of the codes' event no word is fixed
abbrev pub as_cast : Bare → Bare
as_cast e = record { kind = kinds.cast; p = e.p; q = e.q }

abbrev pub as_start : Lengths → ℕ → Bare → Bare
as_start mode name e = record { kind = kinds.start; p = name; q = flag_in mode e.q }

abbrev pub as_end : Bare → Bare
as_end e = bare end

-- a value's bits, and the texts left: a value that its row has; then, for a text, enough bytes, and UTF-8
unfoldable pub simple_out : Simple → ℕ → List ℕ → Res (List ℕ × List ℕ)
simple_out (plain c) v T = do
  w ← code_out c v
  got (w, T)
simple_out text v T = do
  w ← code_out count v
  at_most v (length T) text_bytes
  unless (text_fault (take v T))
  got (w ++ bytes (take v T), drop v T)
simple_out (dated c) v T = do
  w ← code_out c v
  got (w, T)

unfoldable pub form_out : Form → ℕ → List ℕ → Res (List ℕ × List ℕ)
form_out present v T = got ([], T)
form_out (simply s) v T = simple_out s v T

unfoldable pub item_out : Item → ℕ → List ℕ → Res (List ℕ × List ℕ)
item_out i v T = form_out (form_of i) v T

-- a leaf's bits, or its refusal at the event
unfoldable pub coded : {A : Type 0} → Res A → ℕ → (A → Out) → Out
coded (got a) i k = k a
coded (fault n) i k = refused n i

-- the length that a Start's second word asks for, over n bits; the bits of flag and length
abbrev pub length_of : ℕ → ℕ → Length
length_of zero n = free
length_of (suc k) n = long n

unfoldable pub head_out : Lengths → Length → List ℕ
head_out Lengths.never h = []
head_out Lengths.optional free = bits_of flag 0
head_out Lengths.optional (long n) = bits_of flag 1 ++ bits_of the_length n
head_out Lengths.always free = []
head_out Lengths.always (long n) = bits_of the_length n

-- where a type stands: 0 is the type itself, then from 1 on its place in the list; past the list where it is nowhere
unfoldable pub place_in : ℕ → List ℕ → ℕ
place_in x [] = 1
place_in x (t ∷ l) = cond (eqb x t) 1 (suc (place_in x l))

unfoldable pub standing : ℕ → ℕ → List ℕ → ℕ
standing x t l = cond (eqb x t) 0 (place_in x l)

-- the bits of the codes for an effective type and a substitute, or 20
unfoldable pub codes_out : Types → ℕ → ℕ → Res (List ℕ)
codes_out y type k = do
  c ← code_out (substitute_code y) k
  d ← code_out (type_code y k) (standing type (default_type y k) (y.derived (default_type y k)))
  got (c ++ d)

-- what was written inside an element whose Start's second word is q, behind its codes c: its End, then head and codes before it
unfoldable pub sealed : Lengths → ℕ → List ℕ → Out → Out
sealed mode q c (wrote w M T) = taken as_end M (λ e N. wrote (head_out mode (length_of q (length (c ++ w))) ++ (c ++ w)) N T)
sealed mode q c (refused n i) = refused n i

-- depth, where an event is left
unfoldable pub too_deep : List Bare → Out
too_deep [] = refused no_reading 0
too_deep (e ∷ M) = refused refusal.depth (suc (length M))

unfoldable pub allowed : Bool → ℕ → Out → Out
allowed true i o = o
allowed false i o = refused not_held i

-- the codes' event, where a flag bit is sent: the effective type, the codes' bits and the events after it
unfoldable pub casts : Bool → Types → List Bare → (ℕ → List ℕ → List Bare → Out) → Out
casts true y M k = taken as_cast M (λ e N. coded (codes_out y e.p e.q) (suc (length N)) (λ c. k e.p c N))
casts false y M k = k y.own [] M

module _ (mode : Lengths) (held : ℕ → Bool) where
  -- an element, where f writes what is inside it by its type: its Start, its codes' event, 9 at its Start where the effective type is not held
  unfoldable pub element_out : (ℕ → List Bare → List ℕ → Out) → ℕ → Types → List Bare → List ℕ → Out
  element_out f name y M T =
      taken (as_start mode name) M
      (λ e N. casts (codes y) y N (λ t c K. allowed (held t) (suc (length N)) (sealed mode e.q c (f t K T))))

  unfoldable pub write : Plan → List Bare → List ℕ → Out
  write done M T = wrote [] M T
  write deep M T = too_deep M
  write (item i k) M T =
      taken (as_item i) M
      (λ e N. coded (item_out i (word_of i e) T) (suc (length N)) (λ (w, U). put w (write (k (word_of i e)) N U)))
  write (element name y f P) M T = along (element_out (λ t N U. write (f t) N U) name y M T) (λ N U. write P N U)
