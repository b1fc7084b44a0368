-- What the functions promise: the sums of Report number by number, up to the first that would pass. proofs/Passing shows that they are the same.
use Rattle.std.specs.Prelude.{ℕ, zero, suc, ◌+◌, ◌-◌, ◌*◌, ◌%◌, ◌<◌, ◌≤◌, ◌≡◌, cond, List, [], ◌∷◌, ltb, get_or, Option, Some, None}
use Rattle.model.specs.Model.{Event, event}
use Rattle.report.specs.declared.counting.Sort.{Sort as Sorts}
use Rattle.report.specs.declared.counting.Sort.TheVariants as code
use Rattle.report.specs.Eights.{numbers_of}
use Rattle.report.specs.Places.{numbers, limit, total_bits, mode_bits, padding_bits, answered, other, seen}
use Rattle.report.specs.Report.{Sort, at, plus, named, sort_of, line_for, bits_to, open_after}
use Rattle.report.specs.Report.Sort.{begins, blank, ends, inside}

-- a report, or none, as a number would pass
pub data Sum : Type 0 where
  within : List ℕ → Sum
  passed : Sum

unfoldable pub and_then : Sum → (List ℕ → Sum) → Sum
and_then (within R) k = k R
and_then passed k = passed

unfoldable pub put : ℕ → ℕ → List ℕ → Sum
put i n R = cond (ltb (at R i + n) limit) (within (plus i n R)) passed

-- what an event does, as the code has it
unfoldable pub sort_is : Sorts → Sort
sort_is code.Begins = begins
sort_is code.Blank = blank
sort_is code.Ends = ends
sort_is code.Inside = inside

unfoldable pub met_in : Sort → (name i : ℕ) → List ℕ → Sum
met_in begins name i R = put (seen i) 1 (named i name R)
met_in blank name i R = put (seen i) 1 (named i name R)
met_in ends name i R = within R
met_in inside name i R = within R

unfoldable pub counted_in : Sort → (name bits i : ℕ) → List ℕ → Sum
counted_in s name bits i R = and_then (met_in s name i R) (put (bits_to s i) bits)

unfoldable pub counted_then_in : Sort → (i : ℕ) → Event → (List ℕ → List ℕ → Sum) → List ℕ → List ℕ → Sum
counted_then_in s i e rest stack R = and_then (counted_in s e.p e.bits i R) (rest (open_after s i stack))

unfoldable pub counts_in : List Event → (stack : List ℕ) → List ℕ → Sum
counts_in [] stack R = within R
counts_in (e ∷ L) stack R = counted_then_in (sort_of e.kind) (line_for (sort_of e.kind) e.p stack R) e (counts_in L) stack R

unfoldable pub accepts_in : (bytes bits : ℕ) → List Event → List ℕ → Sum
accepts_in bytes bits L R =
    and_then (put total_bits (8 * bytes) R) (λ R₁. and_then (put mode_bits 8 R₁) (λ R₂.
    and_then (put padding_bits (8 * bytes - bits) R₂) (λ R₃. and_then (put answered 1 R₃) (counts_in L []))))

-- the numbers of a report's bytes; whether a function went on, and the bytes it left
abbrev pub numbers_in : List ℕ → List ℕ
numbers_in s = numbers_of numbers s

abbrev pub sum_of : Option (Unit {0}) → List ℕ → Sum
sum_of (Some u) s = within (numbers_in s)
sum_of None s = passed

-- each byte is one
abbrev pub Octets : List ℕ → Type 0
Octets s = (i : ℕ) → get_or s i 0 < 256

-- n events of words, from event i on
abbrev pub event_in : List ℕ → ℕ → Event
event_in w i = event (get_or w (4 * i) 0) (get_or w (4 * i + 1) 0) (get_or w (4 * i + 2) 0) (get_or w (4 * i + 3) 0)

unfoldable pub events_in : List ℕ → (i n : ℕ) → List Event
events_in w i zero = []
events_in w i (suc n) = event_in w i ∷ events_in w (i + 1) n

-- events of four words each
abbrev pub event_of : List ℕ → Event
event_of e = event (get_or e 0 0) (get_or e 1 0) (get_or e 2 0) (get_or e 3 0)

unfoldable pub events_of : List (List ℕ) → List Event
events_of [] = []
events_of (e ∷ E) = event_of e ∷ events_of E

-- the first of a stack's places, the last of them innermost
unfoldable pub stack_of : List ℕ → ℕ → List ℕ
stack_of a zero = []
stack_of a (suc d) = get_or a d 0 ∷ stack_of a d

-- a place of a line, and a stack of such
pub record Line (i : ℕ) : Type 0 where
  pub from : other ≤ i
  pub to : i + 3 < numbers
  pub whole : i % 4 ≡ 0

abbrev pub Lines : List ℕ → Type 0
Lines [] = Unit {0}
Lines (i ∷ stack) = Line i × Lines stack
