-- THE PROMISE: what one payload adds to a report, for any numbers as the report.
use Rattle.std.specs.Prelude.{ℕ, zero, suc, ◌+◌, ◌-◌, ◌*◌, Bool, true, false, cond, List, [], ◌∷◌, eqb, ltb, get_or, set}
use Rattle.numbers.specs.Kind as kinds
use Rattle.model.specs.Model.{Event, events}
use Rattle.model.specs.Whole.{Reply}
use Rattle.model.specs.Whole.Reply.{accepted, declined}
use Rattle.report.specs.Places.{limit, stopped, total_bits, mode_bits, padding_bits, answered, answers, other, first_line, lines, line_numbers, seen, own, blanked}

abbrev pub at : List ℕ → ℕ → ℕ
at R i = get_or R i 0

abbrev pub plus : ℕ → ℕ → List ℕ → List ℕ
plus i n R = set R i (at R i + n)

-- the first of n lines, from the place i on, that is free or has this name; else other
unfoldable pub line_from : List ℕ → (name n i : ℕ) → ℕ
line_from R name zero i = other
line_from R name (suc n) i = cond (eqb (at R (seen i)) 0) i (cond (eqb (at R i) name) i (line_from R name n (i + line_numbers)))

unfoldable pub line_of : List ℕ → (name : ℕ) → ℕ
line_of R name = line_from R name lines first_line

-- a free line gets the name, and any other that was found has it; other has none
unfoldable pub named : (i name : ℕ) → List ℕ → List ℕ
named i name R = cond (eqb i other) R (set R i name)

-- what an event does: it begins an element, is one that was stepped over, ends one, or belongs to the one that is open
pub data Sort : Type 0 where
  begins : Sort
  blank : Sort
  ends : Sort
  inside : Sort

unfoldable pub sort_of : (kind : ℕ) → Sort
sort_of kind = cond (eqb kind kinds.start) begins (cond (eqb kind kinds.blank) blank (cond (eqb kind kinds.end) ends inside))

-- The lines of the open elements, the innermost first. Outside of every element, where no event of a reading is, bits are other's
unfoldable pub innermost : List ℕ → ℕ
innermost [] = other
innermost (i ∷ stack) = i

unfoldable pub outer : List ℕ → List ℕ
outer [] = []
outer (i ∷ stack) = stack

-- the line that an event belongs to: its own element's, or that of the innermost element that is open
unfoldable pub line_for : Sort → (name : ℕ) → List ℕ → List ℕ → ℕ
line_for begins name stack R = line_of R name
line_for blank name stack R = line_of R name
line_for ends name stack R = innermost stack
line_for inside name stack R = innermost stack

-- where its bits go
unfoldable pub bits_to : Sort → ℕ → ℕ
bits_to begins i = own i
bits_to blank i = blanked i
bits_to ends i = own i
bits_to inside i = own i

-- an element that begins, or is stepped over, has been seen once more
unfoldable pub met : Sort → (name i : ℕ) → List ℕ → List ℕ
met begins name i R = plus (seen i) 1 (named i name R)
met blank name i R = plus (seen i) 1 (named i name R)
met ends name i R = R
met inside name i R = R

unfoldable pub open_after : Sort → ℕ → List ℕ → List ℕ
open_after begins i stack = i ∷ stack
open_after blank i stack = stack
open_after ends i stack = outer stack
open_after inside i stack = stack

-- an event whose line is i
unfoldable pub counted : Sort → (name bits i : ℕ) → List ℕ → List ℕ
counted s name bits i R = plus (bits_to s i) bits (met s name i R)

-- and then the rest of them
unfoldable pub counted_then : Sort → (i : ℕ) → Event → (List ℕ → List ℕ → List ℕ) → List ℕ → List ℕ → List ℕ
counted_then s i e rest stack R = rest (open_after s i stack) (counted s e.p e.bits i R)

-- the events in turn
unfoldable pub counts : List Event → (stack : List ℕ) → List ℕ → List ℕ
counts [] stack R = R
counts (e ∷ L) stack R = counted_then (sort_of e.kind) (line_for (sort_of e.kind) e.p stack R) e (counts L) stack R

-- a payload of so many bytes that was accepted: it used so many bits, for these events
unfoldable pub accepts : (bytes bits : ℕ) → List Event → List ℕ → List ℕ
accepts bytes bits L R =
    counts L [] (plus answered 1 (plus padding_bits (8 * bytes - bits) (plus mode_bits 8 (plus total_bits (8 * bytes) R))))

-- one that was refused. No reading is refused with a number that has no place; it would be counted nowhere
unfoldable pub refuses : (number : ℕ) → List ℕ → List ℕ
refuses n R = cond (ltb n answers) (plus (answered + n) 1 R) R

unfoldable pub sums : (number bytes bits : ℕ) → List Event → List ℕ → List ℕ
sums zero bytes bits L R = accepts bytes bits L R
sums (suc n) bytes bits L R = refuses (suc n) R

-- every number has its 8 bytes
unfoldable pub fits : List ℕ → Bool
fits [] = true
fits (x ∷ R) = cond (ltb x limit) (fits R) false

-- the sums, or the report before, which has stopped
unfoldable pub settled : List ℕ → List ℕ → List ℕ
settled R R' = cond (fits R') R' (set R stopped 1)

-- what an answer of so many bits adds, unless the report has stopped
unfoldable pub adds : (number bytes bits : ℕ) → List Event → List ℕ → List ℕ
adds number bytes bits L R = cond (eqb (at R stopped) 0) (settled R (sums number bytes bits L R)) R

-- what a payload of so many bytes and its reading add
unfoldable pub added : (bytes : ℕ) → Reply → List ℕ → List ℕ
added bytes (accepted mode ns q) R = adds 0 bytes q (events ns) R
added bytes (declined n p π) R = adds n bytes 0 [] R
