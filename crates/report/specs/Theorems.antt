-- What is proved of a report: its columns add up, each line holds what its name says, it stops exactly where a sum passes.
use Rattle.std.specs.Prelude.{ℕ, zero, suc, ◌+◌, ◌*◌, ◌≤◌, ◌<◌, ◌≡◌, Bool, false, cond, List, [], ◌∷◌, eqb, length, replicate, set}
use Rattle.model.specs.Model.{Event, Nodes, events}
use Rattle.model.specs.Whole.{Reply, reading, outcome}
use Rattle.model.specs.Whole.Reply.{accepted, declined}
use Rattle.report.specs.Places.{numbers, limit, stopped, total_bits, mode_bits, padding_bits, answered, answers, other, lines, line_numbers, seen, own, blanked}
use Rattle.report.specs.Report.{at, sums, adds, added}
use Rattle.report.specs.Owners.{owned_by, met_by, blanked_by, tree_owned, notes, place_of}

-- a payload that is added: table words, party, root name and type, bytes; the room it is read in
pub record Payload : Type 0 where
  pub table : List ℕ
  pub party : ℕ
  pub name : ℕ
  pub type : ℕ
  pub bytes : List ℕ
  pub words : ℕ
  pub texts : ℕ

abbrev pub reply_to : Payload → Reply
reply_to a = reading a.table a.party a.name a.type a.bytes a.words a.texts

abbrev pub fresh : List ℕ
fresh = replicate numbers 0

-- payloads added in turn
unfoldable pub after : List Payload → List ℕ → List ℕ
after [] R = R
after (a ∷ H) R = after H (added (length a.bytes) (reply_to a) R)

-- a column of n lines from the place i on, and of the line other and all others
unfoldable pub column : (k : ℕ) → (n i : ℕ) → List ℕ → ℕ
column k zero i R = 0
column k (suc n) i R = at R (i + k) + column k n (i + line_numbers) R

abbrev pub own_bits : List ℕ → ℕ
own_bits R = column 2 (1 + lines) other R

abbrev pub blanked_bits : List ℕ → ℕ
blanked_bits R = column 3 (1 + lines) other R

-- the bytes of a payload that was accepted; whether one was answered k
unfoldable pub bytes_if : Reply → ℕ → ℕ
bytes_if (accepted mode ns q) n = n
bytes_if (declined k p π) n = 0

unfoldable pub accepted_bytes : List Payload → ℕ
accepted_bytes [] = 0
accepted_bytes (a ∷ H) = bytes_if (reply_to a) (length a.bytes) + accepted_bytes H

unfoldable pub answered_with : ℕ → List Payload → ℕ
answered_with k [] = 0
answered_with k (a ∷ H) = cond (eqb (outcome (reply_to a)).number k) 1 0 + answered_with k H

-- (a) the columns add up: of every list of payloads, where the report has not stopped
pub record ColumnsAddUp (H : List Payload) (R : List ℕ) : Type 0 where
  pub columns : own_bits R + blanked_bits R + at R mode_bits + at R padding_bits ≡ at R total_bits
  pub total : at R total_bits ≡ 8 * accepted_bytes H
  pub answers : (k : ℕ) → k < answers → at R (answered + k) ≡ answered_with k H

-- a number of each accepted payload's tree, added up; the distinct names that were met, in the order of first sight
unfoldable pub of_tree : (Nodes → ℕ) → Reply → ℕ
of_tree g (accepted mode ns q) = g ns
of_tree g (declined k p π) = 0

unfoldable pub over : (Nodes → ℕ) → List Payload → ℕ
over g [] = 0
over g (a ∷ H) = of_tree g (reply_to a) + over g H

unfoldable pub notes_of : Reply → List ℕ → List ℕ
notes_of (accepted mode ns q) N = notes (events ns) N
notes_of (declined k p π) N = N

unfoldable pub names_met : List Payload → List ℕ → List ℕ
names_met [] N = N
names_met (a ∷ H) N = names_met H (notes_of (reply_to a) N)

-- (b) the line at i holds what the names that f says come to: Starts and Blanks, the bits of the events they own, by the list and by the tree, their Blanks' bits
pub record LineHolds (H : List Payload) (R : List ℕ) (f : ℕ → Bool) (i : ℕ) : Type 0 where
  pub seen_is : at R (seen i) ≡ over (λ ns. met_by f (events ns)) H
  pub own_is : at R (own i) ≡ over (λ ns. owned_by f false (events ns) []) H
  pub tree_is : at R (own i) ≡ over (tree_owned f) H
  pub blanked_is : at R (blanked i) ≡ over (λ ns. blanked_by f (events ns)) H

-- each of the first names has a line, which has its name and holds what that name comes to; other holds what all other names come to
pub record LinesHold (H : List Payload) (R : List ℕ) : Type 0 where
  pub named : (x : ℕ) → (place_of (names_met H []) x ≡ other → ⊥) → at R (place_of (names_met H []) x) ≡ x
  pub first : (x : ℕ) → (place_of (names_met H []) x ≡ other → ⊥) → LineHolds H R (λ y. eqb y x) (place_of (names_met H []) x)
  pub others : LineHolds H R (λ y. eqb (place_of (names_met H []) y) other) other

-- (c) a report that goes on is the sums, each of which fits, where they fit; else the report before, which has stopped; and so it stays
pub record Stops (number bytes bits : ℕ) (L : List Event) (R : List ℕ) : Type 0 where
  pub goes : at R stopped ≡ 0 → ((i : ℕ) → at (sums number bytes bits L R) i < limit) → adds number bytes bits L R ≡ sums number bytes bits L R
  pub stops : at R stopped ≡ 0 → (i : ℕ) → limit ≤ at (sums number bytes bits L R) i → adds number bytes bits L R ≡ set R stopped 1
  pub stays : (at R stopped ≡ 0 → ⊥) → adds number bytes bits L R ≡ R
