-- Every call: area_size first, or the answer in the area.
use Prim.Native.Nat.{ℕ}
use mathlib.Core.Path.{◌≡◌}
use mathlib.Core.List.{List, map}
use borrow.Author.Tests.{eq-eqb, ne_eqb}
use Rattle.numbers.specs.Refusal.{area_size}
use Rattle.numbers.specs.Limit as limit
use Rattle.model.specs.Whole.{Outcome}
use Rattle.call_parts.specs.Area.{area_of}
use Rattle.call_parts.specs.Calls.{back, zeros, lent}

pub unlent : (area : ℕ) (sizes : List ℕ) (o : Outcome) (buffers : List (List ℕ)) → (area ≡ limit.area → ⊥) → lent area sizes o buffers ≡ back area_size (zeros area) (map zeros sizes)
unfolding lent
unlent area sizes o buffers n = rw (ne_eqb area limit.area n)

pub lent-whole : (area : ℕ) (sizes : List ℕ) (o : Outcome) (buffers : List (List ℕ)) → area ≡ limit.area → lent area sizes o buffers ≡ back o.number (area_of o) buffers
unfolding lent
lent-whole area sizes o buffers e = rw (eq-eqb area limit.area e)
