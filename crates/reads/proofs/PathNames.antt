-- The names that an array and a count are.
use Prim.Native.Nat.{ℕ, zero, suc, ◌≤◌}
use mathlib.Core.Path.{◌≡◌, refl, ap, ◌∙◌}
use mathlib.Core.List.{List, [], ◌∷◌, ◌++◌}
use native.Mathlib.Omega.{arith}
use lib.ListN.{length, get_or, take, length-append}
use lib.Seq.{take-suc}
use Rattle.numbers.specs.Limit.{most_names}
use Rattle.std.specs.Prelude.{Err}
use Rattle.reader.specs.declared.Refused.{Refused}
use Rattle.reader.specs.Answers.{Answer, answer_is, path_is, first_names}
use Rattle.call_parts.specs.Area.{area_of, told}

pub first-length : (l : List ℕ) (n : ℕ) → length (first_names l n) ≡ n
unfolding first_names
first-length l zero = refl
first-length l (suc n) = length-append (first_names l n) (get_or l n 0 ∷ []) ∙ omega (arith, first-length l n)

first_taken : (l : List ℕ) (n : ℕ) → n ≤ length l → take n l ≡ first_names l n
unfolding first_names
first_taken l zero h = refl
first_taken l (suc n) h = take-suc l n 0 h ∙ ap (λ (x : List ℕ). x ++ (get_or l n 0 ∷ [])) (first_taken l n (omega arith))

-- an array has room for all names
pub among : (l : List ℕ) (n : ℕ) → length l ≡ most_names → n ≤ most_names → n ≤ length l
among l n e h = omega arith

-- the area of a refusal shows the first of the array's
pub path-told : (r : Refused) → r.path.count ≤ length r.path.names → area_of (told r.fault.at 0 0 0 0 (take r.path.count r.path.names)) ≡ area_of (answer_is (Err r))
unfolding area_of
path-told r h = ap (λ (π : List ℕ). area_of (told r.fault.at 0 0 0 0 π)) (first_taken r.path.names r.path.count h)

-- and they fit where the path does
pub counted : (a : Answer) (r : Refused) (n : ℕ) → a ≡ Err r → length (answer_is a).path ≤ n → r.path.count ≤ n
counted a r n e h =
    let k : length (path_is r.path) ≡ r.path.count = first-length r.path.names r.path.count in
    let g : length (path_is r.path) ≤ n = rw (← ap (λ (x : Answer). length (answer_is x).path) e) h in
    omega arith
