-- A type's attributes as a walk over its attribute rows, from the first one on: what a loop over them cites.
use Prim.Native.Nat.{ℕ, zero, suc, ◌+◌, ◌-◌, ◌≤◌, ◌<◌}
use mathlib.Core.Path.{◌≡◌, refl, ap}
use mathlib.Core.List.{List, [], ◌∷◌}
use native.Mathlib.Omega.{arith}
use lib.ListN.{length}
use Rattle.table.specs.Words.{types_in}
use Rattle.table.specs.Rows.{attribute_of, attributes_from, first_of, count_of, attributes_of, table_of}

module _ (l : List ℕ) where
  pub attributes-walk : (t : ℕ) → (table_of l).attributes t ≡ attributes_from l (count_of l t) (first_of l t)
  unfolding table_of attributes_of
  attributes-walk t = refl

  -- i of n rows are passed
  pub attributes-turn : (n i start : ℕ) → i < n
      → attributes_from l (n - i) (start + i) ≡ attribute_of l (start + i) ∷ attributes_from l (n - (i + 1)) (start + (i + 1))
  unfolding attributes_from
  attributes-turn n i start h =
      let e : n - i ≡ suc (n - (i + 1)) = omega arith in
      let f : start + i + 1 ≡ start + (i + 1) = omega arith in
      rw (e, f)

  pub attributes-done : (n i start : ℕ) → n ≤ i → attributes_from l (n - i) start ≡ []
  unfolding attributes_from
  attributes-done n i start h = let e : n - i ≡ 0 = omega arith in rw e

  attributes-from-length : (n i : ℕ) → length (attributes_from l n i) ≡ n
  unfolding attributes_from
  attributes-from-length zero i = refl
  attributes-from-length (suc n) i = ap suc (attributes-from-length n (i + 1))

  pub attributes-length : (t : ℕ) → length ((table_of l).attributes t) ≡ count_of l t
  unfolding table_of attributes_of
  attributes-length t = attributes-from-length (count_of l t) (first_of l t)

  pub types_are : (table_of l).types ≡ types_in l
  unfolding table_of
  types_are = refl
