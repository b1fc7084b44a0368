-- How many groups of four bits a number needs: n + 1 hold it, and fewer do not.
use Prim.Native.Nat.{ℕ, zero, suc, ◌+◌, ◌*◌, ◌/◌, ◌^◌, ◌<◌, ◌≤◌, max}
use mathlib.Core.Path.{◌≡◌, refl, ap, ◌∙◌}
use native.Mathlib.Numerals.{add-one}
use native.Mathlib.Omega.{arith}
use native.Mathlib.Decide.{dec_lt}
use lib.Pow.{pow-add}
use Rattle.wire.specs.Number.{more}
use Rattle.wire.proofs.Steps.{more-few, more-many}

pub pow16 : (n : ℕ) → 2 ^ (4 * n) ≡ 16 ^ n
pow16 zero = refl
pow16 (suc n) =
    let e : 4 * suc n ≡ 4 + 4 * n = omega arith in
    rw (e, pow-add) (omega (arith, pow16 n))

pub pow16-more : (n : ℕ) → 2 ^ (4 * (n + 1)) ≡ 16 ^ suc n
pow16-more n = pow16 (n + 1) ∙ rw add-one

pub pos16 : (n : ℕ) → 0 < 16 ^ n
pos16 zero = omega arith
pos16 (suc n) = omega (arith, pos16 n)

-- n + 1 groups hold v, and fewer do not; that one group is 0 is right
pub record Shortest (n v : ℕ) : Type 0 where
  pub holds : v < 16 ^ suc n
  pub least : 16 ^ n ≤ max 1 v

pub more-is : (f n v : ℕ) → n ≤ f → Shortest n v → more f v ≡ n
unfolding more
more-is zero n v h s = omega arith
more-is (suc f) zero v h s = more-few (suc f) v s.holds
more-is (suc f) (suc n) v h s =
    let p = pos16 n in
    more-many f v (omega arith) ∙ ap suc (more-is f n (v / 16) (omega arith) (record { holds = omega arith; least = omega arith }))

pub more-shortest : (f v : ℕ) → v < 16 ^ suc f → Shortest (more f v) v × (more f v ≤ f)
more-shortest zero v h = rw (more-few 0 v h) (record { holds = h; least = omega arith }, omega arith)
more-shortest (suc f) v h =
    elim (dec_lt v 16) [
      | yes l ↦ rw (more-few (suc f) v l) (record { holds = omega arith; least = omega arith }, omega arith)
      | no l ↦
          let r = more-shortest f (v / 16) (omega arith) in
          rw (more-many f v (omega arith)) (record { holds = omega arith; least = omega arith }, omega arith)
    ]
