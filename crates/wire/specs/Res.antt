-- A value, or the number of a refusal; how such results follow each other, and what it is for one to ensure something.
use Rattle.std.specs.Prelude.{ℕ, ◌≡◌, Bool, true, false, leb}

pub data Res (A : Type 0) : Type 0 where
  got : A → Res A
  fault : ℕ → Res A

infixl 20 ◌>>=◌
infixl 20 ◌>>◌
unfoldable pub ◌>>=◌ : {A B : Type 0} → Res A → (A → Res B) → Res B
fault e >>= f = fault e
got a >>= f = f a

unfoldable pub ◌>>◌ : {B : Type 0} → Res Unit → Res B → Res B
fault e >> m = fault e
got a >> m = m

-- refused with e, unless the test holds; unless a is at most b
unfoldable pub guard : Bool → ℕ → Res Unit
guard true e = got tt
guard false e = fault e

unfoldable pub at_most : ℕ → ℕ → ℕ → Res Unit
at_most a b e = guard (leb a b) e

-- what is got is so
pub record Ensures {A : Type 0} (m : Res A) (P : A → Type 0) : Type 0 where
  pub says : (a : A) → m ≡ got a → P a
