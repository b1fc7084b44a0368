-- Two numbers compared: one case or the other.
use Rattle.std.proofs.Common.{◌≡◌, ℕ, ◌<◌, ◌≤◌, Bool, true, false, eqb, ltb, ◌⊎◌, refl, inl, inr, ltb-false, ltb-true, eqb-true}
use borrow.Author.Tests.{eqb-false}

less_by : (a b : ℕ) (t : Bool) → ltb a b ≡ t → (a < b) ⊎ (b ≤ a)
less_by a b true e = inl (ltb-true a b e)
less_by a b false e = inr (ltb-false a b e)

pub less : (a b : ℕ) → (a < b) ⊎ (b ≤ a)
less a b = less_by a b (ltb a b) refl

same_by : (a b : ℕ) (t : Bool) → eqb a b ≡ t → (a ≡ b) ⊎ (a ≡ b → ⊥)
same_by a b true e = inl (eqb-true a b e)
same_by a b false e = inr (eqb-false a b e)

pub same : (a b : ℕ) → (a ≡ b) ⊎ (a ≡ b → ⊥)
same a b = same_by a b (eqb a b) refl
