-- What each meaning of Number is at each of its cases: proofs cite these, and unfold no definition.
use Prim.Native.Nat.{ℕ, zero, suc, ◌+◌, ◌-◌, ◌*◌, ◌/◌, ◌^◌, ◌<◌, ◌≤◌}
use mathlib.Core.Path.{◌≡◌, refl}
use mathlib.Core.Bool.{Bool, true, false}
use native.Mathlib.Omega.{arith}
use borrow.Author.Tests.{lt-ltb, le-ltb, eq-eqb, ne_eqb}
use Rattle.numbers.specs.Refusal.{past_end, not_shortest, too_large}
use Rattle.wire.specs.Res.{Res, got, fault, ◌>>=◌}
use Rattle.wire.specs.Bits.{fixed_at}
use Rattle.wire.specs.Number.{ones_at, is_short, groups_at, number5, second8_at, number8, strict, more}

module _ (b : ℕ → ℕ) (wall at : ℕ) where
  pub ones-past : (f k : ℕ) → 0 < f → wall ≤ at → ones_at f b wall at k ≡ fault past_end
  unfolding ones_at
  ones-past zero k e h = absurd (omega arith)
  ones-past (suc f) k e h = rw (le-ltb _ _ h)

  pub ones-zero : (f k : ℕ) → 0 < f → at < wall → b at ≡ 0 → ones_at f b wall at k ≡ got (k, at + 1)
  unfolding ones_at
  ones-zero zero k e h z = absurd (omega arith)
  ones-zero (suc f) k e h z = rw (lt-ltb _ _ h, eq-eqb _ _ z)

  pub ones-one : {f : ℕ} (g k : ℕ) → f ≡ suc g → at < wall → (b at ≡ 0 → ⊥) → ones_at f b wall at k ≡ ones_at g b wall (at + 1) (k + 1)
  unfolding ones_at
  ones-one g k e h z = rw (e, lt-ltb _ _ h, ne_eqb _ _ z)

  pub ones-full : {f : ℕ} (k : ℕ) → f ≡ 0 → ones_at f b wall at k ≡ fault too_large
  unfolding ones_at
  ones-full k e = rw e

pub short-one : (n v : ℕ) → n ≡ 0 → is_short n v ≡ true
unfolding is_short
short-one zero v z = refl
short-one (suc n) v z = absurd (omega arith)

pub short-not : (n v : ℕ) → (n ≡ 0 → ⊥) → v / 2 ^ (4 * n) ≡ 0 → is_short n v ≡ false
unfolding is_short
short-not zero v z e = absurd (z refl)
short-not (suc n) v z e = rw (eq-eqb _ _ e)

pub short-more : (n v : ℕ) → (n ≡ 0 → ⊥) → (v / 2 ^ (4 * n) ≡ 0 → ⊥) → is_short n v ≡ true
unfolding is_short
short-more zero v z e = refl
short-more (suc n) v z e = rw (ne_eqb _ _ e)

module _ (b : ℕ → ℕ) (wall at : ℕ) where
  pub groups-got : (n : ℕ) {v p : ℕ} → fixed_at b wall at (4 * (n + 1)) ≡ got (v, p) → groups_at b wall n at ≡ got (v, p, is_short n v)
  unfolding groups_at ◌>>=◌
  groups-got n e = rw e

  pub groups-fault : (n : ℕ) {e : ℕ} → fixed_at b wall at (4 * (n + 1)) ≡ fault e → groups_at b wall n at ≡ fault e
  unfolding groups_at ◌>>=◌
  groups-fault n e = rw e

  pub five-got : {n p : ℕ} → ones_at 8 b wall at 0 ≡ got (n, p) → number5 b wall at ≡ groups_at b wall n p
  unfolding number5 ◌>>=◌
  five-got e = rw e

  pub five-fault : {e : ℕ} → ones_at 8 b wall at 0 ≡ fault e → number5 b wall at ≡ fault e
  unfolding number5 ◌>>=◌
  five-fault e = rw e

  pub second-fault : (x : ℕ) {e : ℕ} → fixed_at b wall at 8 ≡ fault e → second8_at b wall x at ≡ fault e
  unfolding second8_at ◌>>=◌
  second-fault x e = rw e

  module _ (x : ℕ) {y p : ℕ} (e : fixed_at b wall at 8 ≡ got (y, p)) where
    pub second-third : 128 ≤ y → second8_at b wall x at ≡ fault too_large
    unfolding second8_at ◌>>=◌
    second-third h = rw (e, le-ltb _ _ h)

    pub second-long : x ≡ 0 → y < 128 → second8_at b wall x at ≡ got (x * 128 + y, p, false)
    unfolding second8_at ◌>>=◌
    second-long z h = rw (e, lt-ltb _ _ h, eq-eqb _ _ z)

    pub second_short : (x ≡ 0 → ⊥) → y < 128 → second8_at b wall x at ≡ got (x * 128 + y, p, true)
    unfolding second8_at ◌>>=◌
    second_short z h = rw (e, lt-ltb _ _ h, ne_eqb _ _ z)

  pub eight-fault : {e : ℕ} → fixed_at b wall at 8 ≡ fault e → number8 b wall at ≡ fault e
  unfolding number8 ◌>>=◌
  eight-fault e = rw e

  module _ {x p : ℕ} (e : fixed_at b wall at 8 ≡ got (x, p)) where
    pub eight-one : x < 128 → number8 b wall at ≡ got (x, p, true)
    unfolding number8 ◌>>=◌
    eight-one h = rw (e, lt-ltb _ _ h)

    pub eight-two : 128 ≤ x → number8 b wall at ≡ second8_at b wall (x - 128) p
    unfolding number8 ◌>>=◌
    eight-two h = rw (e, le-ltb _ _ h)

pub strict-fault : {m : Res (ℕ × ℕ × Bool)} {e : ℕ} → m ≡ fault e → strict m ≡ fault e
unfolding strict ◌>>=◌
strict-fault h = rw h

pub strict-short : {m : Res (ℕ × ℕ × Bool)} {v p : ℕ} → m ≡ got (v, p, true) → strict m ≡ got (v, p)
unfolding strict ◌>>=◌
strict-short h = rw h

pub strict-long : {m : Res (ℕ × ℕ × Bool)} {v p : ℕ} → m ≡ got (v, p, false) → strict m ≡ fault not_shortest
unfolding strict ◌>>=◌
strict-long h = rw h

pub more-few : (f v : ℕ) → v < 16 → more f v ≡ 0
unfolding more
more-few zero v h = refl
more-few (suc f) v h = rw (lt-ltb v 16 h)

pub more-many : (f v : ℕ) → 16 ≤ v → more (suc f) v ≡ suc (more f (v / 16))
unfolding more
more-many f v h = rw (le-ltb v 16 h)
