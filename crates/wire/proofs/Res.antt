-- A value, or the number of a refusal; and what is said of such a result, by the shape of the program that makes it.
use Prim.Native.Nat.{ℕ, ◌≤◌, ◌<◌}
use mathlib.Core.Path.{◌≡◌, refl}
use mathlib.Core.Bool.{Bool, true, false}
use native.Mathlib.Omega.{arith}
use borrow.Author.Tests.{le-leb, leb-true, lt-leb}
use lib.Dec.{leb}
use Rattle.wire.specs.Res.{Res, ◌>>=◌, ◌>>◌, guard, at_most, Ensures, got, fault}

module _ {B : Type 0} {Q : B → Type 0} where
  pub gives : {a : B} → Q a → Ensures (got a) Q
  gives q = record { says = λ c e. rw (← got-is e) q }
    where
      got-is : {a c : B} → ◌≡◌ {A = Res B} (got a) (got c) → a ≡ c
      got-is e = cc

  pub stops : {e : ℕ} → Ensures (fault e) Q
  stops = record { says = λ a e. absurd (let z : ◌≡◌ {A = ℕ} 0 1 = cc in omega arith) }

  pub bind : {A : Type 0} {m : Res A} {k : A → Res B} {P : A → Type 0} → Ensures m P → ((a : A) → P a → Ensures (k a) Q) → Ensures (m >>= k) Q
  unfolding ◌>>=◌
  bind {m = got a} s t = t a (s.says a refl)
  bind {m = fault e} s t = stops

  pub tested : (t : Bool) (e : ℕ) {m : Res B} → (t ≡ true → Ensures m Q) → Ensures (guard t e >> m) Q
  unfolding ◌>>◌ guard
  tested true e f = f refl
  tested false e f = stops

  pub under : {a b : ℕ} (e : ℕ) {m : Res B} → (a ≤ b → Ensures m Q) → Ensures (at_most a b e >> m) Q
  unfolding at_most
  under {a} {b} e f = tested (leb a b) e λ h. f (leb-true a b h)

pub itself : {A : Type 0} (m : Res A) → Ensures m (λ a. m ≡ got a)
itself m = record { says = λ a e. e }

-- what is so is got
pub then : {A B : Type 0} {m : Res A} (k : A → Res B) {a : A} {c : Res B} → m ≡ got a → k a ≡ c → (m >>= k) ≡ c
unfolding ◌>>=◌
then k e f = rw e f

pub then-fault : {A B : Type 0} {m : Res A} (k : A → Res B) {e : ℕ} → m ≡ fault e → (m >>= k) ≡ fault e
unfolding ◌>>=◌
then-fault k h = rw h

pub tested-then : {B : Type 0} {t : Bool} (e : ℕ) {m c : Res B} → t ≡ true → m ≡ c → (guard t e >> m) ≡ c
unfolding ◌>>◌ guard
tested-then e z f = rw z f

pub tested-fault : {B : Type 0} {t : Bool} (e : ℕ) (m : Res B) → t ≡ false → (guard t e >> m) ≡ fault e
unfolding ◌>>◌ guard
tested-fault e m z = rw z

pub under-then : {B : Type 0} {a b : ℕ} (e : ℕ) {m c : Res B} → a ≤ b → m ≡ c → (at_most a b e >> m) ≡ c
unfolding at_most
under-then {a} {b} e h f = tested-then e (le-leb a b h) f

pub under-fault : {B : Type 0} {a b : ℕ} (e : ℕ) (m : Res B) → b < a → (at_most a b e >> m) ≡ fault e
unfolding at_most
under-fault {a} {b} e m h = tested-fault e m (lt-leb a b h)
