-- A refusal put at its event by a `map_err`: what that answers, by what it was given.
use Prim.Native.Nat.{ℕ}
use mathlib.Core.Path.{◌≡◌, refl, sym, ap, ◌∙◌}
use mathlib.Core.Bool.{true≢false}
use native.Mathlib.Omega.{arith}
use Rattle.numbers.specs.declared.refusal.Fault.{Fault}
use Rattle.numbers.specs.declared.refusal.Refusal.{Refusal}
use Rattle.std.specs.Prelude.{Result, Ok, Err}
use Rattle.numbers.specs.Refused.{answered}
use Rattle.std.specs.Result.{MatchResult, IsErrAnd, is_ok}
use Rattle.std.proofs.lemmas.Result.{err_from_is_err_and}

abbrev pub put_at : ℕ → Refusal → Fault ℕ
put_at at e = record { why = e; at = at }

abbrev pub Put : {T : Type 0} → (Refusal → Fault ℕ → Type 0) → Result T Refusal → Result T (Fault ℕ) → Type 0
Put Q a b = MatchResult a (λ x. b ≡ Ok x) (λ e. IsErrAnd b (Q e))

-- where it goes on
pub put-kept : {T : Type 0} (Q : Refusal → Fault ℕ → Type 0) (a : Result T Refusal) {b : Result T (Fault ℕ)} → Put Q a b → {x : T} → b ≡ Ok x → a ≡ Ok x
put-kept {T} Q (Ok y) {b} h {x} k =
    let e : ◌≡◌ {A = Result T (Fault ℕ)} (Ok y) (Ok x) = sym h ∙ k in
    let z : y ≡ x = cc in
    ap (λ (j : T). Ok j) z
put-kept {T} Q (Err e) {b} h {x} k =
    let p = err_from_is_err_and b h in
    let y : ◌≡◌ {A = Result T (Fault ℕ)} (Ok x) (Err p.0) = sym k ∙ p.1 in
    let o : ◌≡◌ {A = ℕ} 0 1 = cc in
    absurd (omega arith)

pub put-fine : {T : Type 0} (a : Result T Refusal) {n : ℕ} → answered a ≡ n → {b : Result T (Fault ℕ)} → is_ok b ≡ is_ok a → (x : T) → b ≡ Ok x → 0 ≡ n
put-fine {T} (Ok y) g v x k = g
put-fine {T} (Err e) g v x k = absurd (true≢false (sym (ap is_ok k) ∙ v))

-- and where the `?` behind it leaves: r is what that returns
pub put-left : {T S : Type 0} (at : ℕ) (Q : Refusal → Fault ℕ → Type 0) → ((e : Refusal) (x : Fault ℕ) → Q e x → x ≡ put_at at e)
    → (a : Result T Refusal) {b : Result T (Fault ℕ)} → Put Q a b → {x : Fault ℕ} → b ≡ Err x
    → (r : Result S (Fault ℕ)) → IsErrAnd r (λ y. y ≡ x) → (e : Refusal) × (a ≡ Err e) × (r ≡ Err (put_at at e))
put-left {T} {S} at Q g (Ok u) {b} h {x} k r s =
    let y : ◌≡◌ {A = Result T (Fault ℕ)} (Ok u) (Err x) = sym h ∙ k in
    let o : ◌≡◌ {A = ℕ} 0 1 = cc in
    absurd (omega arith)
put-left {T} {S} at Q g (Err e) {b} h {x} k r s =
    let p = err_from_is_err_and b h in
    let y : ◌≡◌ {A = Result T (Fault ℕ)} (Err x) (Err p.0) = sym k ∙ p.1 in
    let z : x ≡ p.0 = cc in
    let w = err_from_is_err_and r s in
    (e, refl, w.1 ∙ ap (λ (j : Fault ℕ). Err j) (w.2 ∙ z ∙ g e p.0 p.2))
