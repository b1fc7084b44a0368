-- What is said of a writing by the shape of the program that makes it, both ways: what was written is so, and a refusal has a number; what is so is
-- written.
use Prim.Native.Nat.{ℕ, zero, suc, ◌≤◌}
use mathlib.Core.Path.{◌≡◌, refl, sym, ap, ◌∙◌}
use mathlib.Core.Bool.{Bool, true, false, cond}
use mathlib.Core.List.{List, [], ◌∷◌, ◌++◌, append_assoc, append-nil}
use native.Mathlib.Omega.{arith}
use borrow.Author.Tests.{eqb-true, eq-eqb}
use lib.Dec.{eqb}
use lib.ListN.{length}
use Rattle.numbers.specs.Refusal as refusal
use Rattle.numbers.specs.Refusal.{no_reading}
use Rattle.numbers.specs.Kind as kinds
use Rattle.wire.specs.Res.{Res, got, fault, Ensures}
use Rattle.wire.proofs.Res.{itself}
use Rattle.model.specs.Model.{end, Types, codes}
use Rattle.model.specs.Items.{Lengths}
use Rattle.model.specs.Write.{Bare, bare, Out, wrote, refused, put, along, unlike, matched, taken, as_end, coded, length_of, head_out, codes_out, sealed, allowed, as_cast, casts}
use Rattle.model.proofs.Named.{Named, codes-out-named}

-- what is written is so, and what is refused has a number
pub record Says (Q : List ℕ → List Bare → List ℕ → Type 0) (o : Out) : Type 0 where
  pub says : (w : List ℕ) (M : List Bare) (T : List ℕ) → o ≡ wrote w M T → Q w M T
  pub numbered : (n i : ℕ) → o ≡ refused n i → 1 ≤ n

module _ {Q : List ℕ → List Bare → List ℕ → Type 0} where
  pub gives : {w : List ℕ} {M : List Bare} {T : List ℕ} → Q w M T → Says Q (wrote w M T)
  gives {w} {M} {T} h = record {
    says = λ x N U e.
        let a : w ≡ x = cc in
        let c : M ≡ N = cc in
        let d : T ≡ U = cc in
        rw (← a, ← c, ← d) h;
    numbered = λ n i e. absurd (let z : ◌≡◌ {A = ℕ} 0 1 = cc in omega arith);
  }

  pub stops : {n i : ℕ} → 1 ≤ n → Says Q (refused n i)
  stops {n} h = record { says = λ x N U e. absurd (let z : ◌≡◌ {A = ℕ} 0 1 = cc in omega arith); numbered = λ m j e. let z : n ≡ m = cc in omega arith }

pub unlike-none : (f e : Bare) → unlike f e ≡ 0 → f ≡ e
unfolding unlike
unlike-none f e h = go (eqb f.kind e.kind) (eqb f.p e.p) (eqb f.q e.q) refl refl refl h
  where
    go : (a c d : Bool) → eqb f.kind e.kind ≡ a → eqb f.p e.p ≡ c → eqb f.q e.q ≡ d
        → ◌≡◌ {A = ℕ} (cond a (cond c (cond d 0 no_reading) no_reading) (cond (eqb e.kind kinds.blank) refusal.blank no_reading)) 0 → f ≡ e
    go true true true x y z h =
        let k = eqb-true f.kind e.kind x in
        let p = eqb-true f.p e.p y in
        let q = eqb-true f.q e.q z in
        λ i. record { kind = k i; p = p i; q = q i }
    go true true false x y z h = absurd (omega arith)
    go true false d x y z h = absurd (omega arith)
    go false c d x y z h = absurd (ill (eqb e.kind kinds.blank) h)
      where
        ill : (b : Bool) → ◌≡◌ {A = ℕ} (cond b refusal.blank no_reading) 0 → ⊥
        ill true h = omega arith
        ill false h = omega arith

pub unlike-same : (f e : Bare) → f ≡ e → unlike f e ≡ 0
unfolding unlike
unlike-same f e h = rw (h, eq-eqb e.kind e.kind refl, eq-eqb e.p e.p refl, eq-eqb e.q e.q refl)

module _ {Q : List ℕ → List Bare → List ℕ → Type 0} where
  pub taken-says : (f : Bare → Bare) (M : List Bare) (k : Bare → List Bare → Out) → ((e : Bare) (N : List Bare) → M ≡ e ∷ N → f e ≡ e → Says Q (k e N)) → Says Q (taken f M k)
  unfolding taken matched
  taken-says f [] k g = stops (omega arith)
  taken-says f (e ∷ M) k g = go (unlike (f e) e) refl
    where
      go : (n : ℕ) → unlike (f e) e ≡ n → Says Q (matched n (suc (length M)) (k e M))
      go zero x = g e M refl (unlike-none (f e) e x)
      go (suc n) x = stops (omega arith)

  pub coded-says : {A : Type 0} {P : A → Type 0} (c : Res A) (i : ℕ) (k : A → Out) → Ensures c P → Named c → ((a : A) → P a → Says Q (k a)) → Says Q (coded c i k)
  unfolding coded
  coded-says (got a) i k h y g = g a (h.says a refl)
  coded-says (fault n) i k h y g = stops y

  pub put-says : (w : List ℕ) (o : Out) → Says (λ x N U. Q (w ++ x) N U) o → Says Q (put w o)
  unfolding put
  put-says w (wrote x N U) h = gives (h.says x N U refl)
  put-says w (refused n i) h = stops (h.numbered n i refl)

  pub along-says : (o : Out) (k : List Bare → List ℕ → Out) → Says (λ w M T. Says (λ x N U. Q (w ++ x) N U) (k M T)) o → Says Q (along o k)
  unfolding along
  along-says (wrote w M T) k h = put-says w (k M T) (h.says w M T refl)
  along-says (refused n i) k h = stops (h.numbered n i refl)

  pub allowed-says : (t : Bool) (i : ℕ) (o : Out) → (t ≡ true → Says Q o) → Says Q (allowed t i o)
  unfolding allowed
  allowed-says true i o h = h refl
  allowed-says false i o h = stops (omega arith)

  pub sealed-says : (mode : Lengths) (q : ℕ) (c : List ℕ) (o : Out)
      → Says (λ w M T. (N : List Bare) → M ≡ bare end ∷ N → Q (head_out mode (length_of q (length (c ++ w))) ++ (c ++ w)) N T) o → Says Q (sealed mode q c o)
  unfolding sealed
  sealed-says mode q c (wrote w M T) h = taken-says as_end M _ λ e N m f. gives (h.says w M T refl N (m ∙ ap (λ (x : Bare). x ∷ N) (sym f)))
  sealed-says mode q c (refused n i) h = stops (h.numbered n i refl)

  -- the codes' event, where there is one, or nothing
  pub casts-says : (y : Types) (M : List Bare) (k : ℕ → List ℕ → List Bare → Out)
      → (codes y ≡ true → (e : Bare) (N : List Bare) → M ≡ e ∷ N → as_cast e ≡ e → (c : List ℕ) → codes_out y e.p e.q ≡ got c → Says Q (k e.p c N))
      → (codes y ≡ false → Says Q (k y.own [] M)) → Says Q (casts (codes y) y M k)
  unfolding casts
  casts-says y M k f g = go (codes y) refl
    where
      go : (u : Bool) → codes y ≡ u → Says Q (casts u y M k)
      go true z =
          taken-says as_cast M _ λ e N m h.
          coded-says (codes_out y e.p e.q) (suc (length N)) (λ c. k e.p c N) (itself _) (codes-out-named y e.p e.q) (λ c x. f z e N m h c x)
      go false z = g z

pub says-more : {Q R : List ℕ → List Bare → List ℕ → Type 0} (o : Out) → ((w : List ℕ) (M : List Bare) (T : List ℕ) → Q w M T → R w M T) → Says Q o → Says R o
says-more o f h = record { says = λ w M T e. f w M T (h.says w M T e); numbered = h.numbered }

-- what is so is written
pub taken_then : (f : Bare → Bare) (e : Bare) (M : List Bare) (k : Bare → List Bare → Out) {o : Out} → f e ≡ e → k e M ≡ o → taken f (e ∷ M) k ≡ o
unfolding taken matched
taken_then f e M k h g = rw (unlike-same (f e) e h) g

pub coded-then : {A : Type 0} {c : Res A} {a : A} (i : ℕ) (k : A → Out) {o : Out} → c ≡ got a → k a ≡ o → coded c i k ≡ o
unfolding coded
coded-then i k e f = rw e f

pub put_then : (w : List ℕ) {o : Out} {x : List ℕ} {N : List Bare} {U : List ℕ} → o ≡ wrote x N U → put w o ≡ wrote (w ++ x) N U
unfolding put
put_then w e = rw e

pub along_then : {o : Out} (k : List Bare → List ℕ → Out) {w : List ℕ} {M : List Bare} {T : List ℕ} {y : Out} → o ≡ wrote w M T → put w (k M T) ≡ y → along o k ≡ y
unfolding along
along_then k e f = rw e f

pub allowed_then : {t : Bool} (i : ℕ) {o y : Out} → t ≡ true → o ≡ y → allowed t i o ≡ y
unfolding allowed
allowed_then i e f = rw e f

pub casts-then : (y : Types) (e : Bare) (M : List Bare) (k : ℕ → List ℕ → List Bare → Out) {c : List ℕ} {o : Out} → codes y ≡ true → as_cast e ≡ e
    → codes_out y e.p e.q ≡ got c → k e.p c M ≡ o → casts (codes y) y (e ∷ M) k ≡ o
unfolding casts
casts-then y e M k z h f g = rw z (taken_then as_cast e M _ h (coded-then (suc (length M)) (λ c. k e.p c M) f g))

pub casts-none : (y : Types) (M : List Bare) (k : ℕ → List ℕ → List Bare → Out) → codes y ≡ false → casts (codes y) y M k ≡ k y.own [] M
unfolding casts
casts-none y M k z = rw z

pub sealed-then : (mode : Lengths) (q : ℕ) (c : List ℕ) {o : Out} {w : List ℕ} {N : List Bare} {T : List ℕ} → o ≡ wrote w (bare end ∷ N) T
    → sealed mode q c o ≡ wrote (head_out mode (length_of q (length (c ++ w))) ++ (c ++ w)) N T
unfolding sealed
sealed-then mode q c {N} e = rw e (taken_then as_end (bare end) N _ refl refl)

-- parts one after another
pub put-none : (o : Out) → put [] o ≡ o
unfolding put
put-none (wrote w M T) = refl
put-none (refused n i) = refl

pub put-put : (w x : List ℕ) (o : Out) → put w (put x o) ≡ put (w ++ x) o
unfolding put
put-put w x (wrote y M T) = ap (λ (l : List ℕ). wrote l M T) (sym (append_assoc w x y))
put-put w x (refused n i) = refl

pub along-put : (w : List ℕ) (o : Out) (k : List Bare → List ℕ → Out) → put w (along o k) ≡ along (put w o) k
unfolding along put
along-put w (wrote x M T) k = put-put w x (k M T)
along-put w (refused n i) k = refl

pub along-along : (o : Out) (k l : List Bare → List ℕ → Out) → along (along o k) l ≡ along o (λ N U. along (k N U) l)
unfolding along
along-along (wrote w M T) k l = sym (along-put w (k M T) l)
along-along (refused n i) k l = refl

pub along-done : (o : Out) → along o (λ N U. wrote [] N U) ≡ o
unfolding along put
along-done (wrote w M T) = ap (λ (l : List ℕ). wrote l M T) (append-nil w)
along-done (refused n i) = refl

pub taken-along : (f : Bare → Bare) (M : List Bare) (k : Bare → List Bare → Out) (l : List Bare → List ℕ → Out) → along (taken f M k) l ≡ taken f M (λ e N. along (k e N) l)
unfolding taken matched along
taken-along f [] k l = refl
taken-along f (e ∷ M) k l = go (unlike (f e) e)
  where
    go : (n : ℕ) → along (matched n (suc (length M)) (k e M)) l ≡ matched n (suc (length M)) (along (k e M) l)
    go zero = refl
    go (suc n) = refl

pub coded-along : {A : Type 0} (c : Res A) (i : ℕ) (k : A → Out) (l : List Bare → List ℕ → Out) → along (coded c i k) l ≡ coded c i (λ a. along (k a) l)
unfolding coded along
coded-along (got a) i k l = refl
coded-along (fault n) i k l = refl
