-- Block by block: what each turn of `scan` and of `gather` comes to.
use Rattle.std.proofs.Common.{◌≡◌, ℕ, suc, ◌+◌, ◌-◌, ◌*◌, ◌%◌, ◌<◌, ◌≤◌, Bool, true, false, cond, eqb, ltb, List, ◌++◌, length, get_or, take, drop, sym, refl, ap, ◌∙◌, arith, drop-drop, take_at, drop_at, eq-eqb, ne_eqb, eqb-true, leb-true}
use mathlib.Core.Bool.{false≢true}
use Rattle.std.specs.Prelude.{Option, Some, None, Result, Ok, Err, is_ok, IsErrAnd, MatchResult}
use Rattle.std.specs.Option.{ok_or}
use Rattle.std.specs.Result.{result_ok}
use Rattle.std.proofs.lemmas.Result.{err_from_is_err_and}
use Rattle.numbers.specs.Refused.{number_of, answered}
use Rattle.numbers.specs.declared.refusal.Fault.{Fault}
use Rattle.numbers.proofs.Refusals.{number-some}
use Rattle.numbers.specs.declared.refusal.Refusal.{Refusal}
use Rattle.numbers.specs.declared.refusal.Refusal.TheVariants as refusal
use Rattle.shelf.specs.declared.answers.Reached as code
use Rattle.shelf.specs.Answers.{Walk, Over, To, Stepped, Off, On, stepped_of, Refused, Whole}
use Rattle.shelf.specs.Stream.{byte_at, walk, first_from}
use Rattle.shelf.specs.Block.{bytes_from, sum_to}
use Rattle.shelf.specs.Judge.{byte_of, blocks, last, number_at, used_at, first_at, sum_at, end_at, some_used, rest_zero, first_inside, zero_first, alone, reason, closes, walked, in_step}
use Rattle.shelf.specs.Shelf.{onward, scan_by, scan}
use Rattle.shelf.proofs.Walks.{Reached, walked-so, reached}
use Rattle.shelf.proofs.Bytes.{bytes-long, bytes-alike, bytes-more}
use Rattle.shelf.proofs.Ways.{used-so}

-- what a test that came out true says of its parts
pub both : (a b : Bool) → cond a b false ≡ true → (a ≡ true) × (b ≡ true)
both true b e = (refl, e)
both false b e = absurd (false≢true e)

-- what stands in a block for which there is no reason to refuse it
pub record Fine (f : List ℕ) (i want : ℕ) : Type 0 where
  pub sums : sum_to f (512 * i) 127 ≡ sum_at f i
  pub number : number_at f i ≡ want
  pub alone : alone f i ≡ true

pub fine : (f : List ℕ) (i want : ℕ) → reason f i want ≡ 0 → Fine f i want
unfolding reason
fine f i want e = by (eqb (sum_to f (512 * i) 127) (sum_at f i)) refl (eqb (number_at f i) want) refl (alone f i) refl e
  where
    by : (a : Bool) → eqb (sum_to f (512 * i) 127) (sum_at f i) ≡ a → (b : Bool) → eqb (number_at f i) want ≡ b → (c : Bool) → alone f i ≡ c → ◌≡◌ {A = ℕ} (cond a (cond b (cond c 0 33) 32) 31) 0 → Fine f i want
    by true p true q true r e = record { sums = eqb-true _ _ p; number = eqb-true _ _ q; alone = r }
    by true p true q false r e = absurd (omega arith)
    by true p false q c r e = absurd (omega arith)
    by false p b q c r e = absurd (omega arith)

pub some-so : (f : List ℕ) (i : ℕ) → alone f i ≡ true → some_used f i ≡ true
unfolding alone
some-so f i e = (both _ _ e).0

pub rest-so : (f : List ℕ) (i : ℕ) → alone f i ≡ true → rest_zero f i ≡ true
unfolding alone
rest-so f i e = (both (rest_zero f i) (cond (first_inside f i) (zero_first f i) false) (both (some_used f i) (cond (rest_zero f i) (cond (first_inside f i) (zero_first f i) false) false) e).1).0

-- fewer than 498 only in the last block
pub full-before : (f : List ℕ) (i : ℕ) → some_used f i ≡ true → i + 1 < blocks f → used_at f i ≡ 498
unfolding some_used
full-before f i e h = by (eqb (used_at f i) 0) (ltb 498 (used_at f i)) (eqb (used_at f i) 498) refl e
  where
    by : (a b c : Bool) → eqb (used_at f i) 498 ≡ c → cond a false (cond b false (cond c true (last f i))) ≡ true → used_at f i ≡ 498
    by true b c p e = absurd (false≢true e)
    by false true c p e = absurd (false≢true e)
    by false false true p e = eqb-true _ _ p
    by false false false p e = let g = leb-true (blocks f) (i + 1) e in absurd (omega arith)

-- what a block in step says
pub record Steps (f : List ℕ) (i p c q d : ℕ) : Type 0 where
  pub first : first_at f i ≡ first_from (byte_of f) (498 * i) (end_at f i) p
  pub walk : walk (byte_of f) (end_at f i) p c ≡ To q d
  pub closed : closes f i ≡ true → q ≡ end_at f i

on-place : {r s q d : ℕ} → On r s ≡ On q d → r ≡ q
on-place m = cc

on-to : {r s q d : ℕ} → On r s ≡ On q d → To r s ≡ To q d
on-to m = cc

pub steps : (f : List ℕ) (i p c q d : ℕ) → in_step f i p c ≡ On q d → Steps f i p c q d
unfolding in_step walked
steps f i p c q d e = by (eqb (first_at f i) (first_from (byte_of f) (498 * i) (end_at f i) p)) refl (walk (byte_of f) (end_at f i) p c) refl (closes f i) refl e
  where
    ends : (r s : ℕ) (t : Bool) → eqb r (end_at f i) ≡ t → cond t (On r s) Off ≡ On q d → (On r s ≡ On q d) × (r ≡ end_at f i)
    ends r s true g e = (e, eqb-true _ _ g)
    ends r s false g e = let o : ◌≡◌ {A = ℕ} 0 1 = cc in absurd (omega arith)

    by : (a : Bool) → eqb (first_at f i) (first_from (byte_of f) (498 * i) (end_at f i) p) ≡ a → (w : Walk) → walk (byte_of f) (end_at f i) p c ≡ w
        → (k : Bool) → closes f i ≡ k → cond a (walked f i w) Off ≡ On q d → Steps f i p c q d
    by false g w h k l e = let o : ◌≡◌ {A = ℕ} 0 1 = cc in absurd (omega arith)
    by true g (Over r) h k l e = let o : ◌≡◌ {A = ℕ} 0 1 = cc in absurd (omega arith)
    by true g (To r s) h true l e =
        let m = ends r s (eqb r (end_at f i)) refl (rw l at e) in
        record { first = eqb-true _ _ g; walk = h ∙ on-to m.0; closed = λ x. sym (on-place m.0) ∙ m.1 }
    by true g (To r s) h false l e =
        let m : On r s ≡ On q d = rw l at e in
        record { first = eqb-true _ _ g; walk = h ∙ on-to m; closed = λ x. absurd (false≢true (sym l ∙ x)) }

-- a reason that is none, and one told at its block
kept-none : (a : Result (Unit {0}) Refusal) → is_ok a ≡ true → answered a ≡ 0
kept-none (Ok u) e = refl
kept-none (Err x) e = absurd (false≢true e)

pub fine-kept : (f : List ℕ) (i : ℕ) (a : Result (Unit {0}) Refusal) {b : Result (Unit {0}) (Fault ℕ)} {u : Unit {0}} → is_ok b ≡ is_ok a → answered a ≡ reason f i i → b ≡ Ok u → reason f i i ≡ 0
fine-kept f i a v g k = sym g ∙ kept-none a (sym v ∙ ap is_ok k)

pub told-at : (f : List ℕ) (i : ℕ) (Q : Refusal → Fault ℕ → Type 0) → ((e : Refusal) (x : Fault ℕ) → Q e x → x ≡ record { why = e; at = i }) → (a : Result (Unit {0}) Refusal) {b : Result (Unit {0}) (Fault ℕ)} {x : Fault ℕ}
    → MatchResult a (λ u. b ≡ Ok u) (λ e. IsErrAnd b (Q e)) → answered a ≡ reason f i i → b ≡ Err x → (number_of x.why ≡ reason f i i) × (x.at ≡ i)
told-at f i Q h (Ok u) m g k = let o : ◌≡◌ {A = ℕ} 0 1 = cc in absurd (omega arith)
told-at f i Q h (Err e) {b} {x} m g k =
    let p = err_from_is_err_and b m in
    let y : ◌≡◌ {A = Result (Unit {0}) (Fault ℕ)} (Err x) (Err p.0) = sym k ∙ p.1 in
    let z : x ≡ p.0 = cc in
    let q : x ≡ record { why = e; at = i } = z ∙ h e p.0 p.2 in
    (ap (λ (j : Fault ℕ). number_of j.why) q ∙ g, ap (λ (j : Fault ℕ). j.at) q)

-- the next block
module _ (f : List ℕ) (i p c : ℕ) (s : Option code.Reached) (r : code.Reached) (z : reason f i i ≡ 0) (g : stepped_of s ≡ in_step f i p c) (k : s ≡ Some r) where
  abbrev reached-next : Reached (end_at f i) p c r.place r.count
  reached-next = reached (walked-so (steps f i p c r.place r.count (sym g ∙ ap stepped_of k)).walk)

  pub next-fewer : c ≤ p → r.count ≤ r.place
  next-fewer = reached-next.fewer

  pub next_past : i + 1 < blocks f → 498 * (i + 1) ≤ r.place + 1
  next_past h = omega (arith, reached-next.past, full-before f i (some-so f i (fine f i i z).alone) h)

pub used-none-so : (f : List ℕ) (i : ℕ) → reason f i i ≡ 0 → 0 < used_at f i
used-none-so f i g = (used-so f i (some-so f i (fine f i i g).alone)).some

pub used-most-so : (f : List ℕ) (i : ℕ) → reason f i i ≡ 0 → used_at f i ≤ 498
used-most-so f i g = (used-so f i (some-so f i (fine f i i g).alone)).most

-- one turn of `scan`
pub scan-start : (f : List ℕ) → scan f ≡ scan_by (blocks f - 0) f 0 0 0
unfolding scan
scan-start f = let e : blocks f - 0 ≡ blocks f = omega arith in rw e

module _ (f : List ℕ) (i p c : ℕ) (e : scan f ≡ scan_by (blocks f - i) f i p c) where
  pub scan-end : blocks f ≤ i → length f % 512 ≡ 0 → Whole p c ≡ scan f
  unfolding scan_by
  scan-end h g = let z : blocks f - i ≡ 0 = omega arith in sym (e ∙ rw z (simp (eq-eqb (length f % 512) 0 g)))

  pub scan-part : blocks f ≤ i → i ≤ blocks f → (length f % 512 ≡ 0 → ⊥) → Refused 33 (blocks f) ≡ scan f
  unfolding scan_by
  scan-part h l g =
      let z : blocks f - i ≡ 0 = omega arith in
      let k : i ≡ blocks f = omega arith in
      sym (e ∙ rw z (simp (ne_eqb (length f % 512) 0 g)) ∙ ap (Refused 33) k)

  module _ (h : i < blocks f) where
    left : blocks f - i ≡ suc (blocks f - (i + 1))
    left = omega arith

    pub scan-refuse : (x : Fault ℕ) → (number_of x.why ≡ reason f i i) × (x.at ≡ i) → Refused (number_of x.why) x.at ≡ scan f
    unfolding scan_by
    scan-refuse x (g, a) = sym (e ∙ rw left (simp (ne_eqb (reason f i i) 0 (λ q. number-some x.why (g ∙ q)))) ∙ ap (λ (y : ℕ). Refused y i) (sym g) ∙ ap (Refused (number_of x.why)) (sym a))

    module _ (z : reason f i i ≡ 0) (s : Option code.Reached) (k : stepped_of s ≡ in_step f i p c) where
      onto : scan f ≡ onward i (stepped_of s) (scan_by (blocks f - (i + 1)) f (i + 1))
      unfolding scan_by
      onto = e ∙ rw left (simp (eq-eqb (reason f i i) 0 z)) ∙ ap (λ (x : Stepped). onward i x (scan_by (blocks f - (i + 1)) f (i + 1))) (sym k)

      pub scan-off : (x : Fault ℕ) {r : Result code.Reached (Fault ℕ)} → r ≡ ok_or s (record { why = refusal.BlockLayout; at = i }) → s ≡ result_ok r → r ≡ Err x → Refused (number_of x.why) x.at ≡ scan f
      unfolding onward
      scan-off x v o w =
          let n : s ≡ None = o ∙ ap result_ok w in
          let y : ◌≡◌ {A = Result code.Reached (Fault ℕ)} (Err x) (Err (record { why = refusal.BlockLayout; at = i })) = sym w ∙ v ∙ ap (λ (z : Option code.Reached). ok_or z (record { why = refusal.BlockLayout; at = i })) n in
          let q : x ≡ record { why = refusal.BlockLayout; at = i } = cc in
          rw q (sym (onto ∙ rw n))

      pub scan-on : (r : code.Reached) → s ≡ Some r → scan f ≡ scan_by (blocks f - (i + 1)) f (i + 1) r.place r.count
      unfolding onward
      scan-on r o = onto ∙ rw o

-- bytes of one more block gathered
pub gathered-more : (f r₀ r r' : List ℕ) (i at k : ℕ) → at ≡ 498 * i → k ≤ 498 → at + k ≤ length r₀ → r ≡ bytes_from (byte_of f) 0 at ++ drop at r₀
    → r' ≡ take at r ++ bytes_from (byte_at f) (512 * i + 8) k ++ drop (at + k) r → r' ≡ bytes_from (byte_of f) 0 (at + k) ++ drop (at + k) r₀
gathered-more f r₀ r r' i at k a h l e g =
    let F = bytes_from (byte_of f) 0 at in
    let n = bytes-long (byte_of f) 0 at in
    let same : bytes_from (byte_at f) (512 * i + 8) k ≡ bytes_from (byte_of f) (0 + at) k =
    bytes-alike (byte_at f) (byte_of f) (512 * i + 8) (0 + at) k (λ j b. ap (λ (x : ℕ). get_or f x 0) (omega arith)) in
    g
    ∙ ap (λ (x : List ℕ). take at x ++ bytes_from (byte_at f) (512 * i + 8) k ++ drop (at + k) x) e
    ∙ ap (λ (x : List ℕ). x ++ bytes_from (byte_at f) (512 * i + 8) k ++ drop (at + k) (F ++ drop at r₀)) (take_at F (drop at r₀) at n)
    ∙ ap (λ (x : List ℕ). F ++ x ++ drop (at + k) (F ++ drop at r₀)) same
    ∙ ap (λ (x : List ℕ). F ++ bytes_from (byte_of f) (0 + at) k ++ x) (sym (drop-drop k at (F ++ drop at r₀)) ∙ ap (drop k) (drop_at F (drop at r₀) at n) ∙ drop-drop k at r₀)
    ∙ ap (λ (x : List ℕ). x ++ drop (at + k) r₀) (sym (bytes-more (byte_of f) 0 at k))
