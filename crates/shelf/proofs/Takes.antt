-- A block of a damaged file judged: the ways through the functions, and what a good one leaves known.
use Rattle.std.proofs.Common.{◌≡◌, ℕ, ◌+◌, ◌*◌, ◌<◌, ◌≤◌, Bool, true, false, cond, eqb, ltb, List, sym, refl, ap, ◌∙◌, arith, ltb-true, eq-eqb, ne_eqb, eqb-true}
use borrow.Author.Tests.{eqb-false}
use Rattle.std.specs.Prelude.{Option, Some, Result, Ok, Err}
use Rattle.numbers.specs.Refused.{number_of, answered}
use Rattle.numbers.specs.declared.refusal.Refusal.{Refusal}
use Rattle.shelf.specs.declared.answers.Trail.{Trail}
use Rattle.shelf.specs.Answers.{Walk, Over, To, Off, On}
use Rattle.shelf.specs.Stream.{walk}
use Rattle.shelf.specs.Judge.{byte_of, blocks, used_at, first_at, end_at, some_used, rest_zero, first_inside, zero_first, alone, reason, closes, walked, in_step}
use Rattle.shelf.specs.Salvage.{Known, lost, from, Judged, bad, good, wanted, stepped, taken, judge}
use Rattle.shelf.specs.Rescue.{known_of, turn_at, Next, Ready}
use Rattle.shelf.proofs.Walks.{walked-so, reached}
use Rattle.shelf.proofs.Ways.{used-so}
use Rattle.numbers.proofs.Refusals.{number-some}
use Rattle.shelf.proofs.Scanning.{both, fine, some-so, full-before}

module _ (f : List ℕ) (i : ℕ) {known : Option Trail} {t : Trail} (n : Next f i (known_of known)) (e : known ≡ Some t) where
  pub next-fewer : t.reached.count ≤ t.reached.place
  next-fewer = n.fewer t.start t.reached.place t.reached.count (ap known_of e)

  pub next_past : i < blocks f → 498 * i ≤ t.reached.place + 1
  next_past h = n.past t.start t.reached.place t.reached.count (ap known_of e) h

-- judged
module _ (f : List ℕ) (first i : ℕ) (known : Known) {w : ℕ} (e : w ≡ wanted f i (turn_at f first i)) (a : Result (Unit {0}) Refusal) (g : answered a ≡ reason f i w) where
  same-reason : answered a ≡ reason f i (wanted f i (turn_at f first i))
  same-reason = g ∙ ap (reason f i) e

  pub judged-fine : {r : Judged} {u : Unit {0}} → a ≡ Ok u → r ≡ taken f i known → r ≡ judge f i (turn_at f first i) known
  unfolding judge
  judged-fine z h = h ∙ rw (eq-eqb (reason f i (wanted f i (turn_at f first i))) 0 (sym same-reason ∙ ap answered z))

  pub judged-bad : {why : Refusal} → a ≡ Err why → bad (number_of why) ≡ judge f i (turn_at f first i) known
  unfolding judge
  judged-bad {why} z =
      let n : number_of why ≡ reason f i (wanted f i (turn_at f first i)) = sym (ap answered z) ∙ same-reason in
      rw (ne_eqb (reason f i (wanted f i (turn_at f first i))) 0 (λ q. number-some why (n ∙ q))) (ap bad n)

module _ (f : List ℕ) (i w : ℕ) (a : Result (Unit {0}) Refusal) {u : Unit {0}} (e : answered a ≡ reason f i w) (g : a ≡ Ok u) where
  pub fine-some : 0 < used_at f i
  fine-some = (used-so f i (some-so f i (fine f i w (sym e ∙ ap answered g)).alone)).some

  pub fine-most : used_at f i ≤ 498
  fine-most = (used-so f i (some-so f i (fine f i w (sym e ∙ ap answered g)).alone)).most

-- A GOOD BLOCK: it was fine alone, and what is known behind it
pub record IsGood (f : List ℕ) (i : ℕ) (known now : Known) : Type 0 where
  pub alone : alone f i ≡ true
  pub taken : taken f i known ≡ good now

pub is-good : (f : List ℕ) (first i : ℕ) (known now : Known) → good now ≡ judge f i (turn_at f first i) known → IsGood f i known now
unfolding judge
is-good f first i known now e = by (eqb (reason f i (wanted f i (turn_at f first i))) 0) refl e
  where
    by : (t : Bool) → eqb (reason f i (wanted f i (turn_at f first i))) 0 ≡ t
        → good now ≡ cond t (taken f i known) (bad (reason f i (wanted f i (turn_at f first i)))) → IsGood f i known now
    by true g e = record { alone = (fine f i (wanted f i (turn_at f first i)) (eqb-true _ _ g)).alone; taken = sym e }
    by false g e = let o : ◌≡◌ {A = ℕ} 0 1 = cc in absurd (omega arith)

-- the first record is named within the used bytes
first_so : (f : List ℕ) (i : ℕ) → alone f i ≡ true → (first_at f i ≡ 65535 → ⊥) → first_at f i < used_at f i
unfolding alone first_inside
first_so f i e n =
    by (ltb (first_at f i) (used_at f i)) refl (both (first_inside f i) (zero_first f i) (both (rest_zero f i) _ (both (some_used f i) _ e).1).1).0
  where
    by : (t : Bool) → ltb (first_at f i) (used_at f i) ≡ t → cond t true (eqb (first_at f i) 65535) ≡ true → first_at f i < used_at f i
    by true g e = ltb-true _ _ g
    by false g e = absurd (n (eqb-true _ _ e))

-- what a step comes to
pub record Comes (f : List ℕ) (i start : ℕ) (now : Known) : Type 0 where
  pub fewer : (s p c : ℕ) → now ≡ from s p c → c ≤ p
  pub past : (s p c : ℕ) → now ≡ from s p c → end_at f i ≤ p + 1
  pub same : (s p c : ℕ) → now ≡ from s p c → s ≡ start

-- lost, nothing is known
pub lost-ready : (f : List ℕ) (first i : ℕ) → Ready f first i lost
lost-ready f first i =
    record {
      next =
          record {
            fewer = λ s p c e. let o : ◌≡◌ {A = ℕ} 0 1 = cc in absurd (omega arith);
            past = λ s p c e g. let o : ◌≡◌ {A = ℕ} 0 1 = cc in absurd (omega arith);
          };
      after = λ s p c e. let o : ◌≡◌ {A = ℕ} 0 1 = cc in absurd (omega arith);
      before = λ s p c e. let o : ◌≡◌ {A = ℕ} 0 1 = cc in absurd (omega arith);
    }

-- where the records were followed from q on, d before them
walked-comes : (f : List ℕ) (i start q d : ℕ) (now : Known) → stepped start (walked f i (walk (byte_of f) (end_at f i) q d)) ≡ good now → d ≤ q → Comes f i start now
unfolding stepped walked
walked-comes f i start q d now e h = by (walk (byte_of f) (end_at f i) q d) refl e
  where
    reach : (p c : ℕ) → walk (byte_of f) (end_at f i) q d ≡ To p c → (now : Known) → good (from start p c) ≡ good now → Comes f i start now
    reach p c w lost e = let o : ◌≡◌ {A = ℕ} 0 1 = cc in absurd (omega arith)
    reach p c w (from s' p' c') e =
        let r = reached (walked-so w) in
        let a : start ≡ s' = cc in
        let b : p ≡ p' = cc in
        let g : c ≡ c' = cc in
        record {
          fewer = λ s x y k. let m : p' ≡ x = cc in let n : c' ≡ y = cc in let z = r.fewer h in omega arith;
          past = λ s x y k. let m : p' ≡ x = cc in let z = r.past in omega arith;
          same = λ s x y k. let m : s' ≡ s = cc in omega arith;
        }

    ended : (p c : ℕ) (t u : Bool) → walk (byte_of f) (end_at f i) q d ≡ To p c → stepped start (cond t (cond u (On p c) Off) (On p c)) ≡ good now → Comes f i start now
    ended p c true true w e = reach p c w now e
    ended p c true false w e = let o : ◌≡◌ {A = ℕ} 0 1 = cc in absurd (omega arith)
    ended p c false u w e = reach p c w now e

    by : (w : Walk) → walk (byte_of f) (end_at f i) q d ≡ w → stepped start (walked f i w) ≡ good now → Comes f i start now
    by (Over p) g e = let o : ◌≡◌ {A = ℕ} 0 1 = cc in absurd (omega arith)
    by (To p c) g e = ended p c (closes f i) (eqb p (end_at f i)) g e

-- in step
step-comes : (f : List ℕ) (i start q d : ℕ) (now : Known) → stepped start (in_step f i q d) ≡ good now → d ≤ q → Comes f i start now
unfolding in_step stepped
step-comes f i start q d now e h = by (eqb (first_at f i) _) e
  where
    by : (t : Bool) → stepped start (cond t (walked f i (walk (byte_of f) (end_at f i) q d)) Off) ≡ good now → Comes f i start now
    by true e = walked-comes f i start q d now e h
    by false e = let o : ◌≡◌ {A = ℕ} 0 1 = cc in absurd (omega arith)

from-comes : (f : List ℕ) (first i start : ℕ) (now : Known) → i < blocks f → alone f i ≡ true → 498 * first ≤ start → start ≤ 498 * (i + 1) → Comes f i start now → Ready f first (i + 1) now
from-comes f first i start now h a l m k =
    let s = some-so f i a in
    record {
      next =
          record {
            fewer = k.fewer;
            past = λ s' p c e g. let z = k.past s' p c e in let y = full-before f i s g in omega arith;
          };
      after = λ s' p c e. let z = k.same s' p c e in omega arith;
      before = λ s' p c e. let z = k.same s' p c e in omega arith;
    }

pub good-ready : (f : List ℕ) (first i : ℕ) (known now : Known) → i < blocks f → first ≤ i → Ready f first i known → IsGood f i known now → Ready f first (i + 1) now
unfolding taken
good-ready f first i (from start p c) now h l r g =
    from-comes f first i start now h g.alone (r.after start p c refl) (let z = r.before start p c refl in omega arith)
    (step-comes f i start p c now g.taken (r.next.fewer start p c refl))
good-ready f first i lost now h l r g = by (eqb (first_at f i) 65535) refl now g.taken
  where
    by : (t : Bool) → eqb (first_at f i) 65535 ≡ t → (now : Known)
        → cond t (good lost) (stepped (498 * i + first_at f i) (walked f i (walk (byte_of f) (end_at f i) (498 * i + first_at f i) 0)))
        ≡ good now → Ready f first (i + 1) now
    by true q lost e = lost-ready f first (i + 1)
    by true q (from s p c) e = let o : ◌≡◌ {A = ℕ} 0 1 = cc in absurd (omega arith)
    by false q now e =
        let a = first_so f i g.alone (eqb-false _ _ q) in
        let u = (used-so f i (some-so f i g.alone)).most in
        from-comes f first i (498 * i + first_at f i) now h g.alone (omega arith) (omega arith) (walked-comes f i (498 * i + first_at f i) (498 * i + first_at f i) 0 now e (omega arith))

pub good-most : (f : List ℕ) (i : ℕ) {known now : Known} → IsGood f i known now → used_at f i ≤ 498
good-most f i g = (used-so f i (some-so f i g.alone)).most
