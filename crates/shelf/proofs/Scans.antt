-- A file that is read to its end: its blocks one after another, each fine and in step.
use Rattle.std.proofs.Common.{◌≡◌, ℕ, zero, suc, ◌+◌, ◌-◌, ◌*◌, ◌%◌, ◌≤◌, Bool, true, false, cond, eqb, List, length, sym, refl, ap, ◌∙◌, ⊎_elim, arith, le-ltb, lt-ltb, eqb-true, le-leb}
use Rattle.std.specs.Prelude.{Result, Ok}
use Rattle.numbers.specs.declared.refusal.Fault.{Fault}
use Rattle.shelf.specs.declared.answers.Reached.{Reached}
use Rattle.shelf.specs.Answers.{Stepped, Off, On, Refused, Whole, scan_of}
use Rattle.shelf.specs.Judge.{blocks, used_at, end_at, reason, closes, in_step}
use Rattle.shelf.specs.Shelf.{onward, scan_by, scan}
use Rattle.shelf.proofs.Sides.{less}
use Rattle.shelf.proofs.Ways.{Used, used-so}
use Rattle.shelf.proofs.Scanning.{Fine, fine, some-so, Steps, steps}

pub data Scans (f : List ℕ) (n d : ℕ) : (k i p c : ℕ) → Type 0 where
  done : {i : ℕ} → length f % 512 ≡ 0 → Scans f n d zero i n d
  more : {k i p c q e : ℕ} → Fine f i i → Steps f i p c q e → Scans f n d k (i + 1) q e → Scans f n d (suc k) i p c

pub scanned : (f : List ℕ) (n d k i p c : ℕ) → scan_by k f i p c ≡ Whole n d → Scans f n d k i p c
unfolding scan_by onward
scanned f n d zero i p c e = by (eqb (length f % 512) 0) refl e
  where
    ended : (q s : ℕ) → Whole q s ≡ Whole n d → length f % 512 ≡ 0 → Scans f n d zero i q s
    ended q s g h = let a : q ≡ n = cc in let b : s ≡ d = cc in rw (a, b) (Scans.done h)

    by : (t : Bool) → eqb (length f % 512) 0 ≡ t → cond t (Whole p c) (Refused 33 i) ≡ Whole n d → Scans f n d zero i p c
    by true g e = ended p c e (eqb-true _ _ g)
    by false g e = let o : ◌≡◌ {A = ℕ} 0 1 = cc in absurd (omega arith)
scanned f n d (suc k) i p c e = by (λ q s g. scanned f n d k (i + 1) q s g) (eqb (reason f i i) 0) refl (in_step f i p c) refl e
  where
    by : ((q s : ℕ) → scan_by k f (i + 1) q s ≡ Whole n d → Scans f n d k (i + 1) q s) → (t : Bool) → eqb (reason f i i) 0 ≡ t → (s : Stepped) → in_step f i p c ≡ s → cond t (onward i s (scan_by k f (i + 1))) (Refused (reason f i i) i) ≡ Whole n d
        → Scans f n d (suc k) i p c
    by rest true g (On q s) h e = Scans.more (fine f i i (eqb-true _ _ g)) (steps f i p c q s h) (rest q s e)
    by rest true g Off h e = let o : ◌≡◌ {A = ℕ} 0 1 = cc in absurd (omega arith)
    by rest false g s h e = let o : ◌≡◌ {A = ℕ} 0 1 = cc in absurd (omega arith)

pub none_left : (f : List ℕ) (n d i p c : ℕ) → Scans f n d zero i p c → (p ≡ n) × (c ≡ d) × (length f % 512 ≡ 0)
none_left f n d i p c (Scans.done h) = (refl, refl, h)

pub even : {f : List ℕ} {n d k i p c : ℕ} → Scans f n d k i p c → length f % 512 ≡ 0
even (Scans.done h) = h
even (Scans.more g s r) = even r

-- nothing goes on past the last block
pub closes-last : (f : List ℕ) (i : ℕ) → length f ≤ 512 * (i + 1) → closes f i ≡ true
unfolding closes
closes-last f i h = ⊎_elim (λ l. simp (lt-ltb (used_at f i) 498 l)) (λ l. simp (le-ltb (used_at f i) 498 l, le-leb (length f) (512 * (i + 1)) h)) (less (used_at f i) 498)

-- where the stream ends
pub total : (f : List ℕ) (n d k i p c : ℕ) → Scans f n d (suc k) i p c → i + suc k ≡ blocks f → n ≡ end_at f (blocks f - 1)
total f n d zero i p c (Scans.more g s (Scans.done h)) e =
    let l : blocks f - 1 ≡ i = omega arith in rw l (s.closed (closes-last f i (omega arith)))
total f n d (suc k) i p c (Scans.more {q = q} {e = t} g s r) e = total f n d k (i + 1) q t r (omega arith)

pub last-used : (f : List ℕ) (n d k i p c : ℕ) → Scans f n d (suc k) i p c → i + suc k ≡ blocks f → Used (used_at f (blocks f - 1))
last-used f n d zero i p c (Scans.more g s r) e = let l : blocks f - 1 ≡ i = omega arith in rw l (used-so f i (some-so f i g.alone))
last-used f n d (suc k) i p c (Scans.more {q = q} {e = t} g s r) e = last-used f n d k (i + 1) q t r (omega arith)

within_by : (f : List ℕ) (n d k : ℕ) → blocks f ≡ k → Scans f n d k 0 0 0 → n ≤ 498 * blocks f
within_by f n d zero e (Scans.done h) = omega arith
within_by f n d (suc k) e r = let u = last-used f n d k 0 0 0 r (omega arith) in omega (arith, total f n d k 0 0 0 r (omega arith), u.most)

pub scan-within : (f : List ℕ) {n d : ℕ} → scan f ≡ Whole n d → n ≤ 498 * blocks f
unfolding scan
scan-within f {n} {d} e = within_by f n d (blocks f) refl (scanned f n d (blocks f) 0 0 0 e)

pub read-within : (f : List ℕ) {s : Result Reached (Fault ℕ)} {r : Reached} → scan_of s ≡ scan f → s ≡ Ok r → r.place ≤ 498 * blocks f
read-within f e g = scan-within f (sym e ∙ ap scan_of g)
