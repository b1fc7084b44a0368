-- Following records: the steps of a walk as a relation, by which every law of it is an induction; walks one after another; walks over bytes that agree.
use Rattle.std.proofs.Common.{◌≡◌, ℕ, zero, suc, ◌+◌, ◌<◌, ◌≤◌, cond, ltb, sym, refl, ap, ◌∙◌, ⊎_elim, arith, le-ltb, lt-ltb}
use Rattle.shelf.proofs.Sides.{less}
use Rattle.shelf.specs.Answers.{Walk, Over, To}
use Rattle.shelf.specs.Stream.{length_at, next, walk_by, walk}

-- more steps than enough change nothing
enough : (g h : ℕ) (b : ℕ → ℕ) (end p c : ℕ) → end ≤ p + g + 1 → end ≤ p + h + 1 → walk_by g b end p c ≡ walk_by h b end p c
unfolding walk_by
enough zero zero b end p c i j = refl
enough zero (suc h) b end p c i j = simp (le-ltb (p + 1) end (omega arith))
enough (suc g) zero b end p c i j = simp (le-ltb (p + 1) end (omega arith))
enough (suc g) (suc h) b end p c i j =
    ap (λ (w : Walk). cond (ltb (p + 1) end) (cond (ltb 8192 (length_at b p)) (Over p) w) (To p c)) (enough g h b end (next b p) (c + 1) (omega arith) (omega arith))

module _ (b : ℕ → ℕ) (end p c : ℕ) where
  step : walk b end p c ≡ cond (ltb (p + 1) end) (cond (ltb 8192 (length_at b p)) (Over p) (walk b end (next b p) (c + 1))) (To p c)
  unfolding walk walk_by
  step = enough end (suc end) b end p c (omega arith) (omega arith)

  pub walk-stop : end ≤ p + 1 → walk b end p c ≡ To p c
  walk-stop h = step ∙ simp (le-ltb (p + 1) end h)

  pub walk-over : p + 1 < end → 8192 < length_at b p → walk b end p c ≡ Over p
  walk-over h l = step ∙ simp (lt-ltb (p + 1) end h, lt-ltb 8192 (length_at b p) l)

  pub walk-on : p + 1 < end → length_at b p ≤ 8192 → walk b end p c ≡ walk b end (next b p) (c + 1)
  walk-on h l = step ∙ simp (lt-ltb (p + 1) end h, le-ltb 8192 (length_at b p) l)

-- the three ways on
pub data Walks (b : ℕ → ℕ) (end : ℕ) : (p c : ℕ) → Walk → Type 0 where
  stops : {p c : ℕ} → end ≤ p + 1 → Walks b end p c (To p c)
  passes : {p c : ℕ} → p + 1 < end → 8192 < length_at b p → Walks b end p c (Over p)
  goes : {p c : ℕ} {w : Walk} → p + 1 < end → length_at b p ≤ 8192 → Walks b end (next b p) (c + 1) w → Walks b end p c w

walks_by : (g : ℕ) (b : ℕ → ℕ) (end p c : ℕ) → end ≤ p + g + 1 → Walks b end p c (walk b end p c)
walks_by zero b end p c h = rw (walk-stop b end p c (omega arith)) (Walks.stops {p = p} {c = c} (omega arith))
walks_by (suc g) b end p c h =
    ⊎_elim
    (λ (i : p + 1 < end).
    ⊎_elim (λ (l : 8192 < length_at b p). rw (walk-over b end p c i l) (Walks.passes i l))
    (λ (l : length_at b p ≤ 8192). rw (walk-on b end p c i l) (Walks.goes i l (walks_by g b end (next b p) (c + 1) (omega arith))))
    (less 8192 (length_at b p)))
    (λ (i : end ≤ p + 1). rw (walk-stop b end p c i) (Walks.stops i))
    (less (p + 1) end)

pub walks : (b : ℕ → ℕ) (end p c : ℕ) → Walks b end p c (walk b end p c)
walks b end p c = walks_by end b end p c (omega arith)

pub is-walk : {b : ℕ → ℕ} {end p c : ℕ} {w : Walk} → Walks b end p c w → walk b end p c ≡ w
is-walk {b} {end} {p} {c} (Walks.stops h) = walk-stop b end p c h
is-walk {b} {end} {p} {c} (Walks.passes h l) = walk-over b end p c h l
is-walk {b} {end} {p} {c} (Walks.goes h l r) = walk-on b end p c h l ∙ is-walk r

-- a walk that is known
pub walked-so : {b : ℕ → ℕ} {end p c : ℕ} {w : Walk} → walk b end p c ≡ w → Walks b end p c w
walked-so {b} {end} {p} {c} e = rw e at (walks b end p c)

-- where it comes to
pub record Reached (end p c q d : ℕ) : Type 0 where
  pub past : end ≤ q + 1
  pub on : p ≤ q
  pub fewer : c ≤ p → d ≤ q

pub reached : {b : ℕ → ℕ} {end p c q d : ℕ} → Walks b end p c (To q d) → Reached end p c q d
reached (Walks.stops h) = record { past = h; on = omega arith; fewer = λ e. e }
reached (Walks.goes h l r) = let s = reached r in record { past = s.past; on = omega (arith, s.on); fewer = λ e. s.fewer (omega arith) }

pub record Stopped (end p q : ℕ) : Type 0 where
  pub before : q + 1 < end
  pub on : p ≤ q

pub stopped : {b : ℕ → ℕ} {end p c q : ℕ} → Walks b end p c (Over q) → Stopped end p q
stopped (Walks.passes h l) = record { before = h; on = omega arith }
stopped (Walks.goes h l r) = let s = stopped r in record { before = s.before; on = omega (arith, s.on) }

-- one walk after another is the longer one
unfoldable pub and_then : Walk → (ℕ → ℕ → Walk) → Walk
and_then (Over q) rest = Over q
and_then (To q d) rest = rest q d

longer : {b : ℕ → ℕ} {end p c : ℕ} {w : Walk} (far : ℕ) → end ≤ far → Walks b end p c w → and_then w (walk b far) ≡ walk b far p c
unfolding and_then
longer far i (Walks.stops h) = refl
longer {b} {end} {p} {c} far i (Walks.passes h l) = sym (walk-over b far p c (omega arith) l)
longer {b} {end} {p} {c} far i (Walks.goes h l r) = longer far i r ∙ sym (walk-on b far p c (omega arith) l)

pub walk-longer : (b : ℕ → ℕ) (end far p c : ℕ) → end ≤ far → and_then (walk b end p c) (walk b far) ≡ walk b far p c
walk-longer b end far p c i = longer far i (walks b end p c)

pub longer-to : (b : ℕ → ℕ) (end far p c q d : ℕ) → end ≤ far → walk b end p c ≡ To q d → walk b far p c ≡ walk b far q d
unfolding and_then
longer-to b end far p c q d i e = sym (rw e at (walk-longer b end far p c i))

pub longer-over : (b : ℕ → ℕ) (end far p c q : ℕ) → end ≤ far → walk b end p c ≡ Over q → walk b far p c ≡ Over q
unfolding and_then
longer-over b end far p c q i e = sym (rw e at (walk-longer b end far p c i))

-- bytes that agree from a place at or before the beginning up to the end are walked alike
agrees : {b : ℕ → ℕ} (b' : ℕ → ℕ) {end p c : ℕ} {w : Walk} (lo : ℕ) → lo ≤ p → ((k : ℕ) → lo ≤ k → k < end → b k ≡ b' k) → Walks b end p c w → Walks b' end p c w
agrees b' lo o same (Walks.stops h) = Walks.stops h
agrees {b} b' {end} {p} lo o same (Walks.passes h l) =
    let e : length_at b p ≡ length_at b' p = rw (same p o (omega arith), same (p + 1) (omega arith) h) in Walks.passes h (rw e at l)
agrees {b} b' {end} {p} {c} {w} lo o same (Walks.goes h l r) =
    let e : length_at b p ≡ length_at b' p = rw (same p o (omega arith), same (p + 1) (omega arith) h) in
    let f : next b p ≡ next b' p = omega arith in
    Walks.goes h (rw e at l) (rw f at (agrees b' lo (omega arith) same r))

pub walk-alike-from : (b b' : ℕ → ℕ) (end p c lo : ℕ) → lo ≤ p → ((k : ℕ) → lo ≤ k → k < end → b k ≡ b' k) → walk b' end p c ≡ walk b end p c
walk-alike-from b b' end p c lo o same = is-walk (agrees b' lo o same (walks b end p c))

pub walk-alike : (b b' : ℕ → ℕ) (end p c : ℕ) → ((k : ℕ) → k < end → b k ≡ b' k) → walk b' end p c ≡ walk b end p c
walk-alike b b' end p c same = walk-alike-from b b' end p c 0 (omega arith) (λ k l h. same k h)
