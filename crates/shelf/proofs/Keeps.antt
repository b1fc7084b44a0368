-- The records kept of a stretch: one more, the last, and where they lie.
use Rattle.std.proofs.Common.{◌≡◌, ℕ, zero, suc, ◌+◌, ◌-◌, ◌*◌, ◌<◌, ◌≤◌, Bool, true, false, cond, ltb, leb, List, sym, refl, ap, ◌∙◌, ⊎_elim, arith, le-ltb, lt-ltb, le-leb, leb-true}
use borrow.Author.Tests.{lt-leb}
use Rattle.shelf.specs.declared.answers.Kept.{Kept}
use Rattle.shelf.specs.Stream.{length_at, next}
use Rattle.shelf.specs.Judge.{byte_of, blocks, used_at, end_at}
use Rattle.std.specs.Prelude.{Option, Some, None}
use Rattle.shelf.specs.declared.answers.Trail.{Trail}
use Rattle.shelf.specs.Salvage.{Stop, kept_by, ending, stretch}
use Rattle.shelf.specs.Rescue.{known_of, kept_from, Goods, Ready, Keeps}
use Rattle.shelf.proofs.Sides.{less}
use Rattle.shelf.proofs.Rooms.{ending-most}

abbrev stop : (p c : ℕ) → Stop
stop p c = record { place = p; count = c }

-- more steps than enough change nothing
enough : (g h : ℕ) (b : ℕ → ℕ) (end p c : ℕ) → end ≤ p + g + 1 → end ≤ p + h + 1 → kept_by g b end p c ≡ kept_by h b end p c
unfolding kept_by
enough zero zero b end p c i j = refl
enough zero (suc h) b end p c i j = rw (le-ltb (p + 1) end (omega arith))
enough (suc g) zero b end p c i j = rw (le-ltb (p + 1) end (omega arith))
enough (suc g) (suc h) b end p c i j =
    ap (λ (w : Stop). cond (ltb (p + 1) end) (cond (leb (next b p) end) w (stop p c)) (stop p c)) (enough g h b end (next b p) (c + 1) (omega arith) (omega arith))

module _ (b : ℕ → ℕ) (end p c : ℕ) where
  step : kept_by end b end p c ≡ cond (ltb (p + 1) end) (cond (leb (next b p) end) (kept_by end b end (next b p) (c + 1)) (stop p c)) (stop p c)
  unfolding kept_by
  step = enough end (suc end) b end p c (omega arith) (omega arith)

-- records followed
module _ (f : List ℕ) (end start p c : ℕ) (e : kept_by end (byte_of f) end start 0 ≡ kept_by end (byte_of f) end p c) where
  kept-is : kept_by end (byte_of f) end p c ≡ stop p c → record { start = start; stop = p; count = c } ≡ kept_from f end start
  unfolding kept_from
  kept-is g = sym (ap (λ (k : Stop). record { start = start; stop = k.place; count = k.count }) (e ∙ g))

  pub keep-stop : end ≤ p + 1 → record { start = start; stop = p; count = c } ≡ kept_from f end start
  keep-stop h = kept-is (step (byte_of f) end p c ∙ rw (le-ltb (p + 1) end h))

  module _ {n : ℕ} (h : p + 1 < end) (g : n ≡ length_at (byte_of f) p) where
    pub keep-cut : end < p + 6 + n → record { start = start; stop = p; count = c } ≡ kept_from f end start
    keep-cut l = kept-is (step (byte_of f) end p c ∙ rw (lt-ltb (p + 1) end h, lt-leb (next (byte_of f) p) end (omega arith)))

    pub keep-on : p + 6 + n ≤ end → kept_by end (byte_of f) end start 0 ≡ kept_by end (byte_of f) end (p + 6 + n) (c + 1)
    keep-on l =
        e ∙ step (byte_of f) end p c ∙ rw (lt-ltb (p + 1) end h, le-leb (next (byte_of f) p) end (omega arith))
        (ap (λ (x : ℕ). kept_by end (byte_of f) end (p + 6 + x) (c + 1)) (sym g))

-- where they lie
pub record Lies (end p c : ℕ) (k : Stop) : Type 0 where
  pub on : p ≤ k.place
  pub most : k.place ≤ end + (p - end)
  pub fewer : k.count + p ≤ k.place + c

lies : (g : ℕ) (b : ℕ → ℕ) (end p c : ℕ) → Lies end p c (kept_by g b end p c)
unfolding kept_by
lies zero b end p c = record { on = omega arith; most = omega arith; fewer = omega arith }
lies (suc g) b end p c = by (ltb (p + 1) end) (leb (next b p) end) refl (lies g b end (next b p) (c + 1))
  where
    by : (t u : Bool) → leb (next b p) end ≡ u → Lies end (next b p) (c + 1) (kept_by g b end (next b p) (c + 1))
        → Lies end p c (cond t (cond u (kept_by g b end (next b p) (c + 1)) (stop p c)) (stop p c))
    by false u e h = record { on = omega arith; most = omega arith; fewer = omega arith }
    by true false e h = record { on = omega arith; most = omega arith; fewer = omega arith }
    by true true e h =
        let l = leb-true (next b p) end e in
        record { on = omega (arith, h.on); most = omega (arith, h.most); fewer = omega (arith, h.fewer) }

-- the end of a stretch
module _ (f : List ℕ) (first last : ℕ) where
  pub ending-some : {u : ℕ} → first < last → u ≡ used_at f (last - 1) → 498 * (last - 1) + u ≡ ending f first last
  unfolding ending
  ending-some h e = rw (lt-ltb first last h) (ap (λ (x : ℕ). 498 * (last - 1) + x) e)

  pub ending-none : last ≤ first → 498 * last ≡ ending f first last
  unfolding ending
  ending-none h = rw (le-ltb first last h)

  module _ {end : ℕ} (e : end ≡ ending f first last) (h : first ≤ last) (g : Goods f first last) where
    ending-upto : end ≤ 498 * last
    ending-upto = let z = ending-most f first last h (λ l. g.most (last - 1) (omega arith) (omega arith)) in omega arith

    ending-least : 498 * first ≤ end
    unfolding ending
    ending-least =
        ⊎_elim (λ (l : first < last). let a : ending f first last ≡ end_at f (last - 1) = rw (lt-ltb first last l) in omega arith)
        (λ (l : last ≤ first). let a = ending-none l in omega arith) (less first last)

-- what is kept of it, and where
module _ (f : List ℕ) (first last : ℕ) {known : Option Trail} {end : ℕ} (h : first ≤ last) (g : Goods f first last) (e : end ≡ ending f first last) where
  pub keeps-none : known ≡ None → Keeps f first last (known_of known) (record { start = end; stop = end; count = 0 })
  unfolding stretch
  keeps-none k =
      let a = ending-upto f first last e h g in
      let b = ending-least f first last e h g in
      record {
        kept = rw k (ap (λ (x : ℕ). record { start = x; stop = x; count = 0 }) e);
        after = omega arith;
        on = omega arith;
        most = omega arith;
        fewer = omega arith;
      }

  pub keeps-some : {trail : Trail} {r : Kept} → known ≡ Some trail → Ready f first last (known_of known) → r ≡ kept_from f end trail.start → Keeps f first last (known_of known) r
  unfolding stretch kept_from
  keeps-some {trail} {r} k t q =
      let start = trail.start in
      let a = ending-upto f first last e h g in
      let s = t.after start trail.reached.place trail.reached.count (ap known_of k) in
      let u = t.before start trail.reached.place trail.reached.count (ap known_of k) in
      let l = lies end (byte_of f) end start 0 in
      let z = kept_by end (byte_of f) end start 0 in
      let v : r.start ≡ start = ap (λ (x : Kept). x.start) q in
      let w : r.stop ≡ z.place = ap (λ (x : Kept). x.stop) q in
      let y : r.count ≡ z.count = ap (λ (x : Kept). x.count) q in
      record {
        kept = q ∙ rw k (ap (λ (x : ℕ). let j = kept_by x (byte_of f) x start 0 in record { start = start; stop = j.place; count = j.count }) e);
        after = omega arith;
        on = omega (arith, l.on);
        most = omega (arith, l.most);
        fewer = omega (arith, l.fewer, l.on);
      }

pub ending-within : (f : List ℕ) (first last : ℕ) {end : ℕ} → end ≡ ending f first last → first ≤ last → Goods f first last → last ≤ blocks f → end ≤ 498 * blocks f
ending-within f first last e h g l = let z = ending-upto f first last e h g in omega arith

pub ready-within : (f : List ℕ) (first last : ℕ) {known : Option Trail} {t : Trail} → Ready f first last (known_of known) → known ≡ Some t → last ≤ blocks f → t.start ≤ 498 * blocks f
ready-within f first last {known} {t} r e l = let z = r.before t.start t.reached.place t.reached.count (ap known_of e) in omega arith
