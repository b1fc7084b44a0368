-- The records that are kept of a stretch: whole ones, one after another, up to the last that ends within it.
use Rattle.std.proofs.Common.{◌≡◌, ℕ, zero, suc, ◌+◌, ◌-◌, ◌<◌, ◌≤◌, cond, ltb, leb, List, [], ◌∷◌, ◌++◌, length, refl, ap, ◌∙◌, ⊎_elim, arith, le-ltb, lt-ltb, le-leb}
use borrow.Author.Tests.{lt-leb}
use Rattle.shelf.specs.Answers.{To}
use Rattle.shelf.specs.Stream.{byte_at, length_at, next, walk}
use Rattle.shelf.specs.Block.{bytes_from}
use Rattle.shelf.specs.Salvage.{Stop, kept_by}
use Rattle.shelf.specs.Saved.{records_by, records_in, joined}
use Rattle.shelf.proofs.Sides.{less}
use Rattle.shelf.proofs.Walks.{Walks, walk-on}
use Rattle.shelf.proofs.Bytes.{bytes-alike, bytes-more}

pub data Keeps (b : ℕ → ℕ) (end : ℕ) : (p q : ℕ) → List (List ℕ) → Type 0 where
  stops : {p : ℕ} → (p + 1 < end → end < next b p) → Keeps b end p p []
  goes : {p q : ℕ} {rs : List (List ℕ)} → p + 1 < end → next b p ≤ end → length_at b p ≤ 8192 → Keeps b end (next b p) q rs → Keeps b end p q (bytes_from b p (6 + length_at b p) ∷ rs)

pub record Kept-from (b : ℕ → ℕ) (end p : ℕ) : Type 0 where
  pub stop : ℕ
  pub records : List (List ℕ)
  pub keeps : Keeps b end p stop records

-- a walk that meets no length too great keeps the records that end by its end
pub keeps-so : {b : ℕ → ℕ} {end p c q d : ℕ} → Walks b end p c (To q d) → Kept-from b end p
keeps-so {b} {end} {p} (Walks.stops h) = record { stop = p; records = []; keeps = Keeps.stops (λ (g : p + 1 < end). absurd (omega arith)) }
keeps-so {b} {end} {p} (Walks.goes h l r) =
    ⊎_elim (λ (g : end < next b p). record { stop = p; records = []; keeps = Keeps.stops (λ i. g) })
    (λ (g : next b p ≤ end).
    let k = keeps-so r in record { stop = k.stop; records = bytes_from b p (6 + length_at b p) ∷ k.records; keeps = Keeps.goes h g l k.keeps })
    (less end (next b p))

abbrev pub stop_at : (place count : ℕ) → Stop
stop_at place count = record { place = place; count = count }

pub keeps_on : {b : ℕ → ℕ} {end p q : ℕ} {rs : List (List ℕ)} → Keeps b end p q rs → p ≤ q
keeps_on (Keeps.stops h) = omega arith
keeps_on (Keeps.goes h n l r) = let k = keeps_on r in omega arith

pub keeps-within : {b : ℕ → ℕ} {end p q : ℕ} {rs : List (List ℕ)} → Keeps b end p q rs → p ≤ end → q ≤ end
keeps-within (Keeps.stops h) e = e
keeps-within (Keeps.goes h n l r) e = keeps-within r n

-- they are the bytes between
pub keeps-bytes : {b : ℕ → ℕ} {end p q : ℕ} {rs : List (List ℕ)} → Keeps b end p q rs → bytes_from b p (q - p) ≡ joined rs
unfolding bytes_from joined
keeps-bytes {b} {end} {p} (Keeps.stops h) = let z : p - p ≡ 0 = omega arith in rw z
keeps-bytes {b} {end} {p} (Keeps.goes {q = q} h n l r) =
    let o = keeps_on r in
    let x : q - p ≡ 6 + length_at b p + (q - next b p) = omega arith in
    let y : p + (6 + length_at b p) ≡ next b p = omega arith in
    ap (bytes_from b p) x ∙ bytes-more b p (6 + length_at b p) (q - next b p) ∙ ap (λ (t : ℕ). bytes_from b p (6 + length_at b p) ++ bytes_from b t (q - next b p)) y
    ∙ ap (λ (t : List ℕ). bytes_from b p (6 + length_at b p) ++ t) (keeps-bytes r)

-- a test that does not go on
stay : (A : Type 0) (p n end : ℕ) (x s : A) → (p < end → end < n) → cond (ltb p end) (cond (leb n end) x s) s ≡ s
stay A p n end x s h =
    ⊎_elim (λ (g : p < end). simp (lt-ltb p end g, lt-leb n end (h g))) (λ (g : end ≤ p). simp (le-ltb p end g)) (less p end)

-- `kept_by` and `records_by` are that
pub kept-is : {b : ℕ → ℕ} {end p q : ℕ} {rs : List (List ℕ)} → Keeps b end p q rs → (g c : ℕ) → end ≤ p + g + 1 → kept_by g b end p c ≡ stop_at q (c + length rs)
unfolding kept_by
kept-is (Keeps.stops h) zero c e = let z : c + 0 ≡ c = omega arith in rw z
kept-is {b} {end} {p} (Keeps.stops h) (suc g) c e =
    let z : c + 0 ≡ c = omega arith in
    rw z (stay Stop (p + 1) (next b p) end (kept_by g b end (next b p) (c + 1)) (stop_at p c) h)
kept-is (Keeps.goes h n l r) zero c e = absurd (omega arith)
kept-is {b} {end} {p} (Keeps.goes {q = q} {rs = rs} h n l r) (suc g) c e =
    let z : c + 1 + length rs ≡ c + suc (length rs) = omega arith in
    simp (lt-ltb (p + 1) end h, le-leb (next b p) end n) (kept-is r g (c + 1) (omega arith) ∙ ap (stop_at q) z)

pub records-are : {b : ℕ → ℕ} {end p q : ℕ} {rs : List (List ℕ)} → Keeps b end p q rs → (g : ℕ) → end ≤ p + g + 1 → records_by g b end p ≡ rs
unfolding records_by
records-are (Keeps.stops h) zero e = refl
records-are {b} {end} {p} (Keeps.stops h) (suc g) e =
    stay (List (List ℕ)) (p + 1) (next b p) end (bytes_from b p (6 + length_at b p) ∷ records_by g b end (next b p)) [] h
records-are (Keeps.goes h n l r) zero e = absurd (omega arith)
records-are {b} {end} {p} (Keeps.goes h n l r) (suc g) e =
    simp (lt-ltb (p + 1) end h, le-leb (next b p) end n) (ap (λ (x : List (List ℕ)). bytes_from b p (6 + length_at b p) ∷ x) (records-are r g (omega arith)))

-- more steps than enough
enough : (g h : ℕ) (b : ℕ → ℕ) (end p : ℕ) → end ≤ p + g + 1 → end ≤ p + h + 1 → records_by g b end p ≡ records_by h b end p
unfolding records_by
enough zero zero b end p i j = refl
enough zero (suc h) b end p i j = simp (le-ltb (p + 1) end (omega arith))
enough (suc g) zero b end p i j = simp (le-ltb (p + 1) end (omega arith))
enough (suc g) (suc h) b end p i j =
    ap (λ (w : List (List ℕ)). cond (ltb (p + 1) end) (cond (leb (next b p) end) (bytes_from b p (6 + length_at b p) ∷ w) []) [])
    (enough g h b end (next b p) (omega arith) (omega arith))

pub records-on : (b : ℕ → ℕ) (end p : ℕ) → p + 1 < end → next b p ≤ end → records_by end b end p ≡ bytes_from b p (6 + length_at b p) ∷ records_by end b end (next b p)
unfolding records_by
records-on b end p h n = enough end (suc end) b end p (omega arith) (omega arith) ∙ simp (lt-ltb (p + 1) end h, le-leb (next b p) end n)

pub records-stop : (b : ℕ → ℕ) (end p : ℕ) → end ≤ p + 1 → records_by end b end p ≡ []
unfolding records_by
records-stop b end p h = enough end (suc end) b end p (omega arith) (omega arith) ∙ simp (le-ltb (p + 1) end h)

-- THE SAME RECORDS ELSEWHERE: in a stream that has these bytes from `at` on
pub record Over-them (s : List ℕ) (at far k : ℕ) (rs : List (List ℕ)) : Type 0 where
  pub records : records_in s at ≡ rs ++ records_in s far
  pub walks : (c : ℕ) → walk (byte_at s) (length s) at c ≡ walk (byte_at s) (length s) far (c + k)

pub over-them : {b : ℕ → ℕ} {end p q : ℕ} {rs : List (List ℕ)} → Keeps b end p q rs → (s : List ℕ) (at : ℕ) → at + (q - p) ≤ length s
    → ((j : ℕ) → j < q - p → byte_at s (at + j) ≡ b (p + j)) → Over-them s at (at + (q - p)) (length rs) rs
over-them {b} {end} {p} (Keeps.stops h) s at e same =
    let z : at + (p - p) ≡ at = omega arith in
    rw z record { records = refl; walks = λ c. let y : c + 0 ≡ c = omega arith in rw y }
over-them {b} {end} {p} (Keeps.goes {q = q} {rs = rs} h n l r) s at e same =
    let o = keeps_on r in
    let x : at + 0 ≡ at = omega arith in
    let y : p + 0 ≡ p = omega arith in
    let a₀ : byte_at s at ≡ b p = rw (x, y) at (same 0 (omega arith)) in
    let a₁ : byte_at s (at + 1) ≡ b (p + 1) = same 1 (omega arith) in
    let m : length_at (byte_at s) at ≡ length_at b p = rw (a₀, a₁) in
    let k : next (byte_at s) at ≡ at + (6 + length_at b p) = omega arith in
    let w : at + (6 + length_at b p) + (q - next b p) ≡ at + (q - p) = omega arith in
    let i = over-them r s (at + (6 + length_at b p)) (omega arith)
    (λ j g.
    let u : at + (6 + length_at b p) + j ≡ at + (6 + length_at b p + j) = omega arith in
    let v : p + (6 + length_at b p + j) ≡ next b p + j = omega arith in
    ap (byte_at s) u ∙ same (6 + length_at b p + j) (omega arith) ∙ ap b v) in
    let held : bytes_from (byte_at s) at (6 + length_at (byte_at s) at) ≡ bytes_from b p (6 + length_at b p) =
    ap (λ (t : ℕ). bytes_from (byte_at s) at (6 + t)) m ∙ bytes-alike (byte_at s) b at p (6 + length_at b p) (λ j g. same j (omega arith)) in
    record {
      records =
          records-on (byte_at s) (length s) at (omega arith) (omega arith)
          ∙ ap (λ (t : List ℕ). t ∷ records_in s (next (byte_at s) at)) held
          ∙ ap (λ (t : ℕ). bytes_from b p (6 + length_at b p) ∷ records_in s t) k
          ∙ ap (λ (t : List (List ℕ)). bytes_from b p (6 + length_at b p) ∷ t) (i.records ∙ ap (λ (t : ℕ). rs ++ records_in s t) w);
      walks = λ c.
          let z : c + 1 + length rs ≡ c + suc (length rs) = omega arith in
          walk-on (byte_at s) (length s) at c (omega arith) (omega arith)
          ∙ ap (λ (t : ℕ). walk (byte_at s) (length s) t (c + 1)) k
          ∙ i.walks (c + 1)
          ∙ ap (λ (t : ℕ). walk (byte_at s) (length s) t (c + 1 + length rs)) w
          ∙ ap (walk (byte_at s) (length s) (at + (q - p))) z;
    }

-- or with every place less by as much
moved : {b : ℕ → ℕ} {end p q : ℕ} {rs : List (List ℕ)} → Keeps b end p q rs → (b' : ℕ → ℕ) (base end' : ℕ) → base ≤ p → base + end' ≡ end → ((j : ℕ) → j < end' → b' j ≡ b (base + j))
    → Keeps b' end' (p - base) (q - base) rs
moved {b} {end} {p} (Keeps.stops h) b' base end' l e same =
    Keeps.stops (λ g.
    let m = long b b' base end' p l g same in
    let n = h (omega arith) in
    omega arith)
  where
    long : (b b' : ℕ → ℕ) (base end' p : ℕ) → base ≤ p → p - base + 1 < end' → ((j : ℕ) → j < end' → b' j ≡ b (base + j)) → length_at b' (p - base) ≡ length_at b p
    long b b' base end' p l g same =
        let x : base + (p - base) ≡ p = omega arith in
        let y : base + (p - base + 1) ≡ p + 1 = omega arith in
        rw (same (p - base) (omega arith), same (p - base + 1) g, x, y)
moved {b} {end} {p} (Keeps.goes {q = q} {rs = rs} h n l r) b' base end' o e same =
    let x : base + (p - base) ≡ p = omega arith in
    let y : base + (p - base + 1) ≡ p + 1 = omega arith in
    let m : length_at b' (p - base) ≡ length_at b p = rw (same (p - base) (omega arith), same (p - base + 1) (omega arith), x, y) in
    let k : next b' (p - base) ≡ next b p - base = omega arith in
    let held : bytes_from b' (p - base) (6 + length_at b' (p - base)) ≡ bytes_from b p (6 + length_at b p) =
    ap (λ (t : ℕ). bytes_from b' (p - base) (6 + t)) m
    ∙ bytes-alike b' b (p - base) p (6 + length_at b p) (λ j g. same (p - base + j) (omega arith) ∙ ap b (let z : base + (p - base + j) ≡ p + j = omega arith in z)) in
    let i = moved r b' base end' (omega arith) e same in
    rw (← held) (Keeps.goes {p = p - base} {q = q - base} {rs = rs} (omega arith) (omega arith) (omega arith) (rw k i))

pub moved-records : {b : ℕ → ℕ} {end p q : ℕ} {rs : List (List ℕ)} → Keeps b end p q rs → (d : List ℕ) (base : ℕ) → base ≤ p → base + length d ≡ end → ((j : ℕ) → j < length d → byte_at d j ≡ b (base + j))
    → records_in d (p - base) ≡ rs
moved-records {b} {end} {p} k d base l e same = records-are (moved k (byte_at d) base (length d) l e same) (length d) (omega arith)
