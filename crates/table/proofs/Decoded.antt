-- A row decoded from the words that the code has read.
use Prim.Native.Nat.{ℕ, suc, ◌+◌, ◌-◌}
use mathlib.Core.Path.{◌≡◌, sym, ◌∙◌}
use mathlib.Core.List.{List}
use native.Mathlib.Omega.{arith}
use lib.Dec.{eqb}
use Rattle.numbers.specs.Content as content
use Rattle.numbers.specs.Particle as particle
use Rattle.table.specs.Words.{type_at, attribute_at, particle_at, word_at, types_in}
use Rattle.table.specs.Runs.{RunAt}
use Rattle.table.proofs.OneRow.{read}
use Rattle.table.specs.Rows.{Row, content_from, row_from, content_of, row_at, attribute_of}
use Rattle.table.specs.Rows.Row.{element, sequence, choice, occurs}
use Rattle.table.specs.Rows.Content.{empty, simple, particles}

-- a content, from the words of the type row t, which begins at i; each as the tests tell it
module _ (l : List ℕ) (t i kind x y z : ℕ) (at : i ≡ type_at t) (e : kind ≡ word_at l (i + 1)) where
  pub read-empty : kind ≡ content.empty → empty ≡ content_of l t
  unfolding content_of content_from
  read-empty f = sym (rw (← at, ← e, f))

  module _ (p : x ≡ word_at l (i + 4)) where
    pub read-simple : y ≡ word_at l (i + 5) → z ≡ word_at l (i + 6) → kind ≡ content.simple → simple x y z ≡ content_of l t
    unfolding content_of content_from
    read-simple q r f = sym (rw (← at, ← e, f, ← p, ← q, ← r))

    pub read-particles : (kind ≡ content.empty → ⊥) → (kind ≡ content.simple → ⊥) → particles x ≡ content_of l t
    unfolding content_of content_from
    read-particles n m = sym (let f : kind ≡ suc (suc (kind - 2)) = omega arith in rw (← at, ← e, ← p, f))

pub ruleset read-ways = (read-empty, read-simple, read-particles)

-- the particle row n, from its words
module _ (n kind x y z : ℕ) where
  pub row-element : kind ≡ particle.element → element x y n ≡ row_from n kind x y z
  unfolding row_from
  row-element f = rw f

  pub row-sequence : kind ≡ particle.sequence → sequence x y ≡ row_from n kind x y z
  unfolding row_from
  row-sequence f = rw f

  pub row-choice : kind ≡ particle.choice → choice x y ≡ row_from n kind x y z
  unfolding row_from
  row-choice f = rw f

  pub row-occurs : (kind ≡ particle.element → ⊥) → (kind ≡ particle.sequence → ⊥) → (kind ≡ particle.choice → ⊥) → occurs x y z ≡ row_from n kind x y z
  unfolding row_from
  row-occurs n₀ n₁ n₂ = let f : kind ≡ suc (suc (suc (kind - 3))) = omega arith in rw f

pub ruleset row-ways = (row-element, row-sequence, row-choice, row-occurs)

-- and where they stand, from i on
pub row_read : (l : List ℕ) (T A n i : ℕ) (w : List ℕ) (r : Row) → i ≡ particle_at T A n → RunAt l i 4 w
    → r ≡ row_from n (word_at w 0) (word_at w 1) (word_at w 2) (word_at w 3) → r ≡ row_at l T A n
unfolding row_at
row_read l T A n i w r at words h =
    h ∙ rw (
      read words 0 (particle_at T A n) (omega arith) (omega arith),
      read words 1 (particle_at T A n + 1) (omega arith) (omega arith),
      read words 2 (particle_at T A n + 2) (omega arith) (omega arith),
      read words 3 (particle_at T A n + 3) (omega arith) (omega arith),
    )

-- an attribute, behind T type rows, whose row begins at j; the simple kind and the parameters stand four words behind the place of its type's
pub read-attribute : (l : List ℕ) (i T j m k : ℕ) (w v : List ℕ) → T ≡ types_in l → j ≡ attribute_at T i → RunAt l j 3 w → m ≡ type_at (word_at w 2) → k ≡ m + 4 → RunAt l k 3 v
    → record { name = word_at w 0; must = eqb (word_at w 1) 1; simple = word_at v 0; b = word_at v 1; c = word_at v 2 } ≡ attribute_of l i
unfolding attribute_of
read-attribute l i T j m k w v e at words at' on words' =
    let e₀ = read words 0 j (omega arith) (omega arith) in
    let e₁ = read words 1 (j + 1) (omega arith) (omega arith) in
    let e₂ = read words 2 (j + 2) (omega arith) (omega arith) in
    let e₃ = read words' 0 (m + 4) (omega arith) (omega arith) in
    let e₄ = read words' 1 (m + 5) (omega arith) (omega arith) in
    let e₅ = read words' 2 (m + 6) (omega arith) (omega arith) in
    cc
