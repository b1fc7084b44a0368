-- Rows of the table as the code lists them are rows as the plan has them.
use Prim.Native.Nat.{ℕ, zero, suc, ◌+◌, ◌-◌, ◌<◌, ◌≤◌}
use mathlib.Core.Path.{◌≡◌, refl, sym, ap, ◌∙◌}
use mathlib.Core.Logic.{inl, inr}
use mathlib.Core.List.{List}
use mathlib.Core.Bool.{Bool, cond}
use native.Mathlib.Omega.{arith}
use borrow.Author.Tests.{ne_eqb, le-ltb}
use Rattle.numbers.specs.Limit.{most_particles}
use Rattle.wire.specs.Bits.{bit_at}
use Rattle.table.specs.Words.{types_in, particles_in}
use Rattle.table.specs.Rows as table
use Rattle.table.specs.Rows.{table_of, held_of}
use Rattle.table.specs.Rows.Row.{element, sequence, choice, occurs}
use Rattle.table.specs.Keeps.{RowOk}
use Rattle.table.proofs.Laws.{counts-ok, row_ok}
use Rattle.model.specs.Model.{Answer}
use Rattle.model.specs.Items as items
use Rattle.model.specs.Items.{head_at}
use Rattle.model.specs.Modes.{types_by, no_row}
use Rattle.model.specs.declared.Mode.{Mode}
use Rattle.model.proofs.ModeLaws.{types-by}
use Rattle.model.specs.Read.{Room, after, code, opened}
use Rattle.model.proofs.Join.{after-done}
use Rattle.model.proofs.Steps as steps-laws
use Rattle.reader_parts.proofs.OpeningWays.{choices-row}
use Rattle.reader.specs.Entering.{rows_of}
use Rattle.reader.specs.Meaning.{ReadyFor, Fits, Lies, KnownRows, schema, lengths, row_for, particle·, row·, rounds·, runs·, list·, below·, element·, inside·, choose·, occur·}

module _ (t s : List ℕ) (mode : Mode) (wall n e : ℕ) (h : ReadyFor t s mode wall n e) where
  abbrev B : ℕ → ℕ
  B = bit_at s

  abbrev M : items.Lengths
  M = lengths t s mode

  abbrev H : ℕ → Bool
  H = held_of t mode.party

  abbrev D : table.Table
  D = schema t s mode

  few : particles_in t ≤ most_particles
  few = (counts-ok t h.valid).particles_few

  -- a row of the table is not the root's
  pub row-for : (name ty i : ℕ) → i < particles_in t → row_for t name ty i ≡ (table_of t).row i
  unfolding row_for
  row-for name ty i k =
      let a : i ≡ no_row → ⊥ = λ z. let f = few in absurd (omega arith) in
      ap (λ (b : Bool). cond b (element name ty no_row) ((table_of t).row i)) (ne_eqb i no_row a)

  row_fits : (i : ℕ) → i < particles_in t → Fits (types_in t) (particles_in t) ((table_of t).row i)
  row_fits i g = go ((table_of t).row i) (row_ok t h.valid i g)
    where
      go : (x : table.Row) → RowOk (types_in t) (particles_in t) i x → Fits (types_in t) (particles_in t) x
      go (element name type row) k = (k.name-small, k.type_known, λ e. k.row_known)
      go (sequence first m) k = k.within
      go (choice first m) k = k.within
      go (occurs child least most) k = k.within

  -- and is read as the plan has it
  row_is : (d i : ℕ) → i < particles_in t → (r : Room) (π : List ℕ) (at : ℕ) → row· t s mode d ((table_of t).row i) r π wall at ≡ particle· t s mode d ((table_of t).row i) r π wall at
  unfolding row· particle· element· inside· rounds· choose· occur·
  row_is d i g r π at = go d ((table_of t).row i) (row_ok t h.valid i g)
    where
      go : (d : ℕ) (row : table.Row) → RowOk (types_in t) (particles_in t) i row → row· t s mode d row r π wall at ≡ particle· t s mode d row r π wall at
      go zero row k = sym (steps-laws.particle-deep B M H D r π wall at row)
      go (suc d) (element name ty own) k =
          let f : own ≡ no_row → ⊥ = λ z. let a = k.row_known in let b = few in absurd (omega arith) in
          (λ j. code (head_at M B wall at) π at (opened B M H (inside· t s mode d) name (types_by t (sym (choices-row mode.choices own f) j) ty own) r π wall at))
          ∙ (λ j. code (head_at M B wall at) π at (opened B M H (inside· t s mode d) name (types-by t mode.choices h.valid h.choosing ty own k.row_known j) r π wall at))
          ∙ sym (steps-laws.particle-element B M H D r π wall at d name ty own)
      go (suc d) (sequence first m) k = sym (steps-laws.particle-sequence B M H D r π wall at d first m)
      go (suc d) (choice first m) k = sym (steps-laws.particle-choice B M H D r π wall at d first m)
      go (suc d) (occurs child least most) k = sym (steps-laws.particle-occurs B M H D r π wall at d child least most)

  listed-is : (d i : ℕ) → i < particles_in t → (r : Room) (π : List ℕ) (at : ℕ) → row· t s mode d (row_for t 0 0 i) r π wall at ≡ particle· t s mode d ((table_of t).row i) r π wall at
  listed-is d i g r π at = ap (λ (x : table.Row). row· t s mode d x r π wall at) (row-for 0 0 i g) ∙ row_is d i g r π at

  -- one row
  one-row : (d i : ℕ) → i < particles_in t → (r : Room) (π : List ℕ) (at : ℕ) → list· t s mode 0 0 d i 0 1 r π wall at ≡ particle· t s mode d ((table_of t).row i) r π wall at
  unfolding list·
  one-row d i g r π at = after-done r _ ∙ listed-is d i g r π at

  -- all one row
  list_same : (d i : ℕ) → i < particles_in t → (m : ℕ) (r : Room) (π : List ℕ) (at : ℕ) → list· t s mode 0 0 d i 0 m r π wall at ≡ runs· t s mode d i 0 m r π wall at
  unfolding list· runs· rounds· particle·
  list_same d i g zero r π at = sym (steps-laws.rounds-none B M H D r π wall at d (λ j. (table_of t).row i))
  list_same d i g (suc m) r π at =
      let z : i + 0 ≡ i = omega arith in
      (λ j. after r (listed-is d i g r π at j) (λ u p. list· t s mode 0 0 d (z j) 0 m u π wall p))
      ∙ (λ j. after r (particle· t s mode d ((table_of t).row i) r π wall at) (λ u p. list_same d i g m u π p j))
      ∙ repeats
    where
      repeats : after r (particle· t s mode d ((table_of t).row i) r π wall at) (λ u p. rounds· t s mode d (λ j. (table_of t).row i) m u π wall p) ≡ rounds· t s mode d (λ j. (table_of t).row i) (suc m) r π wall at
      repeats = sym (steps-laws.repeats-more B M H D r π wall at d m i)

  -- one after another
  list-next : (d i m : ℕ) → i + m ≤ particles_in t → (r : Room) (π : List ℕ) (at : ℕ) → list· t s mode 0 0 d i 1 m r π wall at ≡ runs· t s mode d i 1 m r π wall at
  unfolding list· runs· rounds· particle·
  list-next d i zero g r π at = sym (steps-laws.rounds-none B M H D r π wall at d (λ j. (table_of t).row (i + j)))
  list-next d i (suc m) g r π at =
      (λ j. after r (listed-is d i (omega arith) r π at j) (λ u p. list· t s mode 0 0 d (i + 1) 1 m u π wall p))
      ∙ (λ j. after r (particle· t s mode d ((table_of t).row i) r π wall at) (λ u p. list-next d (i + 1) m (omega arith) u π p j))
      ∙ children
    where
      children : after r (particle· t s mode d ((table_of t).row i) r π wall at) (λ u p. rounds· t s mode d (λ j. (table_of t).row (i + 1 + j)) m u π wall p) ≡ rounds· t s mode d (λ j. (table_of t).row (i + j)) (suc m) r π wall at
      children = sym (steps-laws.children-more B M H D r π wall at d m i)

  -- the one or the other
  pub list-lies : (d i jump m : ℕ) → Lies (particles_in t) i jump m → (r : Room) (π : List ℕ) (at : ℕ) → list· t s mode 0 0 d i jump m r π wall at ≡ runs· t s mode d i jump m r π wall at
  list-lies d i jump m (inl f) r π at = rw f.0 (list-next d i m f.1 r π at)
  list-lies d i jump m (inr f) r π at = rw f.0 (list_same d i f.1 m r π at)

  -- a content row, as what is left of an element has it
  module _ (i : ℕ) (g : i < particles_in t) where
    abbrev LiesIn : ℕ × ℕ × ℕ × ℕ → Type 0
    LiesIn x = Lies (particles_in t) x.0 x.1 x.2

    pub content-lies : (p : table.Row) → p ≡ (table_of t).row i → LiesIn (rows_of i p)
    content-lies p e = go p (rw (← e) at (row_ok t h.valid i g))
      where
        go : (p : table.Row) → RowOk (types_in t) (particles_in t) i p → LiesIn (rows_of i p)
        go (element name type row) k = inr (refl, g)
        go (sequence first m) k = inl (refl, k.within)
        go (choice first m) k = inr (refl, g)
        go (occurs child least most) k = inr (refl, g)

    module _ (d : ℕ) (r : Room) (π : List ℕ) (at : ℕ) where
      abbrev Below : ℕ × ℕ × ℕ × ℕ → Answer
      Below x = below· t s mode d x.3 x.0 x.1 x.2 r π wall at

      one_below : Below (i, 0, 1, 0) ≡ particle· t s mode d ((table_of t).row i) r π wall at
      unfolding below·
      one_below =
          let z : d - 0 ≡ d = omega arith in
          rw (le-ltb d 0 (omega arith), z) (one-row d i g r π at)

      -- a sequence is open, where a row may be opened
      sequence-below : (first m : ℕ) → sequence first m ≡ (table_of t).row i → first + m ≤ particles_in t → Below (first, 1, m, 1) ≡ particle· t s mode d ((table_of t).row i) r π wall at
      unfolding below· particle· runs· rounds·
      sequence-below first m e k = go d refl
        where
          go : (a : ℕ) → d ≡ a → Below (first, 1, m, 1) ≡ particle· t s mode d ((table_of t).row i) r π wall at
          go zero f = rw f (sym (steps-laws.particle-deep B M H D r π wall at ((table_of t).row i)))
          go (suc a) f =
              let z : suc a - 1 ≡ a = omega arith in
              rw (f, le-ltb (suc a) 1 (omega arith), z, ← e) (list-next a first m k r π at ∙ sym (steps-laws.particle-sequence B M H D r π wall at a first m))

      pub content-below : (p : table.Row) → p ≡ (table_of t).row i → Below (rows_of i p) ≡ particle· t s mode d ((table_of t).row i) r π wall at
      content-below p e = go p e (rw (← e) at (row_ok t h.valid i g))
        where
          go : (p : table.Row) → p ≡ (table_of t).row i → RowOk (types_in t) (particles_in t) i p → Below (rows_of i p) ≡ particle· t s mode d ((table_of t).row i) r π wall at
          go (element name type row) f k = one_below
          go (sequence first m) f k = sequence-below first m f k.within
          go (choice first m) f k = one_below
          go (occurs child least most) f k = one_below

  -- they are known
  known-row : (i : ℕ) → i < particles_in t → Fits (types_in t) (particles_in t) (row_for t 0 0 i)
  known-row i g = rw (row-for 0 0 i g) (row_fits i g)

  known_same : (i : ℕ) → i < particles_in t → (m : ℕ) → KnownRows t 0 0 i 0 m
  unfolding KnownRows
  known_same i g zero = tt
  known_same i g (suc m) = (known-row i g, λ e. g, (let f = few in omega arith), known_same (i + 0) (omega arith) m)

  known_next : (i m : ℕ) → i + m ≤ particles_in t → KnownRows t 0 0 i 1 m
  unfolding KnownRows
  known_next i zero g = tt
  known_next i (suc m) g = (known-row i (omega arith), λ e. omega arith, (let f = few in omega arith), known_next (i + 1) m (omega arith))

  pub known-lies : (i jump m : ℕ) → Lies (particles_in t) i jump m → KnownRows t 0 0 i jump m
  known-lies i jump m (inl f) = rw f.0 (known_next i m f.1)
  known-lies i jump m (inr f) = rw f.0 (known_same i f.1 m)

-- one row of those that a row holds
pub run-one : (t s : List ℕ) (mode : Mode) (wall d i : ℕ) (r : Room) (π : List ℕ) (at : ℕ) → runs· t s mode d i 0 1 r π wall at ≡ particle· t s mode d ((table_of t).row i) r π wall at
unfolding runs· rounds· particle·
run-one t s mode wall d i r π at =
    let X : table.Table = schema t s mode in
    let Y : items.Lengths = lengths t s mode in
    let Z : ℕ → Bool = held_of t mode.party in
    steps-laws.rounds-more (bit_at s) Y Z X r π wall at d 0 (λ j. (table_of t).row i)
    ∙ (λ j. after r (particle· t s mode d ((table_of t).row i) r π wall at) (λ u p. steps-laws.rounds-none (bit_at s) Y Z X u π wall p d (λ k. (table_of t).row i) j))
    ∙ after-done r _
