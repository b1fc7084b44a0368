-- Each way to what a row comes to.
use Prim.Native.Nat.{ℕ, suc, ◌+◌, ◌-◌, ◌<◌}
use mathlib.Core.Path.{◌≡◌, refl, sym, ap, ◌∙◌, subst}
use mathlib.Core.Logic.{inl, inr}
use mathlib.Core.List.{List}
use native.Mathlib.Omega.{arith}
use Rattle.std.specs.Prelude.{Ok, Err}
use Rattle.numbers.specs.declared.refusal.Refusal.TheVariants as refusal
use Rattle.numbers.specs.declared.refusal.Fault.{Fault}
use Rattle.numbers.specs.Kind as kinds
use Rattle.wire.specs.Bits.{bit_at}
use Rattle.wire.specs.declared.Bits.{Bits}
use Rattle.table.specs.First.Verdict.{right}
use Rattle.table.specs.Valid.{verdict}
use Rattle.table.specs.Words.{types_in, particles_in}
use Rattle.table.specs.Inside.{ParticleInside}
use Rattle.table.specs.Rows as table
use Rattle.table.specs.Rows.{table_of}
use Rattle.table.specs.Keeps.{RowOk, ElementOk}
use Rattle.table.specs.Views.{row_is}
use Rattle.table.specs.declared.answers.Particle as code·particle
use Rattle.table.specs.declared.answers.Particle.TheVariants.{Element}
use Rattle.table.proofs.Laws.{row_ok}
use Rattle.table.proofs.RowsInside.{particle-inside}
use Rattle.model.specs.Model.{event, Answer}
use Rattle.model.specs.Model.Item.{picked}
use Rattle.model.specs.Items.{item_at}
use Rattle.model.specs.Read.{Room, after, code, stored}
use Rattle.model.specs.declared.Mode.{Mode}
use Rattle.model.proofs.Join.{after-done}
use Rattle.reader_parts.specs.Out.{room_of, step_view, outcome}
use Rattle.reader_parts.specs.declared.Cursor.{Cursor}
use Rattle.reader_parts.proofs.Laws.{outcome-none}
use Rattle.reader.proofs.RowLaws.{row-for, list-lies, run-one}
use Rattle.reader.specs.Meaning.{ReadyFor, Fits, Holds, Lies, row·, runs·, list·, choose·, occur·}
use Rattle.reader.specs.Groups.{Group, Reading, group_at, group_view, Placed, Groups, aim_view, Narrows, Aims}
use Rattle.reader.specs.declared.groups.Aim.{Aim}
use Rattle.reader.specs.declared.groups.Aim.TheVariants as aim
use Rattle.reader.specs.declared.groups.Run.{Run}

-- rows, case by case
module _ (t : List ℕ) (d : ℕ) (x : Run) (valid : verdict t ≡ right) (lies : Lies (particles_in t) x.first x.step x.count) where
  pub narrow-none : x.count ≡ 0 → Narrows t d x (aim.Go x.cursor)
  unfolding aim_view list· step_view
  narrow-none e = record {
    says = λ s mode wall ready π E T.
        outcome-none x.cursor π E T
        ∙ sym (ap (λ (m : ℕ). outcome (list· t s mode 0 0 d x.first x.step m (room_of E T x.cursor) π wall x.cursor.at.0) x.cursor π E T) e);
    aimed = tt;
  }

  pub narrow-rows : Narrows t d x (aim.Rows x)
  narrow-rows = record { says = λ s mode wall ready π E T. refl; aimed = lies }

  module _ (e : x.count ≡ 1) where
    first-in : x.first < particles_in t
    first-in = elim lies [ inl f ↦ omega (arith, f.1, e) | inr f ↦ f.1 ]

    pub first-inside : ParticleInside t x.first
    first-inside = particle-inside t valid x.first first-in

    module _ (p : code·particle.Particle) (g : row_is p ≡ (table_of t).row x.first) (name ty own : ℕ) (f : p ≡ Element name ty own) where
      element-here : (table_of t).row x.first ≡ table.Row.element name ty own
      element-here = sym g ∙ ap (λ (q : code·particle.Particle). row_is q) f

      names : ElementOk (types_in t) (particles_in t) name ty own
      names = subst (λ (q : table.Row). RowOk (types_in t) (particles_in t) x.first q) element-here (row_ok t valid x.first first-in)

      single : (s : List ℕ) (mode : Mode) (wall : ℕ) → ReadyFor t s mode wall 0 0 → (r : Room) (π : List ℕ) (at : ℕ)
          → row· t s mode d (table.Row.element name ty own) r π wall at ≡ list· t s mode 0 0 d x.first x.step x.count r π wall at
      unfolding list·
      single s mode wall ready r π at =
          sym (ap (λ (m : ℕ). list· t s mode 0 0 d x.first x.step m r π wall at) e
          ∙ after-done r _
          ∙ ap (λ (q : table.Row). row· t s mode d q r π wall at) (row-for t s mode wall 0 0 ready 0 0 x.first first-in ∙ element-here))

      pub narrow-deep : d ≡ 0 → Narrows t d x (aim.Refuse record { why = refusal.Depth; at = x.cursor.at })
      unfolding aim_view row· outcome
      narrow-deep z = record {
        says = λ s mode wall ready π E T.
            ap (λ (m : ℕ). outcome (row· t s mode m (table.Row.element name ty own) (room_of E T x.cursor) π wall x.cursor.at.0) x.cursor π E T) (sym z)
            ∙ ap (λ (o : Answer). outcome o x.cursor π E T) (single s mode wall ready (room_of E T x.cursor) π x.cursor.at.0);
        aimed = tt;
      }

      pub narrow-element : (d ≡ 0 → ⊥) → Narrows t d x (aim.Element record { cursor = x.cursor; name = name; t = ty; own = own; depth = d - 1 })
      unfolding aim_view row·
      narrow-element z =
          let down : suc (d - 1) ≡ d = omega arith in
          record {
            says = λ s mode wall ready π E T.
                ap (λ (m : ℕ). outcome (row· t s mode m (table.Row.element name ty own) (room_of E T x.cursor) π wall x.cursor.at.0) x.cursor π E T) down
                ∙ ap (λ (o : Answer). outcome o x.cursor π E T) (single s mode wall ready (room_of E T x.cursor) π x.cursor.at.0);
            aimed = (names.name-small, names.type_known, λ u. names.row_known, omega arith);
          }

pub ruleset narrow-ways = (narrow-none, narrow-rows, first-inside, narrow-deep, narrow-element)

-- a row, case by case
module _ (t s : List ℕ) (d wall : ℕ) (c : Cursor) (E : List ℕ) (row : code·particle.Particle) where
  pub reach-element : (name ty own : ℕ) → row ≡ Element name ty own → Fits (types_in t) (particles_in t) (row_is row)
      → Aims t s d (row_is row) wall c E (aim.Element record { cursor = c; name = name; t = ty; own = own; depth = d }) E
  unfolding aim_view row·
  reach-element name ty own g fit =
      let k : Fits (types_in t) (particles_in t) (table.Row.element name ty own) = rw g at fit in
      rw g (record { says = λ mode ready T π. refl; aimed = (k.0, k.1, k.2, omega arith) })

  -- a row that holds rows
  module _ (hold : Holds (row_is row)) (g : Group) (E₁ : List ℕ) (h : Groups (row_is row) (bit_at s) wall c E g E₁) where
    module _ (mode : Mode) (T π : List ℕ) where
      abbrev K : Reading
      K first jump n u p = runs· t s mode d first jump n u π wall p

      group-is : group_at K (row_is row) (bit_at s) (room_of E T c) π wall c.at.0 ≡ row· t s mode (suc d) (row_is row) (room_of E T c) π wall c.at.0
      unfolding group_at row· runs· choose· occur·
      group-is = go (row_is row) hold
        where
          go : (q : table.Row) → Holds q → group_at K q (bit_at s) (room_of E T c) π wall c.at.0 ≡ row· t s mode (suc d) q (room_of E T c) π wall c.at.0
          go (table.Row.element a b e) k = absurd k
          go (table.Row.sequence first n) k = refl
          go (table.Row.choice first n) k =
              λ j. code (item_at (picked n) (bit_at s) wall c.at.0) π c.at.0
              (λ y. after (room_of E T c) (stored (room_of E T c) π c.at.0 (event kinds.pick y.0 0 (y.2 - c.at.0)) y.1 y.2) (λ u p. run-one t s mode wall d (first + y.0) u π p j))
          go (table.Row.occurs child least most) k = refl

      grouped : (p : Group) → g ≡ p → group_view K p π E₁ T ≡ outcome (row· t s mode (suc d) (row_is row) (room_of E T c) π wall c.at.0) c π E T
      grouped p i = rw i at (h.says K T π) ∙ ap (λ (o : Answer). outcome o c π E T) group-is

    pub reach-refuse : (f : Fault Bits) → g ≡ Err f → Aims t s d (row_is row) wall c E (aim.Refuse f) E₁
    unfolding aim_view group_view
    reach-refuse f i = record { says = λ mode ready T π. grouped mode T π (Err f) i; aimed = tt }

    module _ (a : Run) (i : g ≡ Ok a) (fit : Fits (types_in t) (particles_in t) (row_is row)) where
      pub rows_lie : Lies (particles_in t) a.first a.step a.count
      rows_lie = subst (λ (q : Group). Placed (particles_in t) q) i (h.placed (types_in t) (particles_in t) fit)

      pub reach-rows : (r : Aim) → Narrows t d a r → Aims t s d (row_is row) wall c E r E₁
      unfolding aim_view group_view
      reach-rows r n = record {
        says = λ mode ready T π.
            n.says s mode wall ready π E₁ T
            ∙ ap (λ (o : Answer). outcome o a.cursor π E₁ T) (list-lies t s mode wall 0 0 ready d a.first a.step a.count rows_lie (room_of E₁ T a.cursor) π a.cursor.at.0)
            ∙ grouped mode T π (Ok a) i;
        aimed = n.aimed;
      }

pub ruleset reach-ways = (reach-element, reach-refuse, reach-rows)
