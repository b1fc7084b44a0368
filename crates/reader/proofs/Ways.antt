-- Each way through the functions of the cycle, as the code goes it.
use Prim.Native.Nat.{ℕ, suc, ◌+◌, ◌-◌, ◌<◌, ◌≤◌}
use mathlib.Core.Path.{◌≡◌, refl, sym, ap, ◌∙◌}
use mathlib.Core.List.{List, ◌∷◌}
use mathlib.Core.Bool.{Bool, cond}
use native.Mathlib.Omega.{arith}
use borrow.Author.Tests.{eq-eqb, ne_eqb, lt-ltb, le-ltb}
use Rattle.std.specs.Prelude.{Ok, Err}
use Rattle.numbers.specs.Refused.{number_of}
use Rattle.numbers.specs.declared.refusal.Refusal.TheVariants as refusal
use Rattle.numbers.specs.declared.refusal.Fault.{Fault}
use Rattle.wire.specs.declared.Bits.{Bits}
use Rattle.table.specs.First.Verdict.{right}
use Rattle.table.specs.Valid.{verdict}
use Rattle.table.specs.Words.{particles_in}
use Rattle.table.specs.Inside.{ParticleInside}
use Rattle.table.proofs.RowsInside.{particle-inside}
use Rattle.table.specs.Rows as table
use Rattle.table.specs.Rows.{table_of}
use Rattle.table.specs.Views.{row_is}
use Rattle.table.specs.declared.answers.Particle as code·particle
use Rattle.table.specs.declared.answers.Particle.TheVariants.{Element}
use Rattle.model.specs.Model.{Answer}
use Rattle.model.specs.Model.Nodes.{none}
use Rattle.model.specs.Model.Answer.{given, refused}
use Rattle.model.specs.Modes.{types_by, no_row, row_choices}
use Rattle.model.specs.declared.Mode.{Mode}
use Rattle.model.specs.Read.{Room, after}
use Rattle.reader_parts.specs.Out.{Step, room_of, step_view, outcome, ending, Closes}
use Rattle.reader_parts.specs.Paths.{names_of, Pushed}
use Rattle.reader_parts.specs.declared.Cursor.{Cursor}
use Rattle.reader_parts.specs.declared.Path.{Path}
use Rattle.reader_parts.proofs.Laws.{did-stop, after_stop, after-go, outcome-none}
use Rattle.reader.proofs.RefusalPathLaws.{Stopped, leaf-view}
use Rattle.reader.specs.RefusalPath.{Walk, walks, step_of, path_of, view, Named}
use Rattle.reader.specs.Meaning.{ReadyFor, Owned, Walks, row_for, row·, list·, below·, rest_by·}
use Rattle.reader.specs.Entering.{entered_view, Enters}
use Rattle.reader.specs.Groups.{aim_view, Aims}
use Rattle.reader.specs.declared.entering.Entered.{Entered}
use Rattle.reader.specs.declared.entering.Entered.TheVariants as entered
use Rattle.reader.specs.declared.entering.Entry.{Entry}
use Rattle.reader.specs.declared.groups.Aim.{Aim}
use Rattle.reader.specs.declared.groups.Aim.TheVariants as aim
use Rattle.reader.specs.declared.groups.Target.{Target}
use Rattle.reader.specs.declared.groups.Run.{Run}
use Rattle.reader.specs.declared.refusal_path.Halt.TheVariants.{Untold}

-- a walk's refusal, and what follows where it went on
module _ (v : Walk) (π N E' T' : List ℕ) (o : Answer) (c : Cursor) (E T : List ℕ) (h : view v π N E' T' ≡ outcome o c π E T) where
  walk-stop : Stopped v → (r : Room) (k : Room → ℕ → Answer) → view v π N E' T' ≡ outcome (after r o k) c π E T
  walk-stop g r k = after_stop (step_of v) (path_of v π N) E' T' o c π E T h g.fault g.refused π r k

  walk-go : (e : Cursor) → v ≡ Ok e → (K : Room → List ℕ → ℕ → Answer)
      → outcome (K (room_of E' T' e) π e.at.0) e π E' T' ≡ outcome (after (room_of E T c) o (λ u p. K u π p)) c π E T
  walk-go e g K = after-go (Ok e) π E' T' o c π E T (rw g at h) e refl π K

-- an element's rows and its end
module _ (t s : List ℕ) (mode : Mode) (d : ℕ) (x : Entry) (wall : ℕ) (c : Cursor) (Π E T : List ℕ) where
  abbrev Rest : Walk → List ℕ → List ℕ → List ℕ → Type 0
  Rest w N' E' T' = Walks (rest_by· t s mode d x) wall c Π E T w N' E' T'

  -- the rows around them may not be opened any more
  pub rest-deep : (N : List ℕ) → d < x.opens → Rest (Err (Untold record { why = refusal.Depth; at = c.at })) N E T
  unfolding rest_by· below· after step_view outcome
  rest-deep N h = rw (lt-ltb d x.opens h)

  module _ (v : Walk) (N₁ E₁ T₁ : List ℕ) (g : x.opens ≤ d) (y : Walks (list· t s mode 0 0 (d - x.opens) x.rows.first x.rows.step x.rows.count) wall c Π E T v N₁ E₁ T₁) where
    below-here : Walks (below· t s mode d x.opens x.rows.first x.rows.step x.rows.count) wall c Π E T v N₁ E₁ T₁
    unfolding below·
    below-here = rw (le-ltb d x.opens g) y

    pub rest_left : Stopped v → Rest v N₁ E₁ T₁
    unfolding rest_by·
    rest_left i = walk-stop v Π N₁ E₁ T₁ _ c E T below-here i (room_of E T c) _

    module _ (z : Cursor) (a : Step) (E₂ : List ℕ) (i : v ≡ Ok z) (q : Closes x.extent.coded x.extent.body.0 wall z E₁ a E₂) where
      rest_closed : (w : Walk) → w ≡ walks a → Rest w N₁ E₂ T₁
      unfolding rest_by·
      rest_closed w j = leaf-view a w j Π N₁ E₂ T₁ ∙ q.says T₁ Π ∙ walk-go v Π N₁ E₁ T₁ _ c E T below-here z i (λ u ρ p. ending x.extent.coded x.extent.body.0 wall u ρ p)

      pub rest-go : (f : Cursor) → a ≡ Ok f → Rest (Ok f) N₁ E₂ T₁
      rest-go f j = rest_closed (Ok f) (sym (ap walks j))

      pub rest-short : (e : Fault Bits) → a ≡ Err e → Rest (Err (Untold e)) N₁ E₂ T₁
      rest-short e j = rest_closed (Err (Untold e)) (sym (ap walks j))

-- rows are read with the path that has the name
pub content-pushed : (t s : List ℕ) (mode : Mode) (d first jump n wall : ℕ) (c : Cursor) (path inner : Path) (name : ℕ) (E T : List ℕ) (w : Walk) (N' E' T' : List ℕ) → Pushed path name inner
    → Walks (list· t s mode 0 0 d first jump n) wall c (names_of inner) E T w N' E' T' → Walks (list· t s mode 0 0 d first jump n) wall c (name ∷ names_of path) E T w N' E' T'
content-pushed t s mode d first jump n wall c path inner name E T w N' E' T' j y = rw j.names at y

-- the row of a number
module _ (t : List ℕ) (name ty i : ℕ) where
  pub row-root : i ≡ no_row → row_is (Element name ty no_row) ≡ row_for t name ty i
  unfolding row_for
  row-root e = ap (λ (b : Bool). cond b (table.Row.element name ty no_row) ((table_of t).row i)) (sym (eq-eqb i no_row e))

  pub row-table : (r : code·particle.Particle) → (i ≡ no_row → ⊥) → row_is r ≡ (table_of t).row i → row_is r ≡ row_for t name ty i
  unfolding row_for
  row-table r e g = g ∙ ap (λ (b : Bool). cond b (table.Row.element name ty no_row) ((table_of t).row i)) (sym (ne_eqb i no_row e))

  pub row_inside : verdict t ≡ right → Owned (particles_in t) i → (i ≡ no_row → ⊥) → ParticleInside t i
  row_inside v o e = particle-inside t v i (o e)

pub ruleset row_ways = (row-root, row-table, row_inside)

-- one row, as the code has it
module _ (t s : List ℕ) (mode : Mode) (d wall : ℕ) (c : Cursor) (Π E T : List ℕ) (x : table.Row) (r : code·particle.Particle) (is : row_is r ≡ x) (ready : ReadyFor t s mode wall 0 0) (z : d ≡ 0 → ⊥)
    (g : Aim) (E₁ : List ℕ) (h : Aims t s (d - 1) (row_is r) wall c E g E₁) where
  abbrev Row : Walk → List ℕ → List ℕ → List ℕ → Type 0
  Row w N' E' T' = Walks (row· t s mode d x) wall c Π E T w N' E' T'

  -- one row deeper
  down : d ≡ suc (d - 1)
  down = omega arith

  reached : (p : Aim) → g ≡ p → aim_view t s mode (d - 1) wall p Π E₁ T ≡ outcome (row· t s mode d x (room_of E T c) Π wall c.at.0) c Π E T
  reached p i =
      rw i at (h.says mode ready T Π)
      ∙ ap (λ (o : Answer). outcome o c Π E T)
      (ap (λ (m : ℕ). row· t s mode m (row_is r) (room_of E T c) Π wall c.at.0) (sym down) ∙ ap (λ (q : table.Row). row· t s mode d q (room_of E T c) Π wall c.at.0) is)

  pub row-stop : (N : List ℕ) (f : Fault Bits) → g ≡ aim.Refuse f → Row (Err (Untold f)) N E₁ T
  unfolding aim_view step_view
  row-stop N f i = reached (aim.Refuse f) i

  pub row_next : (N : List ℕ) (a : Cursor) → g ≡ aim.Go a → Row (Ok a) N E₁ T
  unfolding aim_view step_view
  row_next N a i = reached (aim.Go a) i

  -- an element
  module _ (y : Target) (f : g ≡ aim.Element y) (e : Entered) (E₂ T₂ : List ℕ)
      (k : Enters t s mode y.name (types_by t (row_choices mode.choices y.own) y.t y.own) wall y.cursor E₁ T e E₂ T₂) where
    came : (p : Entered) → e ≡ p → entered_view t s mode y.depth y.name p Π E₂ T₂ ≡ outcome (row· t s mode d x (room_of E T c) Π wall c.at.0) c Π E T
    unfolding aim_view
    came p i = rw i at (k.says y.depth Π) ∙ reached (aim.Element y) f

    pub row-refuse : (N : List ℕ) (q : Fault Bits) → e ≡ entered.Refuse q → Row (Err (Untold q)) N E₂ T₂
    unfolding entered_view step_view
    row-refuse N q i = came (entered.Refuse q) i

    pub row_done : (N : List ℕ) (a : Cursor) → e ≡ entered.Done a → Row (Ok a) N E₂ T₂
    unfolding entered_view step_view
    row_done N a i = came (entered.Done a) i

    pub row-full : (N : List ℕ) (q : Fault Bits) (w : Walk) (N₂ : List ℕ) → e ≡ entered.Full q → Named y.name Π (Err (Untold q)) N w N₂ → Row w N₂ E₂ T₂
    unfolding entered_view step_view outcome
    row-full N q w N₂ i j =
        let stop : row· t s mode d x (room_of E T c) Π wall c.at.0 ≡ refused (number_of q.why) q.at.0 (y.name ∷ Π) = did-stop (Err q) (y.name ∷ Π) E₂ T₂ _ c Π E T (came (entered.Full q) i) q refl in
        j.says (refused (number_of q.why) q.at.0 (y.name ∷ Π)) c E T E₂ T₂ refl ∙ ap (λ (o : Answer). outcome o c Π E T) (sym stop)

    pub row_in : (a : Entry) (v : Walk) (N₁ E₃ T₃ : List ℕ) (w : Walk) (N₂ : List ℕ) → e ≡ entered.In a
        → Walks (rest_by· t s mode y.depth a) a.extent.wall.0 a.rows.cursor (y.name ∷ Π) E₂ T₂ v N₁ E₃ T₃ → Named y.name Π v N₁ w N₂ → Row w N₂ E₃ T₃
    unfolding entered_view
    row_in a v N₁ E₃ T₃ w N₂ i q j = j.says _ a.rows.cursor E₂ T₂ E₃ T₃ q ∙ came (entered.In a) i

    -- refused inside, and told
    pub row-in-told : (a : Entry) (v : Walk) (N₁ E₃ T₃ : List ℕ) (h : Fault Bits) (w : Walk) (N₂ : List ℕ) → e ≡ entered.In a
        → Walks (rest_by· t s mode y.depth a) a.extent.wall.0 a.rows.cursor (y.name ∷ Π) E₂ T₂ v N₁ E₃ T₃ → v ≡ Err (Untold h) → Named y.name Π (Err (Untold h)) N₁ w N₂ → Row w N₂ E₃ T₃
    row-in-told a v N₁ E₃ T₃ h w N₂ i q m j = row_in a (Err (Untold h)) N₁ E₃ T₃ w N₂ i (rw m at q) j

  pub row-rows : (a : Run) (w : Walk) (N₂ E₂ T₂ : List ℕ) → g ≡ aim.Rows a
      → Walks (list· t s mode 0 0 (d - 1) a.first a.step a.count) wall a.cursor Π E₁ T w N₂ E₂ T₂ → Row w N₂ E₂ T₂
  unfolding aim_view
  row-rows a w N₂ E₂ T₂ i q = q ∙ reached (aim.Rows a) i

-- no row may be opened any more
pub row-deep : (t s : List ℕ) (mode : Mode) (d wall : ℕ) (c : Cursor) (Π E T : List ℕ) (x : table.Row) (N : List ℕ) → d ≡ 0 → Walks (row· t s mode d x) wall c Π E T (Err (Untold record { why = refusal.Depth; at = c.at })) N E T
unfolding row· step_view outcome
row-deep t s mode d wall c Π E T x N z = rw z

-- there is one more
pub more : (n j : ℕ) → j < n → 0 < n - j
more n j h = omega arith

-- rows: what is left of them, and what there was at the start
module _ (t s : List ℕ) (mode : Mode) (name ty d wall jump : ℕ) (i n : ℕ) (c : Cursor) (Π E T : List ℕ) where
  abbrev pub Left : (i₀ n₀ : ℕ) → Cursor → List ℕ → List ℕ → Type 0
  Left i₀ n₀ c₀ E₀ T₀ =
      outcome (list· t s mode name ty d i₀ jump n₀ (room_of E₀ T₀ c₀) Π wall c₀.at.0) c₀ Π E₀ T₀ ≡ outcome (list· t s mode name ty d i jump n (room_of E T c) Π wall c.at.0) c Π E T

  list-more : 0 < n → list· t s mode name ty d i jump n (room_of E T c) Π wall c.at.0
      ≡ after (room_of E T c) (row· t s mode d (row_for t name ty i) (room_of E T c) Π wall c.at.0) (λ u p. list· t s mode name ty d (i + jump) jump (n - 1) u Π wall p)
  unfolding list·
  list-more h =
      let m : n ≡ suc (n - 1) = omega arith in
      ap (λ (k : ℕ). list· t s mode name ty d i jump k (room_of E T c) Π wall c.at.0) m

  module _ (i₀ n₀ : ℕ) (c₀ : Cursor) (E₀ T₀ : List ℕ) (inv : Left i₀ n₀ c₀ E₀ T₀) where
    pub list-end : (N : List ℕ) → n ≤ 0 → Walks (list· t s mode name ty d i₀ jump n₀) wall c₀ Π E₀ T₀ (Ok c) N E T
    unfolding list·
    list-end N h =
        let m : n ≡ 0 = omega arith in
        outcome-none c Π E T ∙ ap (λ (o : Answer). outcome o c Π E T) (sym (nothing m)) ∙ sym inv
      where
        nothing : n ≡ 0 → list· t s mode name ty d i jump n (room_of E T c) Π wall c.at.0 ≡ given none c.at.0
        nothing m = rw m

    module _ (w : Walk) (N' E' T' : List ℕ) (h : 0 < n) (y : Walks (row· t s mode d (row_for t name ty i)) wall c Π E T w N' E' T') where
      pub list-stop : Stopped w → Walks (list· t s mode name ty d i₀ jump n₀) wall c₀ Π E₀ T₀ w N' E' T'
      list-stop a = walk-stop w Π N' E' T' _ c E T y a (room_of E T c) _ ∙ ap (λ (o : Answer). outcome o c Π E T) (sym (list-more h)) ∙ sym inv

      again : (e : Cursor) → w ≡ Ok e
          → outcome (list· t s mode name ty d i₀ jump n₀ (room_of E₀ T₀ c₀) Π wall c₀.at.0) c₀ Π E₀ T₀
          ≡ outcome (list· t s mode name ty d (i + jump) jump (n - 1) (room_of E' T' e) Π wall e.at.0) e Π E' T'
      again e a =
          inv
          ∙ ap (λ (o : Answer). outcome o c Π E T) (list-more h)
          ∙ sym (walk-go w Π N' E' T' _ c E T y e a (λ u ρ p. list· t s mode name ty d (i + jump) jump (n - 1) u ρ wall p))

      pub list-again : (e : Cursor) (m : ℕ) → w ≡ Ok e → m ≡ n - 1
          → outcome (list· t s mode name ty d i₀ jump n₀ (room_of E₀ T₀ c₀) Π wall c₀.at.0) c₀ Π E₀ T₀
          ≡ outcome (list· t s mode name ty d (i + jump) jump m (room_of E' T' e) Π wall e.at.0) e Π E' T'
      list-again e m a q = rw q (again e a)
