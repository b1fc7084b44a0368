-- Each way into an element, up to its rows, as the code goes it.
use Prim.Native.Nat.{ℕ, ◌<◌}
use mathlib.Core.Path.{◌≡◌, refl, sym, ap, ◌∙◌}
use mathlib.Core.List.{List, ◌∷◌}
use mathlib.Core.Bool.{Bool, true, false}
use native.Mathlib.Omega.{arith}
use Rattle.std.specs.Prelude.{Ok, Err}
use Rattle.numbers.specs.Refused.{number_of}
use Rattle.numbers.specs.declared.refusal.Refusal.{Refusal}
use Rattle.numbers.specs.declared.refusal.Fault.{Fault}
use Rattle.wire.specs.Bits.{bit_at}
use Rattle.wire.specs.Res.{Res, got, fault}
use Rattle.wire.specs.declared.Bits.{Bits}
use Rattle.table.specs.Words.{types_in, particles_in}
use Rattle.table.specs.Rows as table
use Rattle.table.specs.Rows.{table_of, held_of}
use Rattle.table.specs.Views.{content_is, row_is}
use Rattle.table.specs.declared.answers.Content as code·content
use Rattle.table.specs.declared.answers.Content.TheVariants.{Empty, Simple, Particles}
use Rattle.table.specs.declared.answers.Particle as code·particle
use Rattle.table.specs.declared.answers.Particle.TheVariants.{Element, Sequence, Choice, Occurs}
use Rattle.model.specs.Model as model
use Rattle.model.specs.Model.{Types, Plan, Answer, contents, plan, within}
use Rattle.model.specs.Model.Plan.{done}
use Rattle.model.specs.Model.Answer.{refused}
use Rattle.model.specs.Items as items
use Rattle.model.specs.Items.{head_at}
use Rattle.model.specs.declared.Mode.{Mode}
use Rattle.model.specs.Read.{Room, after, code, opened, read}
use Rattle.model.proofs.Join.{after-after}
use Rattle.model.proofs.Steps as steps-laws
use Rattle.reader_parts.specs.Opening.{becomes, behind_head, rest_of, opened_view, Opens}
use Rattle.reader_parts.specs.Heads.{Head, head_is, Heads}
use Rattle.reader_parts.specs.Out.{Step, room_of, step_view, outcome, ending, own_value, Reads, Closes}
use Rattle.reader_parts.specs.Parts.{before_rows}
use Rattle.reader_parts.specs.declared.Inner.{Inner}
use Rattle.reader_parts.specs.declared.Opened.{Opened}
use Rattle.reader_parts.specs.declared.Opened.TheVariants as opened
use Rattle.reader_parts.specs.declared.Cursor.{Cursor}
use Rattle.reader_parts.specs.declared.Head as code·head
use Rattle.reader_parts.specs.declared.Head.TheVariants.{Bare, Sized}
use Rattle.reader_parts.proofs.Laws.{did-stop, outcome-go, outcome-stop, after-go, after_next}
use Rattle.reader.proofs.Asked.{content-row}
use Rattle.reader.proofs.RowLaws.{content-lies, content-below}
use Rattle.reader.specs.Meaning.{ReadyFor, schema, lengths, reach_of, particle·, inside·, whole·, element·, rest_by·, below·}
use Rattle.reader.specs.Entering.{filled_by, rows_of, entry_of, entered_view, Fills, Enters}
use Rattle.reader.specs.declared.entering.Entered.{Entered}
use Rattle.reader.specs.declared.entering.Entered.TheVariants.{Refuse, Done, Full, In}
use Rattle.reader.specs.declared.entering.Entry.{Entry}
use Rattle.reader.specs.declared.entering.Extent.{Extent}

-- what a head says, case by case
module _ (h : code·head.Head) (wall : Bits) where
  pub reached-bare : (body : Bits) → h ≡ Bare body → record { coded = false; body = body; wall = wall } ≡ reach_of h wall
  reached-bare body g = rw g

  pub reached-sized : (body end : Bits) → h ≡ Sized body end → record { coded = true; body = body; wall = end } ≡ reach_of h wall
  reached-sized body end g = rw g

pub ruleset reached_ways = (reached-bare, reached-sized)

-- filled, case by case
module _ (s : Step) where
  pub filled-go : (c : Cursor) → s ≡ Ok c → Done c ≡ filled_by s
  filled-go c g = rw g

  pub filled-refuse : (e : Fault Bits) → s ≡ Err e → Full e ≡ filled_by s
  filled-refuse e g = rw g

pub ruleset filled_ways = (filled-go, filled-refuse)

-- an element with rows, case by case
module _ (c : Cursor) (i : ℕ) (extent : Extent) where
  pub rows-sequence : (p : code·particle.Particle) (first n : ℕ) → p ≡ Sequence first n → entry_of c (first, 1, n, 1) extent ≡ entry_of c (rows_of i (row_is p)) extent
  rows-sequence p first n g = rw g

  pub rows-one : (p : code·particle.Particle) → ((a b : ℕ) → p ≡ Sequence a b → ⊥) → entry_of c (i, 0, 1, 0) extent ≡ entry_of c (rows_of i (row_is p)) extent
  rows-one (Element a b e) z = refl
  rows-one (Sequence a b) z = absurd (z a b refl)
  rows-one (Choice a b) z = refl
  rows-one (Occurs a b e) z = refl

pub ruleset rows_ways = (rows-sequence, rows-one)

module _ {A : Type 0} (x : Res A) (π : List ℕ) (at : ℕ) (k : A → Answer) where
  pub code-fault : (n : ℕ) → x ≡ fault n → code x π at k ≡ refused n at π
  unfolding code
  code-fault n g = rw g

  pub code_got : (a : A) → x ≡ got a → code x π at k ≡ k a
  unfolding code
  code_got a g = rw g

-- a content without rows
abbrev pub NoRows : table.Content → Type 0
NoRows q = (i : ℕ) → q ≡ table.Content.particles i → ⊥

empty-rows : NoRows table.Content.empty
empty-rows i e = let b : ◌≡◌ {A = ℕ} 0 1 = cc in absurd (omega arith)

simple-rows : (kind x y : ℕ) → NoRows (table.Content.simple kind x y)
simple-rows kind x y i e = let b : ◌≡◌ {A = ℕ} 0 1 = cc in absurd (omega arith)

pub no_rows : (k : code·content.Content) → ((i : ℕ) → k ≡ Particles i → ⊥) → (q : table.Content) → content_is k ≡ q → NoRows q
no_rows Empty z q e = rw (← e) empty-rows
no_rows (Simple kind x y) z q e = rw (← e) (simple-rows kind x y)
no_rows (Particles i) z q e = absurd (z i refl)

-- an open element of a type: what stands before its rows was read
module _ (t s : List ℕ) (mode : Mode) (wall : Bits) (ready : ReadyFor t s mode wall.0 0 0) (ty : ℕ) (known : ty < types_in t) (coded : Bool) (body : ℕ) (c : Cursor) (E T : List ℕ)
    (o : Step) (E₁ T₁ : List ℕ) (h : Reads (before_rows t ty) (bit_at s) wall.0 c E T o E₁ T₁) where
  abbrev B : ℕ → ℕ
  B = bit_at s

  abbrev M : items.Lengths
  M = lengths t s mode

  abbrev H : ℕ → Bool
  H = held_of t mode.party

  abbrev D : table.Table
  D = schema t s mode

  abbrev R : Room
  R = room_of E T c

  abbrev at : ℕ
  at = c.at.0

  abbrev Before : List ℕ → Answer
  Before ρ = read B M H (before_rows t ty) R ρ wall.0 at

  abbrev Whole : ℕ → List ℕ → Answer
  Whole d ρ = whole· t s mode d ty coded body R ρ wall.0 at

  abbrev Filled : Entered → List ℕ → List ℕ → Type 0
  Filled r E' T' = Fills t s mode ty coded body wall.0 c E T r E' T'

  -- without rows that is all that is inside
  inside-all : NoRows ((table_of t).content ty) → (d : ℕ) (ρ : List ℕ) → inside· t s mode d ty R ρ wall.0 at ≡ Before ρ
  unfolding inside· within contents own_value
  inside-all g d ρ = ap (λ (P : Plan). read B M H (model.attributes (D.attributes ty) P) R ρ wall.0 at) (go ((table_of t).content ty) refl)
    where
      go : (q : table.Content) → (table_of t).content ty ≡ q → contents (plan D d) D.row q ≡ own_value q
      go table.Content.empty i = refl
      go (table.Content.simple x y z) i = refl
      go (table.Content.particles i) j = absurd (g i j)

  module _ (g : NoRows ((table_of t).content ty)) (z : Cursor) (i : o ≡ Ok z) (a : Step) (E₂ : List ℕ) (q : Closes coded body wall.0 z E₁ a E₂) where
    ended : (d : ℕ) (ρ : List ℕ) → step_view a ρ E₂ T₁ ≡ outcome (Whole d ρ) c ρ E T
    unfolding whole·
    ended d ρ =
        q.says T₁ ρ
        ∙ after_next o ρ E₁ T₁ (Before ρ) c ρ E T (h.says M H ρ) z i (λ u σ p. ending coded body wall.0 u σ p)
        ∙ ap (λ (x : Answer). outcome (after R x (λ u p. ending coded body wall.0 u ρ p)) c ρ E T) (sym (inside-all g d ρ))

    pub fill_end : (r : Entered) → r ≡ filled_by a → Filled r E₂ T₁
    unfolding entered_view step_view
    fill_end r j = rw j (go a refl)
      where
        go : (b : Step) → a ≡ b → Filled (filled_by b) E₂ T₁
        go (Ok y) m = record {
          says = λ d name π. ap (λ (x : Step). step_view x π E₂ T₁) (sym m) ∙ outcome-go a (name ∷ π) E₂ T₁ (Whole d (name ∷ π)) c (name ∷ π) E T (ended d (name ∷ π)) y m π;
          rowing = tt;
        }
        go (Err f) m = record {
          says = λ d name π. ap (λ (x : Step). step_view x (name ∷ π) E₂ T₁) (sym m) ∙ outcome-stop a (name ∷ π) E₂ T₁ (Whole d (name ∷ π)) c (name ∷ π) E T (ended d (name ∷ π)) f m π;
          rowing = tt;
        }

  inside-rows : (i : ℕ) → (table_of t).content ty ≡ table.Content.particles i → (d : ℕ) (ρ : List ℕ)
      → inside· t s mode d ty R ρ wall.0 at ≡ after R (Before ρ) (λ u p. particle· t s mode d ((table_of t).row i) u ρ wall.0 p)
  unfolding inside· particle· own_value
  inside-rows i g d ρ =
      steps-laws.inside_is B M H D R ρ wall.0 at d ty
      ∙ rw g (λ j. after R (read B M H (model.attributes (D.attributes ty) done) R ρ wall.0 at) (λ u p. steps-laws.content-particles B M H D u ρ wall.0 p d i j))

  -- refused before its rows
  pub fill_stop : (f : Fault Bits) (r : Entered) → o ≡ Err f → r ≡ filled_by o → Filled r E₁ T₁
  unfolding entered_view outcome whole· after
  fill_stop f r i j = rw (j, i) (record { says = λ d name π. ap (λ (x : Answer). outcome x c π E T) (sym (whole-stop d (name ∷ π))); rowing = tt })
    where
      stop : (ρ : List ℕ) → Before ρ ≡ refused (number_of f.why) f.at.0 ρ
      stop ρ = did-stop o ρ E₁ T₁ (Before ρ) c ρ E T (h.says M H ρ) f i

      inside-stop : (d : ℕ) (ρ : List ℕ) (q : table.Content) → (table_of t).content ty ≡ q → inside· t s mode d ty R ρ wall.0 at ≡ refused (number_of f.why) f.at.0 ρ
      inside-stop d ρ table.Content.empty g = inside-all (rw g empty-rows) d ρ ∙ stop ρ
      inside-stop d ρ (table.Content.simple a b y) g = inside-all (rw g (simple-rows a b y)) d ρ ∙ stop ρ
      inside-stop d ρ (table.Content.particles a) g = inside-rows a g d ρ ∙ rw (stop ρ)

      whole-stop : (d : ℕ) (ρ : List ℕ) → Whole d ρ ≡ refused (number_of f.why) f.at.0 ρ
      whole-stop d ρ = rw (inside-stop d ρ ((table_of t).content ty) refl)

  -- its rows are next
  pub fill-rows : (z : Cursor) (k : code·content.Content) (i : ℕ) (p : code·particle.Particle) (x : Entry) → o ≡ Ok z → content_is k ≡ (table_of t).content ty → k ≡ Particles i → row_is p ≡ (table_of t).row i
      → x ≡ entry_of z (rows_of i (row_is p)) record { coded = coded; body = record { 0 = body }; wall = wall } → Filled (In x) E₁ T₁
  unfolding entered_view rest_by· whole·
  fill-rows z k i p x j e g a m = rw m (record { says = λ d name π. says d (name ∷ π) π; rowing = (content-lies t s mode wall.0 0 0 ready i inside (row_is p) a, ready.walls) })
    where
      inside : i < particles_in t
      inside = content-row t s mode wall.0 0 0 ready ty k i known e g

      says : (d : ℕ) (ρ π : List ℕ) → outcome (after (room_of E₁ T₁ z) (below· t s mode d (rows_of i (row_is p)).3 (rows_of i (row_is p)).0 (rows_of i (row_is p)).1 (rows_of i (row_is p)).2 (room_of E₁ T₁ z) ρ wall.0 z.at.0) (λ u q. ending coded body wall.0 u ρ q)) z π E₁ T₁
          ≡ outcome (after R (inside· t s mode d ty R ρ wall.0 at) (λ u q. ending coded body wall.0 u ρ q)) c π E T
      says d ρ π =
          ap (λ (x : Answer). outcome (after (room_of E₁ T₁ z) x (λ u q. ending coded body wall.0 u ρ q)) z π E₁ T₁)
          (content-below t s mode wall.0 0 0 ready i inside d (room_of E₁ T₁ z) ρ z.at.0 (row_is p) a)
          ∙ after-go o ρ E₁ T₁ (Before ρ) c ρ E T (h.says M H ρ) z j π (λ u σ p. after u (particle· t s mode d ((table_of t).row i) u σ wall.0 p) (λ v q. ending coded body wall.0 v σ q))
          ∙ ap (λ (x : Answer). outcome x c π E T)
          (sym (ap (λ (x : Answer). after R x (λ u q. ending coded body wall.0 u ρ q)) (inside-rows i (sym e ∙ rw g) d ρ)
          ∙ after-after R (Before ρ) (λ u p. particle· t s mode d ((table_of t).row i) u ρ wall.0 p) (λ u q. ending coded body wall.0 u ρ q)))

pub ruleset fill-ways = (fill_end, fill_stop, fill-rows)

-- an element, by its head and what that says
module _ (t s : List ℕ) (mode : Mode) (wall : ℕ) (c : Cursor) (E T : List ℕ) (name : ℕ) (y : Types) (x : Head) (e : Heads mode.lengths (bit_at s) wall c.at.0 x)
    (outer : Bits) (u : outer.0 ≡ wall) where
  abbrev Comes : Entered → List ℕ → List ℕ → Type 0
  Comes w E' T' = Enters t s mode name y wall c E T w E' T'

  abbrev Elem : ℕ → List ℕ → Answer
  Elem d π = element· t s mode d name y (room_of E T c) π wall c.at.0

  head-here : (h : Res items.Head) → head_is x ≡ h → head_at (lengths t s mode) (bit_at s) wall c.at.0 ≡ h
  head-here h g = sym e.says ∙ g

  pub enter-wrong : (n : Refusal) → x ≡ Err n → Comes (Refuse record { why = n; at = c.at }) E T
  unfolding element· head_is entered_view outcome
  enter-wrong n g =
      record { says = λ d π. ap (λ (o : Answer). outcome o c π E T) (sym (code-fault _ π c.at.0 _ (number_of n) (head-here (fault (number_of n)) (rw g)))); rowing = tt }

  module _ (a : code·head.Head) (g : x ≡ Ok a) (z : Extent) (f : z ≡ reach_of a outer) where
    abbrev behind : ℕ → List ℕ → Answer
    behind d π = behind_head name z.coded z.body.0 z.wall.0 y (bit_at s) (held_of t mode.party) (inside· t s mode d) (room_of E T c) π c.at.0

    here : (d : ℕ) (π : List ℕ) → Elem d π ≡ behind d π
    unfolding element· head_is opened behind_head becomes
    here d π = go a g f
      where
        go : (b : code·head.Head) → x ≡ Ok b → z ≡ reach_of b outer → Elem d π ≡ behind d π
        go (Bare body) i h = rw (h, u) (code_got _ π c.at.0 _ _ (head-here (got (items.Head.bare body.0)) (rw i)))
        go (Sized body end) i h = rw h (code_got _ π c.at.0 _ _ (head-here (got (items.Head.sized body.0 end.0)) (rw i)))

    -- what became of it behind its head
    module _ (o : Opened) (E₁ : List ℕ) (q : Opens name z.coded z.body.0 z.wall.0 y (bit_at s) (held_of t mode.party) c E o E₁) where
      came : (p : Opened) → o ≡ p → (d : ℕ) (π : List ℕ)
          → opened_view name z.coded z.body.0 z.wall.0 (rest_of name z.coded z.body.0 z.wall.0 (inside· t s mode d)) p π E₁ T ≡ outcome (Elem d π) c π E T
      came p i d π = rw i at (q.says (inside· t s mode d) T π) ∙ ap (λ (k : Answer). outcome k c π E T) (sym (here d π))

      pub enter-refuse : (b : Fault Bits) → o ≡ opened.Refuse b → Comes (Refuse b) E₁ T
      unfolding opened_view entered_view
      enter-refuse b i = record { says = came (opened.Refuse b) i; rowing = tt }

      -- its name is in the path of a refusal from Start on
      pub enter-full : (b : Fault Bits) → o ≡ opened.Full b → Comes (Full b) E₁ T
      unfolding opened_view entered_view
      enter-full b i = record { says = came (opened.Full b) i; rowing = tt }

      pub enter-blank : (k : Cursor) → o ≡ opened.Blank k → Comes (Done k) E₁ T
      unfolding opened_view entered_view
      enter-blank k i = record { says = came (opened.Blank k) i; rowing = tt }

      pub enter-in : (k : Inner) (w : Entered) (E₂ T₂ : List ℕ) → o ≡ opened.In k
          → Fills t s mode k.effective z.coded z.body.0 z.wall.0 k.cursor E₁ T w E₂ T₂ → Comes w E₂ T₂
      unfolding opened_view rest_of whole·
      enter-in k w E₂ T₂ i h = record { says = λ d π. h.says d name π ∙ came (opened.In k) i d π; rowing = h.rowing }

pub ruleset enter-ways = (enter-wrong, enter-refuse, enter-full, enter-blank, enter-in)
