-- What a function of the cycle asks, kept from call to call: by the table's laws, by the head's end, by the path.
use Prim.Native.Nat.{ℕ, suc, ◌+◌, ◌-◌, ◌*◌, ◌<◌, ◌≤◌}
use mathlib.Core.Path.{◌≡◌, refl, sym, ◌∙◌, subst}
use mathlib.Core.List.{List}
use mathlib.Core.Bool.{Bool}
use native.Mathlib.Omega.{arith}
use lib.ListN.{length}
use Rattle.numbers.specs.Limit.{most_names}
use Rattle.wire.specs.Bits.{bit_at}
use Rattle.std.specs.Prelude.{Ok}
use Rattle.wire.specs.Answer.{Read, read_is}
use Rattle.wire.specs.declared.Bits.{Bits}
use Rattle.value.specs.Code.{choice_at}
use Rattle.table.specs.First.Verdict.{right}
use Rattle.table.specs.Valid.{verdict}
use Rattle.table.specs.Words.{types_in, particles_in}
use Rattle.table.specs.Inside.{TypeInside, ParticleInside}
use Rattle.table.specs.Rows.{Row, table_of, held_of}
use Rattle.table.specs.Keeps.{ContentOk}
use Rattle.table.proofs.Laws.{counts-ok, content-met}
use Rattle.table.proofs.RowsInside.{type-inside, particle-inside}
use Rattle.table.specs.Views.{content_is, row_is}
use Rattle.table.specs.declared.answers.Content as code·content
use Rattle.table.specs.declared.answers.Content.TheVariants.{Particles}
use Rattle.table.specs.declared.answers.Particle as code·particle
use Rattle.table.specs.declared.answers.Particle.TheVariants.{Element, Sequence, Choice, Occurs}
use Rattle.model.specs.Model.{Types}
use Rattle.model.specs.Modes.{types_by, row_choices}
use Rattle.model.specs.declared.Mode.{Mode}
use Rattle.reader_parts.specs.Heads.{Head, Within, Heads}
use Rattle.reader_parts.specs.Opening.{Below, Opens}
use Rattle.reader_parts.specs.Paths.{Pushed}
use Rattle.reader_parts.specs.declared.Cursor.{Cursor}
use Rattle.reader_parts.specs.declared.Inner.{Inner}
use Rattle.reader_parts.specs.declared.Opened.{Opened}
use Rattle.reader_parts.specs.declared.Opened.TheVariants.{In}
use Rattle.reader_parts.specs.declared.Head as code·head
use Rattle.reader_parts.specs.declared.Head.TheVariants.{Bare, Sized}
use Rattle.reader_parts.specs.declared.Path.{Path}
use Rattle.reader_parts.proofs.CodeWays.{choice-in, codes-known}
use Rattle.reader_parts.proofs.OpeningWays.{row-owned}
use Rattle.reader.proofs.RowLaws.{known-lies}
use Rattle.reader.specs.Meaning.{ReadyFor, Owned, Fits, Holds, KnownRows, row_for, reach_of}
use Rattle.reader.specs.Entering.{Rowing, Enters}
use Rattle.reader.specs.Groups.{Aimed, Aims}
use Rattle.reader.specs.declared.entering.Entered.{Entered}
use Rattle.reader.specs.declared.entering.Entered.TheVariants as entered
use Rattle.reader.specs.declared.entering.Entry.{Entry}
use Rattle.reader.specs.declared.groups.Aim.{Aim}
use Rattle.reader.specs.declared.groups.Aim.TheVariants as aim
use Rattle.reader.specs.declared.groups.Target.{Target}
use Rattle.reader.specs.declared.groups.Run.{Run}
use Rattle.reader.specs.declared.entering.Extent.{Extent}

module _ (t s : List ℕ) (mode : Mode) (wall n d : ℕ) (h : ReadyFor t s mode wall n d) where
  -- a row is opened; so is an element, which takes a place of the path
  pub ready-row : (d ≡ 0 → ⊥) → ReadyFor t s mode wall n (d - 1)
  ready-row z = record { valid = h.valid; choosing = h.choosing; party_known = h.party_known; walls = h.walls; places = omega (arith, h.places) }

  pub ready-less : (k : ℕ) → ReadyFor t s mode wall n (d - k)
  ready-less k = record { valid = h.valid; choosing = h.choosing; party_known = h.party_known; walls = h.walls; places = omega (arith, h.places) }

  pub ready-element : (d ≡ 0 → ⊥) → ReadyFor t s mode wall (n + 1) (d - 1)
  ready-element z = record { valid = h.valid; choosing = h.choosing; party_known = h.party_known; walls = h.walls; places = omega (arith, h.places) }

  -- an element's own end is the wall of what is inside it
  pub ready-end : (b : ℕ → ℕ) (at : ℕ) (x : Head) (w : Bits) (u : code·head.Head) (y : Extent) → Heads mode.lengths b wall at x → w.0 ≡ wall → x ≡ Ok u → y ≡ reach_of u w
      → ReadyFor t s mode y.wall.0 n d
  ready-end b at x w u y e g i f = go u (subst (λ (q : Head). Within wall q) i e.within) f
    where
      go : (a : code·head.Head) → Within wall (Ok a) → y ≡ reach_of a w → ReadyFor t s mode y.wall.0 n d
      go (Bare body) k j = rw (j, g) h
      go (Sized body end) k j = rw j (record { valid = h.valid; choosing = h.choosing; party_known = h.party_known; walls = omega (arith, h.walls); places = h.places })

  -- what the rows name is there
  pub type-held : (ty : ℕ) → ty < types_in t → TypeInside t ty
  type-held ty k = type-inside t h.valid ty k

  pub party-few : mode.party < 32
  party-few = let a = h.party_known in omega arith

  pub content-row : (ty : ℕ) (k : code·content.Content) (i : ℕ) → ty < types_in t → content_is k ≡ (table_of t).content ty → k ≡ Particles i → i < particles_in t
  content-row ty k i g e f = subst (λ (x : code·content.Content). ContentOk (particles_in t) (content_is x)) f (content-met t h.valid ty g k e)

  pub content-inside : (ty : ℕ) (k : code·content.Content) (i : ℕ) → ty < types_in t → content_is k ≡ (table_of t).content ty → k ≡ Particles i → ParticleInside t i
  content-inside ty k i g e f = particle-inside t h.valid i (content-row ty k i g e f)

  -- the type of an element that is open is one of the table's
  pub element-effective : (c : Cursor) (E : List ℕ) (name ty row : ℕ) (coded : Bool) (body end : ℕ) (o : Opened) (E' : List ℕ) (x : Inner) → ty < types_in t → Owned (particles_in t) row
      → Opens name coded body end (types_by t (row_choices mode.choices row) ty row) (bit_at s) (held_of t mode.party) c E o E' → o ≡ In x → x.effective < types_in t
  element-effective c E name ty row coded body end o E' x g w k f =
      subst (λ (a : Opened). Below name coded body end (types_in t) a) f
      (k.below (types_in t) (codes-known t h.valid (row_choices mode.choices row) ty row (bit_at s) end body g (row-owned mode.choices row (particles_in t) w)))

-- the branch that a choice names
pub branch_row : (P first n : ℕ) (b : ℕ → ℕ) (wall at : ℕ) (r : Read) (v : ℕ) (q : Bits) → first + n ≤ P → read_is r ≡ choice_at b n wall at → r ≡ Ok (v, q) → first + v < P
unfolding read_is
branch_row P first n b wall at r v q h e g = let k = (choice-in b n wall at).says (v, q.0) (sym e ∙ rw g) in omega arith

-- the path: one name longer inside an element
pub ready-pushed : (t s : List ℕ) (mode : Mode) (wall d : ℕ) (path inner : Path) (name : ℕ) → Pushed path name inner → ReadyFor t s mode wall (path.count + 1) d → ReadyFor t s mode wall inner.count d
ready-pushed t s mode wall d path inner name i r = rw i.count r

pub path-open : (t s : List ℕ) (mode : Mode) (wall n d : ℕ) → ReadyFor t s mode wall (n + 1) d → n < most_names
path-open t s mode wall n d r = omega (arith, r.places)

-- a row is opened, and what is in its element is read
pub path-row : (t s : List ℕ) (mode : Mode) (wall n d : ℕ) → ReadyFor t s mode wall n d → (d ≡ 0 → ⊥) → n < most_names
path-row t s mode wall n d r z = omega (arith, r.places)

-- what opens no row asks for no depth
pub ready-leaf : (t s : List ℕ) (mode : Mode) (wall n d : ℕ) → ReadyFor t s mode wall n d → ReadyFor t s mode wall 0 0
ready-leaf t s mode wall n d r = record { valid = r.valid; choosing = r.choosing; party_known = r.party_known; walls = r.walls; places = omega arith }

-- the next of known rows, and those after it
module _ (t : List ℕ) (name ty i jump n : ℕ) (h : KnownRows t name ty i jump n) (k : 0 < n) where
  one_more : n ≡ suc (n - 1)
  one_more = omega arith

  split : Fits (types_in t) (particles_in t) (row_for t name ty i) × Owned (particles_in t) i × (i + jump < 4294967296) × KnownRows t name ty (i + jump) jump (n - 1)
  unfolding KnownRows
  split = subst (λ (m : ℕ). KnownRows t name ty i jump m) one_more h

  pub known-fits : (r : code·particle.Particle) → row_is r ≡ row_for t name ty i → Fits (types_in t) (particles_in t) (row_is r)
  known-fits r e = rw e split.0

  pub known_step : i + jump < 4294967296
  known_step = split.2

  pub known_owned : Owned (particles_in t) i
  known_owned = split.1

  pub known-rest : (m : ℕ) → m ≡ n - 1 → KnownRows t name ty (i + jump) jump m
  known-rest m e = rw e split.3

-- an element that has rows
module _ (t s : List ℕ) (mode : Mode) (wall n d : ℕ) (h : ReadyFor t s mode wall n d) where
  pub entry_ready : (name : ℕ) (y : Types) (c : Cursor) (E T : List ℕ) (e : Entered) (E' T' : List ℕ) (x : Entry) → Enters t s mode name y wall c E T e E' T' → e ≡ entered.In x → (m : ℕ) → m < d
      → ReadyFor t s mode x.extent.wall.0 (n + 1) m
  entry_ready name y c E T e E' T' x k f m z =
      let a = subst (λ (q : Entered). Rowing (particles_in t) (8 * length s) q) f k.rowing in
      record { valid = h.valid; choosing = h.choosing; party_known = h.party_known; walls = a.1; places = omega (arith, h.places) }

  pub entry_known : (name : ℕ) (y : Types) (c : Cursor) (E T : List ℕ) (e : Entered) (E' T' : List ℕ) (x : Entry) → Enters t s mode name y wall c E T e E' T' → e ≡ entered.In x
      → KnownRows t 0 0 x.rows.first x.rows.step x.rows.count
  entry_known name y c E T e E' T' x k f =
      known-lies t s mode wall n d h x.rows.first x.rows.step x.rows.count (subst (λ (q : Entered). Rowing (particles_in t) (8 * length s) q) f k.rowing).0

  -- what a row came to
  pub aim-known : (e : ℕ) (row : Row) (c : Cursor) (E : List ℕ) (g : Aim) (E' : List ℕ) (x : Run) → Aims t s e row wall c E g E' → g ≡ aim.Rows x → KnownRows t 0 0 x.first x.step x.count
  aim-known e row c E g E' x k f = known-lies t s mode wall n d h x.first x.step x.count (subst (λ (q : Aim). Aimed t e q) f k.aimed)

pub aim-element : (t s : List ℕ) (e : ℕ) (row : Row) (wall : ℕ) (c : Cursor) (E : List ℕ) (g : Aim) (E' : List ℕ) (y : Target) → Aims t s e row wall c E g E' → g ≡ aim.Element y → Aimed t e (aim.Element y)
aim-element t s e row wall c E g E' y k f = subst (λ (q : Aim). Aimed t e q) f k.aimed

-- a row that is no element
pub row-holds : (t : List ℕ) → verdict t ≡ right → (row : code·particle.Particle) → Fits (types_in t) (particles_in t) (row_is row) → ((a b c : ℕ) → row ≡ Element a b c → ⊥)
    → Holds (row_is row)
row-holds t valid (Element a b c) fit z = absurd (z a b c refl)
row-holds t valid (Sequence first m) fit z = tt
row-holds t valid (Choice first m) fit z = let a = (counts-ok t valid).particles_few in omega arith
row-holds t valid (Occurs child least most) fit z = tt

pub ruleset asked-ways = (ready-row, ready-element, ready-end, type-held, party-few, content-row, content-inside, element-effective, branch_row, ready-pushed, path-open, path-row, ready-leaf, known-fits, known_step, known_owned, known-rest, entry_ready, entry_known, aim-known, ready-less)
