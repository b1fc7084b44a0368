-- Ways through the functions that tell the next item: each is a plan's own step.
use Prim.Native.Nat.{ℕ, zero, suc, ◌+◌, ◌-◌, ◌*◌, ◌/◌, ◌%◌, ◌≤◌, ◌<◌}
use mathlib.Core.Path.{◌≡◌, refl, sym, ap, ◌∙◌}
use mathlib.Core.Bool.{Bool, true, false}
use mathlib.Core.Logic.{◌⊎◌, inl, inr}
use native.Mathlib.Omega.{arith}
use borrow.Author.Tests.{eq-eqb, ne_eqb}
use lib.Dec.{eqb}
use Rattle.numbers.specs.Limit.{init_words}
use Rattle.init.specs.declared.Item.TheVariants as item
use Rattle.init.specs.declared.Slot.TheVariants as slot
use Rattle.init.specs.declared.Left.{Left}
use Rattle.init.specs.declared.Phase.{Phase}
use Rattle.init.specs.declared.Phase.TheVariants.{Profile, UnitByte, NoFlags, Length, Flags, Schemas, Uri, Hint, Codecs, Codec, Types, OneType, Formats, NoFormats, Description, End}
use Rattle.init.specs.Plan.{Plan, types, codecs, schemas, formats, features}
use Rattle.init.specs.Plan.{Plan as plans}
use Rattle.init.specs.Phases.{item_of, slot_of, later, rest, rest_of, ends, goes, plan_of, reach, grown, rank, spare}
use Rattle.init.specs.Promises.{Follows}

-- one of so many
types-step : (n : ℕ) (k : Plan) → 0 < n → types n k ≡ plans.item item.Number slot.Codecs (λ v. types (n - 1) k)
unfolding types
types-step zero k h = absurd (omega arith)
types-step (suc n) k h = let e : suc n - 1 ≡ n = omega arith in rw e

codecs-step : (n : ℕ) (k : Plan) → 0 < n
    → codecs n k ≡ plans.item item.Text slot.Codecs (λ u. plans.item item.Number slot.Codecs (λ t. types t (codecs (n - 1) k)))
unfolding codecs
codecs-step zero k h = absurd (omega arith)
codecs-step (suc n) k h = let e : suc n - 1 ≡ n = omega arith in rw e

schemas-step : (n at : ℕ) (k : Plan) → 0 < n
    → schemas n at k
    ≡ plans.item item.Uri (slot.Init at)
    (λ u. plans.item item.Text (slot.Init (at + 2)) (λ h. plans.item item.Number (slot.Init (at + 4)) (λ c. codecs c (schemas (n - 1) (at + 5) k))))
unfolding schemas
schemas-step zero at k h = absurd (omega arith)
schemas-step (suc n) at k h = let e : suc n - 1 ≡ n = omega arith in rw e

-- none left of them
types-none : (n : ℕ) (k : Plan) → n ≤ 0 → types n k ≡ k
unfolding types
types-none zero k h = refl
types-none (suc n) k h = absurd (omega arith)

codecs-none : (n : ℕ) (k : Plan) → n ≤ 0 → codecs n k ≡ k
unfolding codecs
codecs-none zero k h = refl
codecs-none (suc n) k h = absurd (omega arith)

schemas-none : (n at : ℕ) (k : Plan) → n ≤ 0 → schemas n at k ≡ k
unfolding schemas
schemas-none zero at k h = refl
schemas-none (suc n) at k h = absurd (omega arith)

abbrev left : (slot schemas codecs types : ℕ) → Bool → Left
left at n c t f = record { slot = at; schemas = n; codecs = c; types = t; formats = f }

module _ (l : Left) (room : l.slot + 5 * l.schemas ≤ init_words) where
  abbrev settled : Phase → Type 0
  settled r = Follows (rest l) init_words (3 * l.schemas + 3) r

  pub settle-type : 0 < l.types → settled (OneType (left l.slot l.schemas l.codecs (l.types - 1) l.formats))
  unfolding rest rest_of plan_of goes ends item_of slot_of reach rank
  settle-type h = record { comes = sym (types-step l.types _ h); lies = omega arith; falls = omega arith }

  pub settle-codec : l.types ≤ 0 → 0 < l.codecs → settled (Codec (left l.slot l.schemas (l.codecs - 1) 0 l.formats))
  unfolding rest rest_of plan_of goes ends item_of slot_of reach rank
  settle-codec z h = record { comes = sym (types-none l.types _ z ∙ codecs-step l.codecs _ h); lies = omega arith; falls = omega arith }

  pub settle-schema : l.types ≤ 0 → l.codecs ≤ 0 → 0 < l.schemas → settled (Uri (left l.slot (l.schemas - 1) 0 0 l.formats))
  unfolding rest rest_of plan_of goes ends item_of slot_of reach rank later
  settle-schema z y h =
      record {
        comes = sym (types-none l.types _ z ∙ codecs-none l.codecs _ y ∙ schemas-step l.schemas l.slot _ h);
        lies = omega arith;
        falls = omega arith;
      }

  formats-left : l.types ≤ 0 → l.codecs ≤ 0 → l.schemas ≤ 0 → rest l ≡ formats l.formats
  unfolding rest later
  formats-left z y x = types-none l.types _ z ∙ codecs-none l.codecs _ y ∙ schemas-none l.schemas l.slot _ x

  pub settle-formats : l.types ≤ 0 → l.codecs ≤ 0 → l.schemas ≤ 0 → l.formats ≡ true → settled Formats
  unfolding rest_of plan_of goes ends item_of slot_of reach rank formats
  settle-formats z y x e = record { comes = sym (formats-left z y x ∙ ap formats e); lies = omega arith; falls = omega arith }

  pub settle-none : l.types ≤ 0 → l.codecs ≤ 0 → l.schemas ≤ 0 → l.formats ≡ false → settled NoFormats
  unfolding rest_of plan_of goes ends item_of slot_of reach rank formats
  settle-none z y x e = record { comes = sym (formats-left z y x ∙ ap formats e); lies = omega arith; falls = omega arith }

pub ruleset settle_ways = (settle-type, settle-codec, settle-schema, settle-formats, settle-none)

-- so many schemas, codecs, types
pub begin-way : (n : ℕ) (f : Bool) (r : Phase) → 12 + 5 * n ≤ init_words → Follows (rest (left 12 n 0 0 f)) init_words (3 * n + 3) r → Follows (later 12 n f) init_words 26 r
unfolding rest types codecs
begin-way n f r h w = record { comes = w.comes; lies = w.lies; falls = omega (arith, w.falls) }

pub codecs-way : (l : Left) (n : ℕ) (r : Phase) → Follows (rest (left (l.slot + 5) l.schemas n 0 l.formats)) init_words (3 * l.schemas + 3) r
    → Follows (rest_of (Codecs l) n) init_words (3 * l.schemas + 3) r
unfolding rest rest_of types
codecs-way l n r w = record { comes = w.comes; lies = w.lies; falls = w.falls }

pub types-way : (l : Left) (n : ℕ) (r : Phase) → Follows (rest (left l.slot l.schemas l.codecs n l.formats)) init_words (3 * l.schemas + 3) r
    → Follows (rest_of (Types l) n) init_words (3 * l.schemas + 3) r
unfolding rest rest_of
types-way l n r w = record { comes = w.comes; lies = w.lies; falls = w.falls }

pub ruleset list_ways = (begin-way, codecs-way, types-way)

-- behind the unit byte
pub unit-plain : (v : ℕ) → v / 16 % 2 ≡ 1 → Follows (rest_of UnitByte v) init_words 29 NoFlags
unfolding rest_of plan_of goes ends item_of slot_of reach rank features
unit-plain v e = record { comes = rw (eq-eqb _ _ e); lies = omega arith; falls = omega arith }

pub unit-flags : (v : ℕ) → (v / 16 % 2 ≡ 1 → ⊥) → Follows (rest_of UnitByte v) init_words 29 Length
unfolding rest_of plan_of goes ends item_of slot_of reach rank features
unit-flags v e = record { comes = rw (ne_eqb _ _ e); lies = omega arith; falls = omega arith }

pub ruleset unit_ways = (unit-plain, unit-flags)

module _ (ph : Phase) (v : ℕ) where
  abbrev behind : Phase → Type 0
  behind r = Follows (rest_of ph v) init_words (rank ph + spare (slot_of ph)) r

  pub next-profile : ph ≡ Profile → behind UnitByte
  unfolding rest_of plan_of goes ends item_of slot_of reach rank spare later features
  next-profile e = rw e (record { comes = refl; lies = omega arith; falls = omega arith })

  pub next-no-flags : ph ≡ NoFlags → behind (Schemas false)
  unfolding rest_of plan_of goes ends item_of slot_of reach rank spare later features
  next-no-flags e = rw e (record { comes = refl; lies = omega arith; falls = omega arith })

  pub next-formats : (ph ≡ Formats) ⊎ (ph ≡ NoFormats) → behind Description
  unfolding rest_of plan_of goes ends item_of slot_of reach rank spare later features
  next-formats (inl e) = rw e (record { comes = refl; lies = omega arith; falls = omega arith })
  next-formats (inr e) = rw e (record { comes = refl; lies = omega arith; falls = omega arith })

  pub next-end : (ph ≡ Description) ⊎ (ph ≡ End) → behind End
  unfolding rest_of plan_of goes ends item_of slot_of reach rank spare later features
  next-end (inl e) = rw e (record { comes = refl; lies = omega arith; falls = omega arith })
  next-end (inr e) = rw e (record { comes = refl; lies = omega arith; falls = omega arith })

  pub next-length : ph ≡ Length → behind (Flags v)
  unfolding rest_of plan_of goes ends item_of slot_of reach rank spare later features
  next-length e = rw e (record { comes = refl; lies = omega arith; falls = omega arith })

  pub next-flags : (n : ℕ) → ph ≡ Flags n → behind (Schemas (eqb (v / 8 % 2) 1))
  unfolding rest_of plan_of goes ends item_of slot_of reach rank spare later features
  next-flags n e = rw e (record { comes = refl; lies = omega arith; falls = omega arith })

  pub next-uri : (l : Left) → ph ≡ Uri l → grown ph v ≤ init_words → behind (Hint l)
  unfolding rest_of plan_of goes ends item_of slot_of reach rank spare later features grown
  next-uri l e h = let g : grown (Uri l) v ≤ init_words = rw e at h in rw e (record { comes = refl; lies = omega arith; falls = omega arith })

  pub next-hint : (l : Left) → ph ≡ Hint l → grown ph v ≤ init_words → behind (Codecs l)
  unfolding rest_of plan_of goes ends item_of slot_of reach rank spare later features grown
  next-hint l e h = let g : grown (Hint l) v ≤ init_words = rw e at h in rw e (record { comes = refl; lies = omega arith; falls = omega arith })

  pub next-codec : (l : Left) → ph ≡ Codec l → grown ph v ≤ init_words → behind (Types l)
  unfolding rest_of plan_of goes ends item_of slot_of reach rank spare later features grown
  next-codec l e h = let g : grown (Codec l) v ≤ init_words = rw e at h in rw e (record { comes = refl; lies = omega arith; falls = omega arith })

  pub next-unit : (r : Phase) → ph ≡ UnitByte → Follows (rest_of UnitByte v) init_words 29 r → behind r
  unfolding rest_of plan_of goes ends item_of slot_of reach rank spare later features
  next-unit r e w = rw e (record { comes = w.comes; lies = w.lies; falls = omega (arith, w.falls) })

  pub next-schemas : (f : Bool) (r : Phase) → ph ≡ Schemas f → Follows (later 12 v f) init_words 26 r → behind r
  unfolding rest_of plan_of goes ends item_of slot_of reach rank spare later features
  next-schemas f r e w = rw e (record { comes = w.comes; lies = w.lies; falls = omega (arith, w.falls) })

  pub next-codecs : (l : Left) (r : Phase) → ph ≡ Codecs l → Follows (rest_of (Codecs l) v) init_words (3 * l.schemas + 3) r → behind r
  unfolding rest_of plan_of goes ends item_of slot_of reach rank spare later features
  next-codecs l r e w = rw e (record { comes = w.comes; lies = w.lies; falls = omega (arith, w.falls) })

  pub next-types : (l : Left) (r : Phase) → ph ≡ Types l → Follows (rest_of (Types l) v) init_words (3 * l.schemas + 3) r → behind r
  unfolding rest_of plan_of goes ends item_of slot_of reach rank spare later features
  next-types l r e w = rw e (record { comes = w.comes; lies = w.lies; falls = omega (arith, w.falls) })

  pub next_one : (l : Left) (r : Phase) → ph ≡ OneType l → Follows (rest l) init_words (3 * l.schemas + 3) r → behind r
  unfolding rest_of plan_of goes ends item_of slot_of reach rank spare later features
  next_one l r e w = rw e (record { comes = w.comes; lies = w.lies; falls = omega (arith, w.falls) })

  pub fits-schemas : (f : Bool) → ph ≡ Schemas f → grown ph v ≤ init_words → 12 + 5 * v ≤ init_words
  unfolding grown
  fits-schemas f e h = rw e at h

  pub fits-codecs : (l : Left) → ph ≡ Codecs l → grown ph v ≤ init_words → l.slot + 5 * (l.schemas + 1) ≤ init_words
  unfolding grown reach
  fits-codecs l e h = rw e at h

  pub fits-types : (l : Left) → ph ≡ Types l → grown ph v ≤ init_words → l.slot + 5 * l.schemas ≤ init_words
  unfolding grown reach
  fits-types l e h = rw e at h

  pub fits_one : (l : Left) → ph ≡ OneType l → grown ph v ≤ init_words → l.slot + 5 * l.schemas ≤ init_words
  unfolding grown reach
  fits_one l e h = rw e at h

pub ruleset next_ways = (next-profile, next-no-flags, next-formats, next-end, next-length, next-flags, next-uri, next-hint, next-codec, next-unit, next-schemas, next-codecs, next-types, next_one, fits-schemas, fits-codecs, fits-types, fits_one)
