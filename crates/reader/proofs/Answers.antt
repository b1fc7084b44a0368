-- What an entry promises: its answer, in document 01's numbers, and what it leaves in the lent buffers.
use Prim.Native.Nat.{ℕ, zero, suc, ◌+◌, ◌<◌}
use mathlib.Core.Path.{◌≡◌, refl, ap, ◌∙◌}
use mathlib.Core.List.{List, [], ◌∷◌, ◌++◌, reverse, reverse-cons}
use native.Mathlib.Omega.{arith}
use mathlib.Core.Bool.{true, false}
use lib.ListN.{get_or, replicate}
use Rattle.std.specs.Prelude.{Ok, Err}
use Rattle.numbers.specs.Refused.{number_of}
use Rattle.model.specs.Whole.{lengths_number, mode_number, Reply, declined, declines, outcome, events_left, texts_left}
use Rattle.model.specs.Modes.{lengths_is, mode_is}
use Rattle.model.specs.declared.Lengths.{Lengths}
use Rattle.model.specs.declared.Lengths.TheVariants.{Never, Optional, Always}
use Rattle.model.specs.declared.Mode.{Mode}
use Rattle.reader_parts.specs.Paths.{back, names_of}
use Rattle.reader_parts.specs.declared.Cursor.{Cursor}
use Rattle.reader_parts.specs.declared.Path.{Path}
use Rattle.reader.specs.declared.Reading.{Reading}
use Rattle.reader.specs.declared.Refused.{Refused}
use Rattle.reader.specs.Answers.{Answer, first_names, path_is, answer_is, Replies, told}

-- the meaning's path, the innermost first, turned round
pub path-outward : (p : Path) → reverse (names_of p) ≡ path_is p
unfolding names_of back first_names
path-outward p = go p.names p.count
  where
    go : (l : List ℕ) (n : ℕ) → reverse (back l n) ≡ first_names l n
    go l zero = refl
    go l (suc n) = reverse-cons (get_or l n 0) (back l n) ∙ ap (λ (x : List ℕ). x ++ (get_or l n 0 ∷ [])) (go l n)

pub no-path : (p : Path) → p.count ≡ 0 → path_is p ≡ []
unfolding first_names
no-path p z = rw z

-- a refusal, with both buffers zero
pub declined-replies : (R : Reply) (words bytes n p : ℕ) (π : List ℕ) (r : Answer) (E T : List ℕ) → R ≡ declined n p π → answer_is r ≡ declines n p π
    → E ≡ replicate words 0 → T ≡ replicate bytes 0 → Replies R words bytes r E T
unfolding outcome events_left texts_left
declined-replies R words bytes n p π r E T e a x y = record { answer = rw e a; events_left_lem = rw e x; texts_left_lem = rw e y }

-- the number of a length coding, case by case
module _ (lengths : Lengths) where
  pub number-never : lengths ≡ Never → 0 ≡ lengths_number (lengths_is lengths)
  unfolding lengths_number lengths_is
  number-never e = rw e

  pub number-optional : lengths ≡ Optional → 1 ≡ lengths_number (lengths_is lengths)
  unfolding lengths_number lengths_is
  number-optional e = rw e

  pub number-always : lengths ≡ Always → 2 ≡ lengths_number (lengths_is lengths)
  unfolding lengths_number lengths_is
  number-always e = rw e

pub ruleset lengths_ways = (number-never, number-optional, number-always)

-- the mode's, by whether type codes are sent
few : (l : Lengths) → lengths_number (lengths_is l) < 3
unfolding lengths_number lengths_is
few Never = omega arith
few Optional = omega arith
few Always = omega arith

module _ (mode : Mode) (n : ℕ) (e : n ≡ lengths_number (lengths_is mode.lengths)) where
  pub number_fits : n + 4 < 4294967296
  number_fits = omega (arith, few mode.lengths)

  pub number-casting : (m : ℕ) → mode.choices.derived ≡ true → m ≡ n + 4 → m ≡ mode_number (mode_is mode)
  unfolding mode_number
  number-casting m h g = rw (g, h, e)

  pub number-plain : mode.choices.derived ≡ false → n ≡ mode_number (mode_is mode)
  unfolding mode_number
  number-plain h = rw h (omega (arith, e))

pub ruleset number_ways = (number_fits, number-casting, number-plain)

-- an acceptance, field by field
pub told_all : (mode : Mode) (c : Cursor) (r : Reading) → r.mode ≡ mode_number (mode_is mode) → r.events ≡ c.count → r.text.0 ≡ c.used → r.bits.0 ≡ c.at.0 → answer_is (Ok r) ≡ told mode c
told_all mode c r m e t b = λ i. record { number = 0; place = 0; mode = m i; events = e i; text = t i; bits = b i; path = [] }

-- a refusal
pub refused-nowhere : (r : Refused) → r.path.count ≡ 0 → answer_is (Err r) ≡ declines (number_of r.fault.why) r.fault.at []
refused-nowhere r z = ap (λ (π : List ℕ). declines (number_of r.fault.why) r.fault.at π) (no-path r.path z)
