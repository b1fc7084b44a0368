-- The codes of items and of heads: what each may be (a value, its text bytes, its bits) and its reading. This module alone knows
-- which code an item has; grammar, reader and writer go by its names and, in ItemLaws, its laws.
use Rattle.std.specs.Prelude.{ℕ, zero, suc, ◌+◌, ◌-◌, ◌^◌, ◌<◌, ◌≤◌, ◌≡◌, Bool, true, false, List, [], ◌++◌, length}
use Rattle.numbers.specs.Refusal as refusal
use Rattle.wire.specs.Res.{Res, got, ◌>>=◌, ◌>>◌, at_most}
use Rattle.wire.specs.Number.{number5, code_of5}
use Rattle.value.specs.Code.{Code, choice, five, HasCode, bits_of, code_at}
use Rattle.value.specs.Simple.{Simple, plain, times_code, one_of, simple_of, simple_at, SimpleIs}
use Rattle.model.specs.Model.{Item, Types, default_type, effective_type}
use Rattle.model.specs.Model.Item.{required, valued, picked, counted}

-- length_coding_mode (001, 8.3.2.2, Table 8): 00 not coded, 01 optionally coded, 10 always coded
pub data Lengths : Type 0 where
  never optional always : Lengths

-- the mode of a payload: length coding, and has_type_casting, whether type codes are sent
pub record Mode : Type 0 where
  pub lengths : Lengths
  pub casting : Bool

abbrev pub flag : Code
flag = choice 2

-- TheLength as it is written: the shortest vluimsbf5
abbrev pub the_length : Code
the_length = five (2 ^ 32 - 1)

-- always 1, in no bits; or a simple value
pub data Form : Type 0 where
  present : Form
  simply : Simple → Form

unfoldable pub form_of : Item → Form
form_of (required name) = present
form_of (Item.optional name) = simply (plain flag)
form_of (valued kind b c) = simply (simple_of kind b c)
form_of (picked n) = simply (plain (choice n))
form_of (counted least most) = simply (plain (times_code least most))

pub data FormIs : Form → ℕ → List ℕ → List ℕ → Type 0 where
  is_present : FormIs present 1 [] []
  is_simple : {s : Simple} {v : ℕ} {ts w : List ℕ} → SimpleIs s v ts w → FormIs (simply s) v ts w

-- an item's value, its text bytes, its bits
abbrev pub ItemIs : Item → ℕ → List ℕ → List ℕ → Type 0
ItemIs i v ts w = FormIs (form_of i) v ts w

-- an element's length: not coded, or coded; what it says of what is inside
pub data Length : Type 0 where
  free : Length
  long : ℕ → Length

abbrev pub coded : Length → Bool
coded free = false
coded (long n) = true

abbrev pub Measures : Length → ℕ → Type 0
Measures free k = Unit
Measures (long n) k = n ≡ k

-- TheLength may be padded (001, 4.3, asks for no shortest form): any number of groups up to 8 that holds it; the ones before them are one fewer
pub record InGroups (ones n : ℕ) : Type 0 where
  pub few : ones ≤ 7
  pub holds : n < 16 ^ suc ones

-- a head (the first lines of 001, 8.4.2.1), the length, the bits of LengthFlag and TheLength
pub data HeadIs : Lengths → Length → List ℕ → Type 0 where
  no_head : HeadIs never free []
  flag_off : HeadIs optional free (bits_of flag 0)
  flag_on : {n : ℕ} (ones : ℕ) → InGroups ones n → HeadIs optional (long n) (bits_of flag 1 ++ code_of5 ones n)
  head_on : {n : ℕ} (ones : ℕ) → InGroups ones n → HeadIs always (long n) (code_of5 ones n)

-- the codes behind it, SubstitutionCode (001, 7.6.5.3) and PayloadTypeCode (8.4.5): which substitute, and which derived type of the type that it then has
unfoldable pub substitute_code : Types → Code
substitute_code y = one_of (length y.substitutes)

unfoldable pub type_code : Types → ℕ → Code
type_code y k = one_of (length (y.derived (default_type y k)))

-- the effective type, the substitute (from 1, or 0), the bits of both
pub data CodesAre (y : Types) : ℕ → ℕ → List ℕ → Type 0 where
  both : {k : ℕ} (j : ℕ) → HasCode (substitute_code y) k → HasCode (type_code y k) j
      → CodesAre y (effective_type y k j) k (bits_of (substitute_code y) k ++ bits_of (type_code y k) j)

-- reading: a value, its text bytes, the place past it
unfoldable pub form_at : Form → (ℕ → ℕ) → ℕ → ℕ → Res (ℕ × List ℕ × ℕ)
form_at present b wall at = got (1, [], at)
form_at (simply s) b wall at = simple_at s b wall at

unfoldable pub item_at : Item → (ℕ → ℕ) → ℕ → ℕ → Res (ℕ × List ℕ × ℕ)
item_at i b wall at = form_at (form_of i) b wall at

-- a head that was read: the place past it and, with a length, where the element ends
pub data Head : Type 0 where
  bare : (body : ℕ) → Head
  sized : (body end : ℕ) → Head

-- after the flag, where there is one: TheLength, in shortest form or not, which counts the bits after itself (001, 8.4.2.2) and does not pass the wall
unfoldable pub length_at : ℕ → (ℕ → ℕ) → ℕ → ℕ → Res Head
length_at zero b wall at = got (bare at)
length_at (suc k) b wall at = do
  (n, p, short) ← number5 b wall at
  at_most (p + n) wall refusal.length
  got (sized p (p + n))

unfoldable pub head_at : Lengths → (ℕ → ℕ) → ℕ → ℕ → Res Head
head_at never b wall at = got (bare at)
head_at optional b wall at = do
  (f, p) ← code_at flag b wall at
  length_at f b wall p
head_at always b wall at = length_at 1 b wall at

-- effective type, substitute, the place past the codes
unfoldable pub codes_at : Types → (ℕ → ℕ) → ℕ → ℕ → Res (ℕ × ℕ × ℕ)
codes_at y b wall at = do
  (k, p) ← code_at (substitute_code y) b wall at
  (j, q) ← code_at (type_code y k) b wall p
  got (effective_type y k j, k, q)
