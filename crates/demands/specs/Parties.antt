-- WHAT PARTIES SEE OF ONE ANOTHER, over the bytes of the calls: after settings by others a party's calls give back what they gave before; an accepted setting
-- changes its own mark alone. proofs/Parties.antt has the theorem `parties-by-calls`.
use Rattle.std.specs.Prelude.{ℕ, ◌+◌, ◌*◌, ◌≡◌, List, [], ◌∷◌, map, length, get_or}
use Rattle.table.specs.Words.{type_at}
use Rattle.table.specs.Setting.{Change}
use Rattle.buffers.specs.Bytes.{words_of}
use Rattle.theorems.specs.Parties.{ByOthers, Sets}
use Rattle.call_parts.specs.Calls.{Back, read_call, write_call, set_call}

-- a call of bim_set_held: what it sets, and the bytes of the area that it is given
pub record Call : Type 0 where
  pub change : Change
  pub area : ℕ

abbrev pub answer : List ℕ → Call → Back
answer t c = set_call t c.change.party c.change.type c.change.mark c.area

-- the table that a call leaves; and what calls leave, one after another
abbrev pub left_by : List ℕ → Call → List ℕ
left_by t c = get_or (answer t c).buffers 0 []

unfoldable pub tables_left : List ℕ → List Call → List ℕ
tables_left t [] = t
tables_left t (c ∷ S) = tables_left (left_by t c) S

-- one byte is another, the lowest of the type's held word: by the words that are left, whose mark that is (`Sets`)
pub record OneByte (t : List ℕ) (c : Change) (t' : List ℕ) : Type 0 where
  pub bytes : (i : ℕ) → (i ≡ 4 * type_at c.type + 3 → ⊥) → get_or t' i 0 ≡ get_or t i 0
  pub sets : Sets (words_of t) c.party c.type c.mark (words_of t')

pub record PartiesByCalls : Type 0 where
  pub long : (t : List ℕ) (c : Call) → length (left_by t c) ≡ length t
  -- settings that are refused, areas of another size and tables that are malformed, included
  pub others-read : (party : ℕ) (t : List ℕ) (S : List Call) → ByOthers party (map (λ c. c.change) S) → (name type : ℕ) (s : List ℕ) (e x area : ℕ)
      → read_call (tables_left t S) party name type s e x area ≡ read_call t party name type s e x area
  pub others-write : (party : ℕ) (t : List ℕ) (S : List Call) → ByOthers party (map (λ c. c.change) S) → (name type mode : ℕ) (E X : List ℕ) (room area : ℕ)
      → write_call (tables_left t S) party name type mode E X room area ≡ write_call t party name type mode E X room area
  -- a setting that is accepted, and one that is not
  pub own : (t : List ℕ) (c : Call) → (answer t c).number ≡ 0 → OneByte t c.change (left_by t c)
  pub refused : (t : List ℕ) (c : Call) → ((answer t c).number ≡ 0 → ⊥) → left_by t c ≡ t
  -- calls for different marks, accepted or not
  pub commute : (t : List ℕ) (c d : Call) → ((c.change.party ≡ d.change.party) × (c.change.type ≡ d.change.type) → ⊥)
      → tables_left t (c ∷ d ∷ []) ≡ tables_left t (d ∷ c ∷ [])
