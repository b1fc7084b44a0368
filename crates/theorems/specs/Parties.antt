-- WHAT PARTIES SEE OF ONE ANOTHER, over words: a party's readings and writings go by its own marks alone, and a setting changes one mark alone.
use Rattle.std.specs.Prelude.{ℕ, ◌<◌, ◌≡◌, List, [], ◌∷◌, not, eqb, length}
use Rattle.table.specs.Words.{type_at, word_at, types_in}
use Rattle.table.specs.Rows.{held_of}
use Rattle.table.specs.Held.{Alike, Marks}
use Rattle.table.specs.Setting.{Change, setting, settings}
use Rattle.model.specs.Whole.{reading, writing}

-- two lists of words that differ in held words alone, all of them at most most_held, and agree in this party's bit of each
pub record OneBit (party : ℕ) (l l' : List ℕ) : Type 0 where
  pub long : length l ≡ length l'
  pub alike : Alike l l'
  pub first_marks : Marks l
  pub second_marks : Marks l'
  pub same : (t : ℕ) → t < types_in l → held_of l party t ≡ held_of l' party t

-- whichever of the two the party is given, every reading and every writing answers the same
pub record Unmoved (party : ℕ) (l l' : List ℕ) : Type 0 where
  pub reads : (name type : ℕ) (s : List ℕ) (words bytes : ℕ) → reading l party name type s words bytes ≡ reading l' party name type s words bytes
  pub writes : (name type mode : ℕ) (L X : List ℕ) (room : ℕ) → writing l party name type mode L X room ≡ writing l' party name type mode L X room

-- settings each by a party other than this one
abbrev pub ByOthers : (party : ℕ) → List Change → Type 0
ByOthers party [] = Unit {0}
ByOthers party (c ∷ S) = (c.party ≡ party → ⊥) × ByOthers party S

-- what an accepted setting of the words l leaves: its own mark as it was set; every other mark of anybody, and every other word, as it was
pub record Sets (l : List ℕ) (party type mark : ℕ) (l' : List ℕ) : Type 0 where
  pub own : held_of l' party type ≡ not (eqb mark 0)
  pub others : (q t : ℕ) → ((q ≡ party) × (t ≡ type) → ⊥) → held_of l' q t ≡ held_of l q t
  pub words : (i : ℕ) → (i ≡ type_at type → ⊥) → word_at l' i ≡ word_at l i
  pub long : length l' ≡ length l

-- proofs/Parties.antt has the theorem `parties-apart`
pub record Parties : Type 0 where
  pub by_one_bit : (party : ℕ) (l l' : List ℕ) → OneBit party l l' → Unmoved party l l'
  -- settings that are refused, and lists of words that are no table, included
  pub others : (party : ℕ) (l : List ℕ) (S : List Change) → ByOthers party S → Unmoved party l (settings l S)
  pub own : (l : List ℕ) (party type mark : ℕ) → (setting l party type mark).number ≡ 0 → Sets l party type mark (setting l party type mark).words
  -- settings of different marks, accepted or not
  pub commute : (l : List ℕ) (c d : Change) → ((c.party ≡ d.party) × (c.type ≡ d.type) → ⊥) → settings l (c ∷ d ∷ []) ≡ settings l (d ∷ c ∷ [])
