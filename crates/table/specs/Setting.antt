-- SETTING A MARK: number, place and words, for every list of words.
use Rattle.std.specs.Prelude.{ℕ, ◌+◌, ◌-◌, ◌*◌, ◌/◌, ◌%◌, ◌^◌, List, [], ◌∷◌, cond, eqb, ltb, set}
use Rattle.numbers.specs.Limit.{parties}
use Rattle.numbers.specs.Refusal as refusal
use Rattle.table.specs.First.{Verdict}
use Rattle.table.specs.First.Verdict.{right, wrong}
use Rattle.table.specs.Valid.{verdict}
use Rattle.table.specs.Words.{type_at, word_at, types_in}

-- bit p of a word: by the mark 0 it is cleared, by any other set
unfoldable pub marked : (p mark w : ℕ) → ℕ
marked p mark w = w - w / 2 ^ p % 2 * 2 ^ p + cond (eqb mark 0) 0 (2 ^ p)

pub record Setting : Type 0 where
  pub number : ℕ
  pub place : ℕ
  pub words : List ℕ

module _ (l : List ℕ) (party type mark : ℕ) where
  -- a refusal leaves the words as they were
  abbrev pub refuses : ℕ → ℕ → Setting
  refuses n i = record { number = n; place = i; words = l }

  abbrev pub accepts : Setting
  accepts =
      record { number = refusal.accepted; place = 0; words = set l (type_at type) (marked party mark (word_at l (type_at type))) }

  -- the table, the type, the party
  unfoldable pub setting_by : Verdict → Setting
  setting_by (wrong i) = refuses refusal.table i
  setting_by right = cond (ltb type (types_in l)) (cond (ltb party parties) accepts (refuses refusal.party 0)) (refuses refusal.root 0)

unfoldable pub setting : (l : List ℕ) (party type mark : ℕ) → Setting
setting l party type mark = setting_by l party type mark (verdict l)

-- settings one after another: each by a party, of a type
pub record Change : Type 0 where
  pub party : ℕ
  pub type : ℕ
  pub mark : ℕ

abbrev pub change : ℕ → ℕ → ℕ → Change
change party type mark = record { party = party; type = type; mark = mark }

unfoldable pub settings : List ℕ → List Change → List ℕ
settings l [] = l
settings l (c ∷ S) = settings (setting l c.party c.type c.mark).words S
