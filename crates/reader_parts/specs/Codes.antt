-- An element's codes as the meanings have them.
use Rattle.std.specs.Prelude.{ℕ, ◌≡◌, Bool, true, cond, List, ltb, length, Result, Ok, Err}
use Rattle.wire.specs.Res.{Res, got, fault, ◌>>=◌}
use Rattle.value.specs.Code.{code_at}
use Rattle.value.specs.Simple.{one_of}
use Rattle.table.specs.Views.{Listed}
use Rattle.table.specs.declared.answers.TypeList.{TypeList}
use Rattle.model.specs.Model.{Types, chosen, codes}
use Rattle.model.specs.Items.{codes_at}
use Rattle.model.specs.Read.{cast_at}
use Rattle.numbers.specs.Refused.{number_of}
use Rattle.numbers.specs.declared.refusal.Refusal.{Refusal}
use Rattle.wire.specs.declared.Bits.{Bits}
use Rattle.reader_parts.specs.Out.{Step, room_of, step_view, outcome}
use Rattle.reader_parts.specs.declared.Cast.{Cast}
use Rattle.reader_parts.specs.declared.Cursor.{Cursor}

-- a type, its number in the list, the place past its code
abbrev pub Picked : Type 0
Picked = Result (ℕ × ℕ × Bits) Refusal

unfoldable pub pick_is : Picked → Res (ℕ × ℕ × ℕ)
pick_is (Ok (t, k, next)) = got (t, k, next.0)
pick_is (Err e) = fault (number_of e)

-- one of the types of a list, in the place of an own one
unfoldable pub pick_at : (own : ℕ) → (types : List ℕ) → (ℕ → ℕ) → ℕ → ℕ → Res (ℕ × ℕ × ℕ)
pick_at own types b wall at = do
  (k, p) ← code_at (one_of (length types)) b wall at
  got (chosen own types k, k, p)

-- l are the table's words, in which the types of the list stand
pub record Picks (l : List ℕ) (b : ℕ → ℕ) (wall at own : ℕ) (list : TypeList) (r : Picked) : Type 0 where
  pub says : (types : List ℕ) → Listed l types list → pick_is r ≡ pick_at own types b wall at

-- whether a flag bit is sent, by how many there are to choose from
abbrev pub sends_of : ℕ → ℕ → Bool
sends_of swaps casts = cond (ltb 0 swaps) true (ltb 0 casts)

-- what an element's codes say
abbrev pub Coded : Type 0
Coded = Result Cast Refusal

unfoldable pub coded_is : Coded → Res (ℕ × ℕ × ℕ)
coded_is (Ok x) = got (x.effective, x.substitute, x.next.0)
coded_is (Err e) = fault (number_of e)

abbrev pub Sent : Types → Coded → Type 0
Sent y (Ok x) = x.sent ≡ codes y
Sent y (Err e) = Unit {0}

-- what an element's codes say, and whether a flag bit was sent
pub record Says (y : Types) (b : ℕ → ℕ) (wall at : ℕ) (r : Coded) : Type 0 where
  pub says : coded_is r ≡ codes_at y b wall at
  pub sent : Sent y r

-- the event of an element's codes, where a flag bit was sent, with no text
pub record Tells (x : Cast) (c : Cursor) (E : List ℕ) (s : Step) (E' : List ℕ) : Type 0 where
  pub says : (T π : List ℕ) → step_view s π E' T
      ≡ outcome (cast_at x.sent x.effective x.substitute (room_of E T c) π c.at.0 x.next.0) c π E T
