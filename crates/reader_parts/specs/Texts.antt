-- A text moved out of a payload and judged; and a value that was read, stored.
use Rattle.std.specs.Prelude.{ℕ, ◌+◌, ◌-◌, ◌≤◌, ◌≡◌, Bool, true, List, length}
use Rattle.std.proofs.lemmas.List.Edits.{sets}
use Rattle.numbers.specs.Kind as kinds
use Rattle.wire.specs.Res.{Res}
use Rattle.wire.specs.Bits.{bit_at}
use Rattle.utf8.specs.Text.{text_fault}
use Rattle.utf8.specs.Slanted.{octets_at, Printable}
use Rattle.value.specs.Simple.{bytes_at}
use Rattle.model.specs.Model.{event}
use Rattle.model.specs.Read.{code, stored}
use Rattle.reader_parts.specs.declared.Cursor.{Cursor}
use Rattle.reader_parts.specs.Out.{Step, room_of, step_view, outcome}

-- of the texts T came T', with the n octets from bit k of byte i on; where `plain` says so all are printable
pub record Moves (s : List ℕ) (k i n : ℕ) (T : List ℕ) (used : ℕ) (T' : List ℕ) (plain : Bool) : Type 0 where
  pub laid : T' ≡ sets T used (octets_at s k i n)
  pub printable : plain ≡ true → Printable s k i (i + n)

-- where n bytes have room they are laid; where `fine` says so nothing is wrong with them
pub record Copies (s : List ℕ) (from n : ℕ) (T : List ℕ) (used : ℕ) (T' : List ℕ) (fine : Bool) : Type 0 where
  pub laid : n ≤ length T - used → T' ≡ sets T used (bytes_at (bit_at s) from n)
  pub judged : fine ≡ true → text_fault (bytes_at (bit_at s) from n) ≡ 0

-- a value's words, its text and the place past it, or a refusal: what the reading of a value does with them
pub record Follows (m : Res (ℕ × ℕ × List ℕ × ℕ)) (c : Cursor) (E T : List ℕ) (s : Step) (E' T' : List ℕ) : Type 0 where
  pub says : (π : List ℕ) → step_view s π E' T'
      ≡ outcome (code m π c.at.0 (λ (v, w, ts, q). stored (room_of E T c) π c.at.0 (event kinds.value v w (q - c.at.0)) ts q)) c π E T
