-- The code of a simple kind that is a number.
use Rattle.std.specs.Prelude.{ℕ, ◌≡◌}
use Rattle.wire.specs.Answer.{Read, read_is}
use Rattle.value.specs.Code.{Code, shifted, code_at}
use Rattle.value.specs.Simple.{Simple, plain, text, dated, nothing, simple_of}

-- the code of a kind that is a number
unfoldable pub plainly : Simple → Code
plainly (plain c) = c
plainly text = nothing
plainly (dated c) = nothing

unfoldable pub kind_code : ℕ → ℕ → ℕ → Code
kind_code kind b c = plainly (simple_of kind b c)

-- t is what r is, from lo on, whatever the code
pub record Raises (lo : ℕ) (r t : Read) : Type 0 where
  pub says : (c : Code) (b : ℕ → ℕ) (wall at : ℕ) → read_is r ≡ code_at c b wall at → read_is t ≡ code_at (shifted lo c) b wall at
