-- The enums that the code answers, as the meanings' results: document 01's number for each refusal, value and place for each value.
use Rattle.std.specs.Prelude.{ℕ, ◌≡◌, Bool, cond, leb}
use Rattle.numbers.specs.Refusal.{too_large}
use Rattle.std.specs.Prelude.{Result, Ok, Err}
use Rattle.numbers.specs.declared.refusal.Refusal.{Refusal}
use Rattle.numbers.specs.Refused.{number_of}
use Rattle.wire.specs.declared.Bits.{Bits}
use Rattle.wire.specs.declared.Number.{Number}
use Rattle.wire.specs.Res.{Res, got, fault}
use Rattle.wire.specs.Bits.{fixed_at}

-- what a function answers that reads a code, and one that reads a number
abbrev pub Read : Type 0
Read = Result (ℕ × Bits) Refusal

abbrev pub Numbered : Type 0
Numbered = Result Number Refusal

-- the same of who tells a refusal by something that has a number, and that is made of a refusal's name
abbrev pub Tells : {E : Type 0} → (E → ℕ) → (Refusal → E → Type 0) → Type 0
Tells {E} number made = (why : Refusal) (e : E) → made why e → number e ≡ number_of why

unfoldable pub read_by : {E : Type 0} → (E → ℕ) → Result (ℕ × Bits) E → Res (ℕ × ℕ)
read_by number (Ok (v, p)) = got (v, p.0)
read_by number (Err e) = fault (number e)

unfoldable pub number_by : {E : Type 0} → (E → ℕ) → Result Number E → Res (ℕ × ℕ × Bool)
number_by number (Ok n) = got (n.value, n.next.0, n.short)
number_by number (Err e) = fault (number e)

unfoldable pub read_is : Read → Res (ℕ × ℕ)
read_is (Ok (v, p)) = got (v, p.0)
read_is (Err e) = fault (number_of e)

unfoldable pub number_is : Numbered → Res (ℕ × ℕ × Bool)
number_is (Ok n) = got (n.value, n.next.0, n.short)
number_is (Err e) = fault (number_of e)

-- a fixed width that a word holds; a wider one is too large
unfoldable pub fixed32 : (ℕ → ℕ) → ℕ → ℕ → ℕ → Res (ℕ × ℕ)
fixed32 b wall at w = cond (leb w 32) (fixed_at b wall at w) (fault too_large)
