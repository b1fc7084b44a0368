-- Number codes of 001, 4.3: vluimsbf5 and vluimsbf8. A reading tells value, place past it, and whether it was in shortest form; a
-- strict reading above it asks for that. And the shortest codes, as bits.
use Rattle.std.specs.Prelude.{ℕ, zero, suc, ◌+◌, ◌-◌, ◌*◌, ◌/◌, ◌%◌, ◌^◌, Bool, true, false, cond, List, ◌∷◌, ◌++◌, replicate, ltb, eqb}
use Rattle.numbers.specs.Refusal.{past_end, not_shortest, too_large}
use Rattle.wire.specs.Res.{Res, got, fault, ◌>>=◌}
use Rattle.wire.specs.Bits.{fixed_at, digits}

-- the ones up to a zero, of which k have been read, and the place past the zero; too large where there are f more
unfoldable pub ones_at : ℕ → (ℕ → ℕ) → ℕ → ℕ → ℕ → Res (ℕ × ℕ)
ones_at zero b wall at k = fault too_large
ones_at (suc f) b wall at k = cond (ltb at wall) (cond (eqb (b at) 0) (got (k, at + 1)) (ones_at f b wall (at + 1) (k + 1))) (fault past_end)

-- of the n + 1 groups that are v the first is not 0, unless it is the only one
unfoldable pub is_short : ℕ → ℕ → Bool
is_short zero v = true
is_short (suc n) v = cond (eqb (v / 2 ^ (4 * suc n)) 0) false true

-- what follows n ones and the zero: n + 1 groups of four bits
unfoldable pub groups_at : (ℕ → ℕ) → ℕ → ℕ → ℕ → Res (ℕ × ℕ × Bool)
groups_at b wall n at = fixed_at b wall at (4 * (n + 1)) >>= λ r. got (r.0, r.1, is_short n r.0)

-- vluimsbf5 of at most 8 groups
unfoldable pub number5 : (ℕ → ℕ) → ℕ → ℕ → Res (ℕ × ℕ × Bool)
number5 b wall at = ones_at 8 b wall at 0 >>= λ r. groups_at b wall r.0 r.1

-- the second byte of a vluimsbf8, after seven bits that are x; its top bit set is too large
unfoldable pub second8_at : (ℕ → ℕ) → ℕ → ℕ → ℕ → Res (ℕ × ℕ × Bool)
second8_at b wall x at = fixed_at b wall at 8 >>= λ r. cond (ltb r.0 128) (got (x * 128 + r.0, r.1, cond (eqb x 0) false true)) (fault too_large)

-- vluimsbf8 of at most 2 bytes
unfoldable pub number8 : (ℕ → ℕ) → ℕ → ℕ → Res (ℕ × ℕ × Bool)
number8 b wall at = fixed_at b wall at 8 >>= λ r. cond (ltb r.0 128) (got (r.0, r.1, true)) (second8_at b wall (r.0 - 128) r.1)

-- both must be in shortest form
unfoldable pub strict : Res (ℕ × ℕ × Bool) → Res (ℕ × ℕ)
strict m = m >>= λ r. cond r.2 (got (r.0, r.1)) (fault not_shortest)

unfoldable pub read5 : (ℕ → ℕ) → ℕ → ℕ → Res (ℕ × ℕ)
read5 b wall at = strict (number5 b wall at)

unfoldable pub read8 : (ℕ → ℕ) → ℕ → ℕ → Res (ℕ × ℕ)
read8 b wall at = strict (number8 b wall at)

-- how many groups of four bits v needs besides the first, at most f
unfoldable pub more : ℕ → ℕ → ℕ
more zero v = 0
more (suc f) v = cond (ltb v 16) 0 (suc (more f (v / 16)))

-- n ones, a zero, n + 1 groups; the shortest
unfoldable pub code_of5 : ℕ → ℕ → List ℕ
code_of5 n v = replicate n 1 ++ (0 ∷ digits (4 * (n + 1)) v)

unfoldable pub code5 : ℕ → List ℕ
code5 v = code_of5 (more 7 v) v

unfoldable pub code8 : ℕ → List ℕ
code8 v = cond (ltb v 128) (digits 8 v) (digits 8 (128 + v / 128) ++ digits 8 (v % 128))
