-- For n choices the width is the least w with 2^w at least n, so one choice takes no bits.
use Rattle.std.specs.Prelude.{ℕ, zero, suc, ◌^◌, cond, leb}

-- the first w, of f from here on, with n at most 2^w
unfoldable pub least_from : ℕ → ℕ → ℕ → ℕ
least_from zero w n = w
least_from (suc f) w n = cond (leb n (2 ^ w)) w (least_from f (suc w) n)

unfoldable pub width : ℕ → ℕ
width n = least_from n 0 n
