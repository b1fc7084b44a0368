-- What the code answers, as the meanings' results.
use Rattle.std.specs.Prelude.{ℕ, Bool, true, false, Result, Ok, Err}
use Rattle.numbers.specs.declared.refusal.Refusal.{Refusal}
use Rattle.numbers.specs.Refused.{number_of}
use Rattle.wire.specs.Res.{Res, got, fault}
use Rattle.init.specs.declared.items.Words.{Words}
use Rattle.init.specs.declared.items.Words.TheVariants as words
use Rattle.init.specs.declared.items.Found.{Found}

-- a number and the place past it
unfoldable pub number_is : Result (ℕ × ℕ) Refusal → Res (ℕ × ℕ)
number_is (Ok r) = got r
number_is (Err e) = fault (number_of e)

unfoldable pub found_is : Result Found Refusal → Res (ℕ × ℕ × ℕ)
found_is (Ok f) = got (f.number, f.content, f.end)
found_is (Err e) = fault (number_of e)

-- the number itself; 0 for a refusal
unfoldable pub number_in : Result (ℕ × ℕ) Refusal → ℕ
number_in (Ok r) = r.0
number_in (Err e) = 0

unfoldable pub found_in : Result Found Refusal → ℕ
found_in (Ok f) = f.number
found_in (Err e) = 0

abbrev pub told : Bool → ℕ → ℕ → Words
told true one other = words.Two one other
told false one other = words.One one
