-- What the functions that make blocks of a stream ask and answer, whether it lies in a stream or in a file.
use Rattle.std.specs.Prelude.{◌≡◌, ℕ, ◌+◌, ◌*◌, ◌≤◌}
use Rattle.numbers.specs.Limit.{block_data}
use Rattle.shelf.specs.Answers.{Walk, Over, To}
use Rattle.shelf.specs.Stream.{walk}

-- one walk after another
unfoldable pub walk_on : (ℕ → ℕ) → (end : ℕ) → Walk → Walk
walk_on b end (Over p) = Over p
walk_on b end (To p c) = walk b end p c

-- following the records of a stream up to block i came to w
pub record Fewer (w : Walk) : Type 0 where
  pub most : (p c : ℕ) → w ≡ To p c → c ≤ p

pub record Followed (i : ℕ) (w : Walk) : Type 0 where
  pub past : (p c : ℕ) → w ≡ To p c → block_data * i ≤ p + 1
  pub fewer : Fewer w
