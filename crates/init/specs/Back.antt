-- What the operations give back: the answer, and the final content of each buffer that they write.
use Rattle.std.specs.Prelude.{ℕ, ◌-◌, ◌*◌, ◌≡◌, cond, List, ◌++◌, ltb, length, set, replicate, Result, Ok, Err}
use Rattle.buffers.specs.Bytes.{bytes_of}
use Rattle.numbers.specs.Refusal.{accepted, left_over}
use Rattle.numbers.specs.Limit.{init_words}
use Rattle.numbers.specs.declared.refusal.Fault.{Fault}
use Rattle.numbers.specs.Refused.{number_of}
use Rattle.init.specs.Read.{Reading}
use Rattle.init.specs.Read.Reading.{given, refused}

-- number, place in bits, words of codecs; the words of init, and codecs' bytes
pub record Back : Type 0 where
  pub number : ℕ
  pub place : ℕ
  pub count : ℕ
  pub init : List ℕ
  pub codecs : List ℕ

abbrev pub back : (number place count : ℕ) (init codecs : List ℕ) → Back
back number place count init codecs = record { number = number; place = place; count = count; init = init; codecs = codecs }

-- what an operation answers: how much there is, of words of codecs read or of bytes of a message written; or a refusal at a place
abbrev pub Answer : Type 0
Answer = Result ℕ (Fault ℕ)

unfoldable pub number_in : Answer → ℕ
number_in (Ok n) = accepted
number_in (Err f) = number_of f.why

unfoldable pub place_in : Answer → ℕ
place_in (Ok n) = 0
place_in (Err f) = f.at

unfoldable pub count_in : Answer → ℕ
count_in (Ok n) = n
count_in (Err f) = 0

abbrev pub back_is : Answer → (init codecs : List ℕ) → Back
back_is a init codecs = back (number_in a) (place_in a) (count_in a) init codecs

-- what is read is at the front of codecs, and zeros behind; on a refusal all is zero
unfoldable pub read_back : (bytes : ℕ) → Reading → Back
read_back n (given init codecs at) = back accepted 0 (length codecs) init (bytes_of codecs ++ replicate (n - 4 * length codecs) 0)
read_back n (refused e at) = back e (8 * at) 0 (replicate init_words 0) (replicate n 0)

-- the end of the items of a message of so many bytes, at a place
unfoldable pub Finished : (bytes at used : ℕ) (init codecs : List ℕ) → Back → Type 0
Finished bytes at used init codecs r =
    r ≡ cond (ltb at bytes) (read_back (length codecs) (refused left_over at)) (back accepted 0 used (set init 7 used) codecs)

-- both buffers are zeros
pub record Zeros (codecs init : List ℕ) : Type 0 where
  pub listed : codecs ≡ replicate (length codecs) 0
  pub said : init ≡ replicate init_words 0
