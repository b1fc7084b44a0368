-- What two outcomes of a call share that its promise allows.
use Rattle.std.specs.Prelude.{ℕ, ◌≡◌, List}
use Rattle.reader.specs.Answers as reads
use Rattle.writer.specs.Answers as writes

-- reader::read
pub record SameReply (r r' : reads.Answer) (E E' T T' : List ℕ) : Type 0 where
  pub answer : reads.answer_is r ≡ reads.answer_is r'
  pub events : E ≡ E'
  pub texts : T ≡ T'

-- writer::write
pub record SameWritten (r r' : writes.Answer) (P P' : List ℕ) : Type 0 where
  pub answer : r ≡ r'
  pub payload : P ≡ P'

-- the calls for C: number, area and each output buffer
pub record SameBack (n n' : ℕ) (A A' : List ℕ) (B B' : List (List ℕ)) : Type 0 where
  pub number : n ≡ n'
  pub area : A ≡ A'
  pub buffers : B ≡ B'
