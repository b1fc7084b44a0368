-- What the functions answer, and what of each the definitions have: the numbers of the interface where something is refused.
use Rattle.std.specs.Prelude.{ℕ, Option, Some, None, Result, Ok, Err}
use Rattle.numbers.specs.declared.refusal.Refusal.{Refusal}
use Rattle.numbers.specs.declared.refusal.Fault.{Fault}
use Rattle.numbers.specs.Refused.{number_of}
use Rattle.shelf.specs.declared.answers.Reached.{Reached}
use Rattle.shelf.specs.declared.answers.Sizes.{Sizes}
use Rattle.shelf.specs.declared.answers.Saved as code

-- how far records could be followed: where one begins whose length is too great; or where the next begins, and how many were passed
pub data Walk : Type 0 where
  Over : ℕ → Walk
  To : (place count : ℕ) → Walk

abbrev pub walk_of : Result Reached ℕ → Walk
walk_of (Ok r) = To r.place r.count
walk_of (Err p) = Over p

-- whether a stream is whole records, and how many; or the block at fault
pub data Soundness : Type 0 where
  Sound : ℕ → Soundness
  Faulty : ℕ → Soundness

abbrev pub soundness_of : Result ℕ ℕ → Soundness
soundness_of (Ok c) = Sound c
soundness_of (Err i) = Faulty i

-- whether a block is in step with the stream before it, and then as To
pub data Stepped : Type 0 where
  Off : Stepped
  On : (place count : ℕ) → Stepped

abbrev pub stepped_of : Option Reached → Stepped
stepped_of None = Off
stepped_of (Some r) = On r.place r.count

-- what became of the blocks of a file: number and block of a refusal; or the bytes and the records of the stream
pub data Scan : Type 0 where
  Refused : (number place : ℕ) → Scan
  Whole : (bytes records : ℕ) → Scan

abbrev pub scan_of : Result Reached (Fault ℕ) → Scan
scan_of (Ok r) = Whole r.place r.count
scan_of (Err e) = Refused (number_of e.why) e.at

-- what writing or reading answers: the number, the block at fault; how many records, bytes of the stream, bytes of the file
pub record Answer : Type 0 where
  pub number : ℕ
  pub place : ℕ
  pub records : ℕ
  pub stream : ℕ
  pub file : ℕ

abbrev pub answer_of : Result Sizes (Fault ℕ) → Answer
answer_of (Ok s) = record { number = 0; place = 0; records = s.records; stream = s.stream; file = s.file }
answer_of (Err e) = record { number = number_of e.why; place = e.at; records = 0; stream = 0; file = 0 }

-- what a salvage answers: as writing does, then the entries of the list and the bytes that they tell of
pub record Rescued : Type 0 where
  pub answer : Answer
  pub entries : ℕ
  pub dropped : ℕ

abbrev pub rescued_of : Result code.Saved (Fault ℕ) → Rescued
rescued_of (Ok s) = record { answer = answer_of (Ok s.sizes); entries = s.listed.entries; dropped = s.listed.dropped }
rescued_of (Err e) = record { answer = answer_of (Err e); entries = 0; dropped = 0 }

-- why a block is bad; 0 where it is not
abbrev pub reason_of : Option Refusal → ℕ
reason_of None = 0
reason_of (Some r) = number_of r
