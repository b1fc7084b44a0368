-- bim_report_add, over bytes, on every input: the number given back, and the final content of the report, which is state and no answer.
use Rattle.std.specs.Prelude.{ℕ, ◌≡◌, cond, List, eqb, length, take}
use Rattle.numbers.specs.Refusal.{area_size}
use Rattle.model.specs.Whole.{Reply, outcome, reading}
use Rattle.reader.specs.Answers.{Answer, Replies}
use Rattle.buffers.specs.Bytes.{words_of}
use Rattle.report.specs.Eights.{bytes_of}
use Rattle.report.specs.Places.{report_bytes}
use Rattle.report.specs.Report.{added}
use Rattle.report.specs.Sums.{numbers_in}
use Rattle.call_parts.specs.Calls.{zeros, read_bytes}
use Rattle.call_parts.specs.Promises.{Given, Lent, given, before, after}
use Rattle.call_parts.specs.declared.asked.Asked.{Asked}

pub record Reported : Type 0 where
  pub number : ℕ
  pub report : List ℕ

abbrev pub reported : ℕ → List ℕ → Reported
reported number report = record { number = number; report = report }

-- read with room for 2,048 events and 8,192 bytes of text
abbrev pub read_for_report : List ℕ → ℕ → ℕ → ℕ → List ℕ → Reply
read_for_report t party name type s = read_bytes t party name type s 32768 8192

-- table, party, root name, root type, payload; the report before
unfoldable pub report_call : List ℕ → ℕ → ℕ → ℕ → List ℕ → List ℕ → Reported
report_call t party name type s B =
    let r = read_for_report t party name type s in
    cond (eqb (length B) report_bytes) (reported (outcome r).number (bytes_of (added (length s) r (numbers_in B)))) (reported area_size (zeros (length B)))

-- what a reading of n bytes does to a report: the answer, the report after
pub record AddedBy (R : Reply) (n : ℕ) (B : List ℕ) (r : ℕ) (B' : List ℕ) : Type 0 where
  pub number : r ≡ (outcome R).number
  pub report : B' ≡ bytes_of (added n R (numbers_in B))

abbrev pub AddedBytes : (table : Given) → Asked → (payload : Given) → (report : Lent) → ℕ → Type 0
AddedBytes table by payload report r =
    AddedBy (read_for_report (given table) by.party by.name by.ty (given payload)) (length (given payload)) (before report) r (after report)

-- a payload read into W words and X bytes by the first n words of a table's bytes: the answer, the words and bytes after
abbrev pub ReadLent : (t : List ℕ) (n party name type : ℕ) (s : List ℕ) (W X : ℕ) → Answer → List ℕ → List ℕ → Type 0
ReadLent t n party name type s W X r E T = Replies (reading (take n (words_of t)) party name type s W X) W X r E T

abbrev pub ReadInWords : (table : Given) → ℕ → Asked → (payload : Given) → (list texts : Lent) → Answer → Type 0
ReadInWords table n by payload list texts r =
    ReadLent (given table) n by.party by.name by.ty (given payload) (length (before list)) (length (before texts)) r (after list) (after texts)
