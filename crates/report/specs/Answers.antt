-- What was read of a payload, as it is added.
use Rattle.std.specs.Prelude.{ℕ, ◌/◌, List, [], length, Result, Ok, Err}
use Rattle.numbers.specs.declared.refusal.Refusal.{Refusal}
use Rattle.model.specs.Model.{Event}
use Rattle.report.specs.Sums.{events_in}
use Rattle.report.specs.declared.Used.{Used}

-- how many bits were used, and the words of the events; nothing of a refused payload
abbrev pub bits_used : Result Used Refusal → ℕ
bits_used (Ok r) = r.bits
bits_used (Err e) = 0

abbrev pub words_read : Result Used Refusal → List ℕ
words_read (Ok r) = r.words.now
words_read (Err e) = []

abbrev pub events_read : Result Used Refusal → List Event
events_read a = events_in (words_read a) 0 (length (words_read a) / 4)
