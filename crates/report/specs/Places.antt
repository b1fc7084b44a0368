-- Where each number of a report stands.
use Rattle.std.specs.Prelude.{ℕ, ◌+◌}
use Rattle.numbers.specs.Limit.{report, report_lines}

-- so many numbers, of 8 bytes each
abbrev pub numbers : ℕ
numbers = 4168

abbrev pub report_bytes : ℕ
report_bytes = report

-- a number is below this
abbrev pub limit : ℕ
limit = 18446744073709551616

-- whether the report has stopped; bits of accepted payloads, of their mode bytes, of their padding
abbrev pub stopped : ℕ
stopped = 0

abbrev pub total_bits : ℕ
total_bits = 1

abbrev pub mode_bits : ℕ
mode_bits = 2

abbrev pub padding_bits : ℕ
padding_bits = 3

-- payloads answered 0; the numbers that have a place are below answers
abbrev pub answered : ℕ
answered = 4

abbrev pub answers : ℕ
answers = 64

-- a line is a name, and how often it was seen, its own bits, its blanked bits. The line of all names that have none; the first of the others; how many
abbrev pub other : ℕ
other = 68

abbrev pub first_line : ℕ
first_line = 72

abbrev pub lines : ℕ
lines = report_lines

abbrev pub line_numbers : ℕ
line_numbers = 4

abbrev pub seen : ℕ → ℕ
seen i = i + 1

abbrev pub own : ℕ → ℕ
own i = i + 2

abbrev pub blanked : ℕ → ℕ
blanked i = i + 3
