-- An event's kind, the first of its four words. What each is stands in src/kind.rt.
use Rattle.std.specs.Prelude.{ℕ}

abbrev pub start : ℕ
start = 1

abbrev pub attribute : ℕ
attribute = 2

abbrev pub value : ℕ
value = 3

abbrev pub pick : ℕ
pick = 4

abbrev pub times : ℕ
times = 5

abbrev pub end : ℕ
end = 6

abbrev pub blank : ℕ
blank = 7

abbrev pub cast : ℕ
cast = 8
