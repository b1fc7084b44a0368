-- The area in which a host finds an answer: six words, then most_names names of 2 bytes.
use Rattle.std.specs.Prelude.{ℕ, min, List, [], ◌∷◌, ◌++◌, length}
use Rattle.numbers.specs.Limit as limit
use Rattle.numbers.specs.Limit.{most_names, most_word}
use Rattle.model.specs.Model.{Path}
use Rattle.model.specs.Whole.{Outcome, filled}
use Rattle.buffers.specs.Bytes.{bytes_of, names_of}

abbrev pub area_bytes : ℕ
area_bytes = limit.area

-- places stop at 2^32 - 1
abbrev pub place_word : ℕ → ℕ
place_word place = min place most_word

-- where each stands in it; the place is the first
abbrev pub mode_at : ℕ
mode_at = 4

abbrev pub events_at : ℕ
events_at = 8

abbrev pub text_at : ℕ
text_at = 12

abbrev pub bits_at : ℕ
bits_at = 16

abbrev pub count_at : ℕ
count_at = 20

abbrev pub names_at : ℕ
names_at = 24

-- place, mode, events, text, bits, path count
abbrev pub area_words : Outcome → List ℕ
area_words o = place_word o.place ∷ o.mode ∷ o.events ∷ o.text ∷ o.bits ∷ length o.path ∷ []

-- unused names are 0
unfoldable pub area_of : Outcome → List ℕ
area_of o = bytes_of (area_words o) ++ names_of (filled most_names o.path)

-- what the area tells; the number is given back beside it
abbrev pub told : (place mode events text bits : ℕ) → Path → Outcome
told place mode events text bits path =
    record {
      number = 0;
      place = place;
      mode = mode;
      events = events;
      text = text;
      bits = bits;
      path = path;
    }
