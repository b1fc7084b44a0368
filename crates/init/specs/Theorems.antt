-- WHAT IS PROVED of start-up messages, (a) to (e) of 02 [8].
use Rattle.std.specs.Prelude.{ℕ, ◌≤◌, ◌≡◌, List, [], ◌++◌, length}
use Rattle.numbers.specs.Limit.{most_message}
use Rattle.init.specs.Read.{init_read}
use Rattle.init.specs.Read.Reading.{given as gives}
use Rattle.init.specs.Write.{init_write}
use Rattle.init.specs.Write.Writing.{wrote}
use Rattle.init.specs.Meaning.{Meaning, Over, spelling, spelt, schema_words, Each, Byte, Within, OverIn}
use Rattle.init.specs.Says.{Says}

-- bytes that are a meaning's spelling but for what is stepped over, no longer than a message is read, and words of codecs that there is room for
pub record IsMessage (s : List ℕ) (room : ℕ) (m : Meaning) (o : Over) : Type 0 where
  pub within : Within m
  pub stepped : OverIn m.features o
  pub spells : s ≡ spelling m o
  pub short : length s ≤ most_message
  pub fits : schema_words m.schemas ≤ room

-- what a reading says
pub record Told (s : List ℕ) (room : ℕ) (init codecs : List ℕ) (m : Meaning) (o : Over) : Type 0 where
  pub reads : init_read s room ≡ gives init codecs (length s)
  pub counts : length codecs ≡ schema_words m.schemas
  pub says : Says o.first init codecs s m

-- (a) a message is accepted, given room, exactly where it is spelt so; and then init and codecs say what it means
abbrev pub AcceptedIsSpelt : Type 0
AcceptedIsSpelt =
    (s : List ℕ) (room : ℕ) (init codecs : List ℕ) (at : ℕ) → Each Byte s → init_read s room ≡ gives init codecs at
    → (m : Meaning) × (o : Over) × IsMessage s room m o × Told s room init codecs m o

abbrev pub SpeltIsAccepted : Type 0
SpeltIsAccepted = (s : List ℕ) (room : ℕ) (m : Meaning) (o : Over) → IsMessage s room m o → (init : List ℕ) × (codecs : List ℕ) × Told s room init codecs m o

-- (b) words and bytes that say a meaning are written as it is spelt, given room; and all else is refused
abbrev pub SaidIsWritten : Type 0
SaidIsWritten =
    (init codecs given : List ℕ) (room : ℕ) (m : Meaning) → Within m → Says 0 init codecs given m → length (spelt m) ≤ room
    → init_write init codecs given room ≡ wrote (schema_words m.schemas) (spelt m)

pub record Written (init codecs given : List ℕ) (room used : ℕ) (bytes : List ℕ) (m : Meaning) : Type 0 where
  pub within : Within m
  pub says : Says 0 init codecs given m
  pub counts : used ≡ schema_words m.schemas
  pub spells : bytes ≡ spelt m
  pub fits : length bytes ≤ room

abbrev pub WrittenIsSaid : Type 0
WrittenIsSaid =
    (init codecs given : List ℕ) (room used : ℕ) (bytes : List ℕ) → Each Byte given → init_write init codecs given room ≡ wrote used bytes
    → (m : Meaning) × Written init codecs given room used bytes m

-- (c) what was written, read back, says the same
abbrev pub WriteRead : Type 0
WriteRead =
    (init codecs given : List ℕ) (room used : ℕ) (bytes : List ℕ) (back : ℕ) → Each Byte given → init_write init codecs given room ≡ wrote used bytes
    → length bytes ≤ most_message → used ≤ back
    → (m : Meaning) × (init' : List ℕ) × (codecs' : List ℕ) × Says 0 init codecs given m
    × (init_read bytes back ≡ gives init' codecs' (length bytes)) × Says 0 init' codecs' bytes m

-- (d) a message whose bits stepped over are 0, read, and written with itself as what is given, is the same bytes
abbrev pub ReadWrite : Type 0
ReadWrite =
    (s : List ℕ) (room : ℕ) (init codecs : List ℕ) (at : ℕ) (m : Meaning) (out : ℕ) → Within m → s ≡ spelt m → init_read s room ≡ gives init codecs at → length s ≤ out
    → init_write init codecs s out ≡ wrote (length codecs) s

-- (e) a spelling is of one meaning, no spelling begins another, and words say one meaning at most
abbrev pub OneMeaning : Type 0
OneMeaning = (m m' : Meaning) → Within m → Within m' → spelt m ≡ spelt m' → m ≡ m'

abbrev pub NoneBegins : Type 0
NoneBegins = (m m' : Meaning) (more : List ℕ) → Within m → Within m' → spelt m ++ more ≡ spelt m' → (m ≡ m') × (more ≡ [])

abbrev pub OneSaid : Type 0
OneSaid = (init codecs given : List ℕ) (m m' : Meaning) → Within m → Within m' → Says 0 init codecs given m → Says 0 init codecs given m' → m ≡ m'
