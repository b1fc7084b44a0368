-- WHAT IS PROVED of start-up messages, (a) to (e) of 02 [8], once more over the bytes of the calls for C: what `bim_init_read` and `bim_init_write` give
-- back. The words that say a meaning are those of the bytes. proofs/ByCalls has `init-by-calls`.
use Rattle.std.specs.Prelude.{ℕ, ◌-◌, ◌/◌, ◌≤◌, ◌≡◌, List, [], ◌∷◌, ◌++◌, length, get_or, take}
use Rattle.numbers.specs.Refusal.{accepted}
use Rattle.numbers.specs.Limit as limit
use Rattle.numbers.specs.Limit.{most_message, init_area}
use Rattle.buffers.specs.Bytes.{words_of}
use Rattle.init.specs.Meaning.{Meaning, Over, spelt, Each, Byte, Within}
use Rattle.init.specs.Says.{Says}
use Rattle.init.specs.Theorems.{IsMessage}
use Rattle.init.specs.Calls.{back, zeros, read_call, area_of, write_call}

-- a call that read, into so many bytes of codecs, and what it left in init and in codecs
abbrev pub ReadBy : (s : List ℕ) (room : ℕ) (init codecs : List ℕ) → Type 0
ReadBy s room init codecs = read_call s room limit.init ≡ back accepted init (codecs ∷ [])

-- a call that wrote, and what it left in the area and in the message's room
abbrev pub WroteBy : (init codecs given : List ℕ) (room : ℕ) (area message : List ℕ) → Type 0
WroteBy init codecs given room area message = write_call init codecs given room init_area ≡ back accepted area (message ∷ [])

-- the bytes that init and codecs are say a meaning
abbrev pub BytesSay : (first : ℕ) (init codecs given : List ℕ) → Meaning → Type 0
BytesSay first init codecs given m = Says first (words_of init) (words_of codecs) given m

-- the area's second word counts the bytes written
abbrev pub count_in : List ℕ → ℕ
count_in area = get_or (words_of area) 1 0

-- bytes at the front of a room, and zeros behind
abbrev pub filled : (room : ℕ) → List ℕ → List ℕ
filled room s = s ++ zeros (room - length s)

-- what is so where a call wrote
pub record WrittenBy (init codecs given : List ℕ) (room : ℕ) (area message : List ℕ) (m : Meaning) : Type 0 where
  pub sized : length init ≡ limit.init
  pub within : Within m
  pub says : BytesSay 0 init codecs given m
  pub fits : length (spelt m) ≤ room
  pub counts : area ≡ area_of 0 (length (spelt m))
  pub spells : message ≡ filled room (spelt m)

-- what was written, read by a call, which leaves this
pub record ReadAgain (init codecs given written : List ℕ) (room : ℕ) (m : Meaning) (init' codecs' : List ℕ) : Type 0 where
  pub said : BytesSay 0 init codecs given m
  pub spells : written ≡ spelt m
  pub reads : ReadBy written room init' codecs'
  pub says : BytesSay 0 init' codecs' written m

pub record InitByCalls : Type 0 where
  -- (a) a call accepts a message, given room, exactly where it is spelt so; and then the bytes left in init and in codecs say what it means
  pub accepted-is-spelt : (s : List ℕ) (room : ℕ) (init codecs : List ℕ) → Each Byte s → ReadBy s room init codecs
      → (m : Meaning) × (o : Over) × IsMessage s (room / 4) m o × BytesSay o.first init codecs s m
  pub spelt-is-accepted : (s : List ℕ) (room : ℕ) (m : Meaning) (o : Over) → IsMessage s (room / 4) m o
      → (init : List ℕ) × (codecs : List ℕ) × ReadBy s room init codecs × BytesSay o.first init codecs s m
  -- (b) bytes that say a meaning are written as it is spelt, given room; and all else is refused
  pub said-is-written : (init codecs given : List ℕ) (room : ℕ) (m : Meaning) → length init ≡ limit.init → Within m → BytesSay 0 init codecs given m
      → length (spelt m) ≤ room → WroteBy init codecs given room (area_of 0 (length (spelt m))) (filled room (spelt m))
  pub written-is-said : (init codecs given : List ℕ) (room : ℕ) (area message : List ℕ) → Each Byte given → WroteBy init codecs given room area message
      → (m : Meaning) × WrittenBy init codecs given room area message m
  -- (c) what a call wrote, read back by a call with room for as many words of codecs, says the same
  pub write_read : (init codecs given : List ℕ) (room : ℕ) (area message : List ℕ) (room' : ℕ) → Each Byte given
      → WroteBy init codecs given room area message → count_in area ≤ most_message → get_or (words_of init) 7 0 ≤ room' / 4
      → (m : Meaning) × (init' : List ℕ) × (codecs' : List ℕ) × ReadAgain init codecs given (take (count_in area) message) room' m init' codecs'
  -- (d) a message whose bits stepped over are 0, read by a call, and written by a call with itself as what is given, is the same bytes
  pub read-write : (s : List ℕ) (room : ℕ) (init codecs : List ℕ) (m : Meaning) (out : ℕ) → Within m → s ≡ spelt m → ReadBy s room init codecs
      → length s ≤ out → WroteBy init codecs s out (area_of 0 (length s)) (filled out s)
  -- (e) no message that a call accepts begins another, whatever bits are stepped over; and bytes say one meaning at most
  pub none-begins : (s more : List ℕ) (room room' : ℕ) (init codecs init' codecs' : List ℕ) → Each Byte s → Each Byte more → ReadBy s room init codecs
      → ReadBy (s ++ more) room' init' codecs' → more ≡ []
  pub one-said : (init codecs given : List ℕ) (m m' : Meaning) → Within m → Within m' → BytesSay 0 init codecs given m → BytesSay 0 init codecs given m' → m ≡ m'
