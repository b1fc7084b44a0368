-- The number of each refusal, as the interface has it; and of an answer that may be one.
use Rattle.std.specs.Prelude.{ℕ, Result, Ok, Err}
use Rattle.numbers.specs.Refusal as numbers
use Rattle.numbers.specs.declared.refusal.Refusal.{Refusal}
use Rattle.numbers.specs.declared.refusal.Refusal.TheVariants as refusal

abbrev pub number_of : Refusal → ℕ
number_of refusal.Table = numbers.table
number_of refusal.Root = numbers.root
number_of refusal.PayloadSize = numbers.payload_size
number_of refusal.ModeByte = numbers.mode_byte
number_of refusal.PastEnd = numbers.past_end
number_of refusal.Depth = numbers.depth
number_of refusal.EventRoom = numbers.event_room
number_of refusal.TextRoom = numbers.text_room
number_of refusal.NotHeld = numbers.not_held
number_of refusal.Length = numbers.length
number_of refusal.ContentShort = numbers.content_short
number_of refusal.NotShortest = numbers.not_shortest
number_of refusal.TooLarge = numbers.too_large
number_of refusal.NoSuchCode = numbers.no_such_code
number_of refusal.MinusZero = numbers.minus_zero
number_of refusal.NotUtf8 = numbers.not_utf8
number_of refusal.LeftOver = numbers.left_over
number_of refusal.NoReading = numbers.no_reading
number_of refusal.Blank = numbers.blank
number_of refusal.OutsideRow = numbers.outside_row
number_of refusal.PayloadRoom = numbers.payload_room
number_of refusal.WriteMode = numbers.write_mode
number_of refusal.TextBytes = numbers.text_bytes
number_of refusal.AreaSize = numbers.area_size
number_of refusal.Control = numbers.control
number_of refusal.Party = numbers.party
number_of refusal.ReservedBits = numbers.reserved_bits
number_of refusal.NoSchemas = numbers.no_schemas
number_of refusal.ManySchemas = numbers.many_schemas
number_of refusal.BlockCheck = numbers.block_check
number_of refusal.BlockTurn = numbers.block_turn
number_of refusal.BlockLayout = numbers.block_layout
number_of refusal.AdvancedFlag = numbers.advanced_flag

-- 0 where nothing is refused
abbrev pub answered : {T : Type 0} → Result T Refusal → ℕ
answered (Ok x) = numbers.accepted
answered (Err e) = number_of e
