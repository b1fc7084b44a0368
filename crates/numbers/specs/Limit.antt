-- Sizes, and how much there may be of each thing. What each is stands in src/limit.rt.
use Rattle.std.specs.Prelude.{ℕ}

abbrev pub area : ℕ
area = 152

abbrev pub bits_area : ℕ
bits_area = 12

abbrev pub event : ℕ
event = 16

abbrev pub most_events : ℕ
most_events = 2048

abbrev pub most_event_words : ℕ
most_event_words = 8192

abbrev pub most_payload : ℕ
most_payload = 8192

abbrev pub most_table : ℕ
most_table = 58392

abbrev pub most_table_words : ℕ
most_table_words = 14598

abbrev pub most_open : ℕ
most_open = 64

abbrev pub most_names : ℕ
most_names = 64

abbrev pub most_types : ℕ
most_types = 256

abbrev pub most_attributes : ℕ
most_attributes = 1024

abbrev pub most_particles : ℕ
most_particles = 1024

abbrev pub most_children : ℕ
most_children = 64

abbrev pub most_values : ℕ
most_values = 65536

abbrev pub most_name : ℕ
most_name = 65535

abbrev pub most_times : ℕ
most_times = 65535

abbrev pub unbounded : ℕ
unbounded = 65536

abbrev pub most_fixed : ℕ
most_fixed = 65535

abbrev pub most_text : ℕ
most_text = 4095

abbrev pub most_word : ℕ
most_word = 4294967295

abbrev pub most_derivations : ℕ
most_derivations = 1024

abbrev pub most_substitutes : ℕ
most_substitutes = 1024

abbrev pub parties : ℕ
parties = 8

abbrev pub most_held : ℕ
most_held = 255

abbrev pub day_milliseconds : ℕ
day_milliseconds = 86400000

abbrev pub shelf_area : ℕ
shelf_area = 44

abbrev pub record_head : ℕ
record_head = 6

abbrev pub block_bytes : ℕ
block_bytes = 512

abbrev pub block_head : ℕ
block_head = 8

abbrev pub block_body : ℕ
block_body = 508

abbrev pub block_data : ℕ
block_data = 498

abbrev pub block_words : ℕ
block_words = 127

abbrev pub no_start : ℕ
no_start = 65535

abbrev pub most_blocks : ℕ
most_blocks = 4294967296

abbrev pub dropped : ℕ
dropped = 12

abbrev pub report : ℕ
report = 33344

abbrev pub report_lines : ℕ
report_lines = 1024

abbrev pub init : ℕ
init = 128

abbrev pub init_words : ℕ
init_words = 32

abbrev pub init_area : ℕ
init_area = 8

abbrev pub most_vlu8 : ℕ
most_vlu8 = 16383

abbrev pub most_formats : ℕ
most_formats = 255

abbrev pub most_schemas : ℕ
most_schemas = 4

abbrev pub most_unit : ℕ
most_unit = 6

abbrev pub most_message : ℕ
most_message = 536870911
