-- The flags of a start-up message. What each is stands in src/flag.rt.
use Rattle.std.specs.Prelude.{ℕ}

abbrev pub insert_flag : ℕ
insert_flag = 64

abbrev pub advanced_decoders_flag : ℕ
advanced_decoders_flag = 32

abbrev pub additional_schema_flag : ℕ
additional_schema_flag = 16

abbrev pub schema_updates_flag : ℕ
schema_updates_flag = 8

abbrev pub fragment_reference_flag : ℕ
fragment_reference_flag = 4

abbrev pub mpc_only_flag : ℕ
mpc_only_flag = 2

abbrev pub hierarchy_flag : ℕ
hierarchy_flag = 1
