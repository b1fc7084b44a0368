-- Length coding, as a number and as the byte that a payload begins with. What each is stands in src/mode.rt.
use Rattle.std.specs.Prelude.{ℕ}

abbrev pub never : ℕ
never = 0

abbrev pub optional : ℕ
optional = 1

abbrev pub always : ℕ
always = 2

abbrev pub casting : ℕ
casting = 4

abbrev pub never_byte : ℕ
never_byte = 0x0F

abbrev pub optional_byte : ℕ
optional_byte = 0x4F

abbrev pub always_byte : ℕ
always_byte = 0x8F

abbrev pub casting_byte : ℕ
casting_byte = 0x10
