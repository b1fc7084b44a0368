-- What a call answers: 0, or why it refuses. What each is stands in src/refusal.rt.
use Rattle.std.specs.Prelude.{ℕ}

abbrev pub accepted : ℕ
accepted = 0

abbrev pub table : ℕ
table = 1

abbrev pub root : ℕ
root = 2

abbrev pub payload_size : ℕ
payload_size = 3

abbrev pub mode_byte : ℕ
mode_byte = 4

abbrev pub past_end : ℕ
past_end = 5

abbrev pub depth : ℕ
depth = 6

abbrev pub event_room : ℕ
event_room = 7

abbrev pub text_room : ℕ
text_room = 8

abbrev pub not_held : ℕ
not_held = 9

abbrev pub length : ℕ
length = 10

abbrev pub content_short : ℕ
content_short = 11

abbrev pub not_shortest : ℕ
not_shortest = 12

abbrev pub too_large : ℕ
too_large = 13

abbrev pub no_such_code : ℕ
no_such_code = 14

abbrev pub minus_zero : ℕ
minus_zero = 15

abbrev pub not_utf8 : ℕ
not_utf8 = 16

abbrev pub left_over : ℕ
left_over = 17

abbrev pub no_reading : ℕ
no_reading = 18

abbrev pub blank : ℕ
blank = 19

abbrev pub outside_row : ℕ
outside_row = 20

abbrev pub payload_room : ℕ
payload_room = 21

abbrev pub write_mode : ℕ
write_mode = 22

abbrev pub text_bytes : ℕ
text_bytes = 23

abbrev pub area_size : ℕ
area_size = 24

abbrev pub control : ℕ
control = 25

abbrev pub party : ℕ
party = 26

abbrev pub reserved_bits : ℕ
reserved_bits = 28

abbrev pub no_schemas : ℕ
no_schemas = 29

abbrev pub many_schemas : ℕ
many_schemas = 30

abbrev pub block_check : ℕ
block_check = 31

abbrev pub block_turn : ℕ
block_turn = 32

abbrev pub block_layout : ℕ
block_layout = 33

abbrev pub advanced_flag : ℕ
advanced_flag = 34
