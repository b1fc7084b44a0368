-- A use of lent room: what it is asked to take, and the one call of it that is made.
use Rattle.std.specs.Prelude.{ℕ, ◌≤◌, length}
use Rattle.call_parts.specs.Promises.{LentSlice}

-- any room of n words or more may be used
abbrev pub TakesRoom : ℕ → (LentSlice → Type 0) → Type 0
TakesRoom n takes = (room : LentSlice) → n ≤ length room.now → takes room

-- some room of n words or more was used; and as it was left
abbrev pub UsedRoom : ℕ → (LentSlice → LentSlice → Type 0) → Type 0
UsedRoom n used = (room : LentSlice) × (left : LentSlice) × (n ≤ length room.now) × used room left
