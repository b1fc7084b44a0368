-- The words lent for events.
use Rattle.std.specs.Prelude.{ℕ, ◌*◌, ◌/◌, min}
use Rattle.numbers.specs.Limit as limit
use Rattle.numbers.specs.Limit.{most_events}

-- the words lent for events: four for each that has room
abbrev pub slot_words : ℕ → ℕ
slot_words e = 4 * min (e / limit.event) most_events
