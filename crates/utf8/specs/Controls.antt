-- Which octets a text may have (document 02, "Control characters"): of those under 32, tab, line feed and carriage return alone.
use Rattle.std.specs.Prelude.{ℕ, ◌≤◌, List, [], ◌∷◌}

pub data Allowed : ℕ → Type 0 where
  tab : Allowed 9
  line_feed : Allowed 10
  carriage_return : Allowed 13
  other : {x : ℕ} → 32 ≤ x → Allowed x

pub data AllAllowed : List ℕ → Type 0 where
  none : AllAllowed []
  more : {x : ℕ} {l : List ℕ} → Allowed x → AllAllowed l → AllAllowed (x ∷ l)
