-- A text octet by octet: the states of a reading, for callers whose octets do not lie in one slice.
use Rattle.std.specs.Prelude.{ℕ, Bool, true, false, cond, List, [], ◌∷◌}
use Rattle.numbers.specs.Refusal.{not_utf8, control}
use Rattle.utf8.specs.Text.{Range, ◌to◌, has, tail}
use Rattle.utf8.specs.declared.State.{State}
use Rattle.utf8.specs.declared.State.TheVariants.{Start, OneLeft, TwoLeft, ThreeLeft, AfterE0, AfterED, AfterF0, AfterF4, Wrong}

infix 75 ◌leads◌
-- a range, and the state after an octet of it
pub record Row : Type 0 where
  pub range : Range
  pub state : State

abbrev pub ◌leads◌ : Range → State → Row
r leads s = record { range = r; state = s }

-- the state of the first row that has x
unfoldable pub look : List Row → ℕ → State
look [] x = Wrong
look (row ∷ rows) x = elim (has row.range x) [ true ↦ row.state | false ↦ look rows x ]

-- where each state leads
unfoldable pub rows : State → List Row
rows Start =
    (0x00 to 0x7F leads Start)
    ∷ (0xC2 to 0xDF leads OneLeft)
    ∷ (0xE0 to 0xE0 leads AfterE0)
    ∷ (0xE1 to 0xEC leads TwoLeft)
    ∷ (0xED to 0xED leads AfterED)
    ∷ (0xEE to 0xEF leads TwoLeft)
    ∷ (0xF0 to 0xF0 leads AfterF0)
    ∷ (0xF1 to 0xF3 leads ThreeLeft)
    ∷ (0xF4 to 0xF4 leads AfterF4)
    ∷ []
rows OneLeft = (tail leads Start) ∷ []
rows TwoLeft = (tail leads OneLeft) ∷ []
rows ThreeLeft = (tail leads TwoLeft) ∷ []
rows AfterE0 = (0xA0 to 0xBF leads OneLeft) ∷ []
rows AfterED = (0x80 to 0x9F leads OneLeft) ∷ []
rows AfterF0 = (0x90 to 0xBF leads TwoLeft) ∷ []
rows AfterF4 = (0x80 to 0x8F leads TwoLeft) ∷ []
rows Wrong = []

unfoldable pub next : State → ℕ → State
next s x = look (rows s) x

unfoldable pub run : State → List ℕ → State
run s [] = s
run s (x ∷ l) = run (next s x) l

-- what is wrong with a text that ends here, in which a control character was found or not
abbrev pub number_of : State → Bool → ℕ
number_of Start found = cond found control 0
number_of OneLeft found = not_utf8
number_of TwoLeft found = not_utf8
number_of ThreeLeft found = not_utf8
number_of AfterE0 found = not_utf8
number_of AfterED found = not_utf8
number_of AfterF0 found = not_utf8
number_of AfterF4 found = not_utf8
number_of Wrong found = not_utf8
