-- What is wrong with a text, as a number: computed from the lines of RFC 3629's ABNF, and from its control characters. Exact.antt ties it to Rfc.antt and
-- Controls.antt.
use Rattle.std.specs.Prelude.{ℕ, Bool, true, false, cond, List, [], ◌∷◌, leb, ltb, eqb}
use Rattle.std.proofs.Math.Option.{Option, none, some}
use Rattle.numbers.specs.Refusal.{not_utf8, control}

infix 80 ◌to◌
-- %xLO-HI
pub data Range : Type 0 where
  ◌to◌ : ℕ → ℕ → Range

unfoldable pub has : Range → ℕ → Bool
has (lo to hi) x = elim (leb lo x) [ true ↦ leb x hi | false ↦ false ]

abbrev pub tail : Range
tail = 0x80 to 0xBF

-- the lines of UTF8-char, each as the ranges of its octets
unfoldable pub lines : List (List Range)
lines =
    (0x00 to 0x7F ∷ [])
    ∷ (0xC2 to 0xDF ∷ tail ∷ [])
    ∷ (0xE0 to 0xE0 ∷ 0xA0 to 0xBF ∷ tail ∷ [])
    ∷ (0xE1 to 0xEC ∷ tail ∷ tail ∷ [])
    ∷ (0xED to 0xED ∷ 0x80 to 0x9F ∷ tail ∷ [])
    ∷ (0xEE to 0xEF ∷ tail ∷ tail ∷ [])
    ∷ (0xF0 to 0xF0 ∷ 0x90 to 0xBF ∷ tail ∷ tail ∷ [])
    ∷ (0xF1 to 0xF3 ∷ tail ∷ tail ∷ tail ∷ [])
    ∷ (0xF4 to 0xF4 ∷ 0x80 to 0x8F ∷ tail ∷ tail ∷ [])
    ∷ []

-- what must follow the octet x: the rest of the first of these lines that it begins, where it begins one
unfoldable pub begun : List (List Range) → ℕ → Option (List Range)
begun [] x = none
begun ([] ∷ others) x = begun others x
begun ((first ∷ rest) ∷ others) x = elim (has first x) [ true ↦ some rest | false ↦ begun others x ]

-- what can come where these ranges are still wanted of a character: they alone; between characters, any line
unfoldable pub open-lines : List Range → List (List Range)
open-lines [] = lines
open-lines (range ∷ rest) = (range ∷ rest) ∷ []

-- the octets are what is wanted of a character, and then whole characters
unfoldable pub goes_on : List Range → List ℕ → Bool
goes_on [] [] = true
goes_on (range ∷ rest) [] = false
goes_on wanted (x ∷ l) = elim (begun (open-lines wanted) x) [ some rest ↦ goes_on rest l | none ↦ false ]

-- a byte under 32 other than 9, 10, 13
unfoldable pub is_control : ℕ → Bool
is_control x = cond (ltb x 32) (cond (eqb x 9) false (cond (eqb x 10) false (cond (eqb x 13) false true))) false

unfoldable pub has_control : List ℕ → Bool
has_control [] = false
has_control (x ∷ l) = cond (is_control x) true (has_control l)

-- the number, by whether it is UTF-8, and whether it has a control character: the whole text is judged for not_utf8 first
unfoldable pub fault_of : Bool → Bool → ℕ
fault_of true found = cond found control 0
fault_of false found = not_utf8

unfoldable pub text_fault : List ℕ → ℕ
text_fault l = fault_of (goes_on [] l) (has_control l)
