-- The lines of Text.antt are those of the ABNF in Rfc.antt, and what `begun` finds is one of them.
use Prim.Native.Nat.{ℕ}
use mathlib.Core.Bool.{Bool, true, false}
use mathlib.Core.Path.{◌≡◌, refl}
use mathlib.Core.List.{List, [], ◌∷◌}
use mathlib.Core.Option.{some}
use native.Mathlib.Omega.{arith}
use Rattle.utf8.specs.Rfc.{In, Char, utf8_1, utf8_2, utf8_3_E0, utf8_3_E1_EC, utf8_3_ED, utf8_3_EE_EF, utf8_4_F0, utf8_4_F1_F3, utf8_4_F4}
use Rattle.utf8.specs.Text.{Range, ◌to◌, has, lines, begun}
use Rattle.utf8.proofs.Look.{in-has}

-- the octets are in the ranges, one in each
pub data InRanges : List Range → List ℕ → Type 0 where
  whole : InRanges [] []
  then : {lo hi x : ℕ} {rest : List Range} {l : List ℕ} → In lo hi x → InRanges rest l → InRanges (lo to hi ∷ rest) (x ∷ l)

infixr 50 ◌and◌
pub data All (P : List Range → Type 0) : List (List Range) → Type 0 where
  all : All P []
  ◌and◌ : {line : List Range} {others : List (List Range)} → P line → All P others → All P (line ∷ others)

-- each of the lines is one of the ABNF
unfoldable pub IsLine : List Range → Type 0
IsLine line = (c : List ℕ) → InRanges line c → Char c

module _ {l₁ h₁ : ℕ} where
  of_one : ((a : ℕ) → In l₁ h₁ a → Char (a ∷ [])) → IsLine (l₁ to h₁ ∷ [])
  unfolding IsLine
  of_one k c (then {x = a} p whole) = k a p

  module _ {l₂ h₂ : ℕ} where
    of_two : ((a b : ℕ) → In l₁ h₁ a → In l₂ h₂ b → Char (a ∷ b ∷ [])) → IsLine (l₁ to h₁ ∷ l₂ to h₂ ∷ [])
    unfolding IsLine
    of_two k c (then {x = a} p (then {x = b} q whole)) = k a b p q

    module _ {l₃ h₃ : ℕ} where
      of_three : ((a b c : ℕ) → In l₁ h₁ a → In l₂ h₂ b → In l₃ h₃ c → Char (a ∷ b ∷ c ∷ [])) → IsLine (l₁ to h₁ ∷ l₂ to h₂ ∷ l₃ to h₃ ∷ [])
      unfolding IsLine
      of_three k c (then {x = a} p (then {x = b} q (then {x = d} r whole))) = k a b d p q r

      of_four : {l₄ h₄ : ℕ} → ((a b c d : ℕ) → In l₁ h₁ a → In l₂ h₂ b → In l₃ h₃ c → In l₄ h₄ d → Char (a ∷ b ∷ c ∷ d ∷ [])) → IsLine (l₁ to h₁ ∷ l₂ to h₂ ∷ l₃ to h₃ ∷ l₄ to h₄ ∷ [])
      unfolding IsLine
      of_four k c (then {x = a} p (then {x = b} q (then {x = d} r (then {x = e} s whole)))) = k a b d e p q r s

pub lines_are : All IsLine lines
unfolding lines
lines_are =
    of_one (λ a. utf8_1)
    and of_two (λ a b. utf8_2)
    and of_three (λ a b c. utf8_3_E0)
    and of_three (λ a b c. utf8_3_E1_EC)
    and of_three (λ a b c. utf8_3_ED)
    and of_three (λ a b c. utf8_3_EE_EF)
    and of_four (λ a b c d. utf8_4_F0)
    and of_four (λ a b c d. utf8_4_F1_F3)
    and of_four (λ a b c d. utf8_4_F4)
    and all

-- the line that a first octet begins
pub record Begun (P : List Range → Type 0) (x : ℕ) (rest : List Range) : Type 0 where
  pub lo : ℕ
  pub hi : ℕ
  pub within : In lo hi x
  pub holds : P (lo to hi ∷ rest)

pub begun-line : (P : List Range → Type 0) (x : ℕ) (rest : List Range) {ls : List (List Range)} → All P ls → begun ls x ≡ some rest → Begun P x rest
unfolding begun
begun-line P x rest all e = let z : ◌≡◌ {A = ℕ} 0 1 = cc in absurd (omega arith)
begun-line P x rest (◌and◌ {line = []} p ps) e = begun-line P x rest ps e
begun-line P x rest (◌and◌ {line = lo to hi ∷ wanted} {others = others} p ps) e = go (has (lo to hi) x) refl e (begun-line P x rest ps)
  where
    go : (b : Bool) → has (lo to hi) x ≡ b → elim b [ true ↦ some wanted | false ↦ begun others x ] ≡ some rest → (begun others x ≡ some rest → Begun P x rest) → Begun P x rest
    go true h e ih =
        let same : wanted ≡ rest = cc in
        record { lo = lo; hi = hi; within = in-has lo hi x h; holds = rw same at p }
    go false h e ih = ih e
