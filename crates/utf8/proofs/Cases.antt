-- Texts at the bounds of the ABNF and of the control characters, and what is wrong with each, computed.
use Prim.Native.Nat.{ℕ}
use mathlib.Core.Path.{◌≡◌, refl}
use mathlib.Core.List.{List, [], ◌∷◌, map}
use Rattle.utf8.specs.Text.{has, lines, begun, open-lines, goes_on, is_control, has_control, fault_of, text_fault}

infix 60 ◌gives◌
pub record Case : Type 0 where
  pub text : List ℕ
  pub number : ℕ

abbrev ◌gives◌ : List ℕ → ℕ → Case
l gives n = record { text = l; number = n }

pub table : List Case
table =
    ([] gives 0)
    ∷ ((0x48 ∷ 0x69 ∷ []) gives 0)
    ∷ ((0xC2 ∷ 0x80 ∷ []) gives 0)
    ∷ ((0xDF ∷ 0xBF ∷ []) gives 0)
    ∷ ((0xE0 ∷ 0xA0 ∷ 0x80 ∷ []) gives 0)
    ∷ ((0xED ∷ 0x9F ∷ 0xBF ∷ []) gives 0)
    ∷ ((0xEE ∷ 0x80 ∷ 0x80 ∷ []) gives 0)
    ∷ ((0xF0 ∷ 0x90 ∷ 0x80 ∷ 0x80 ∷ []) gives 0)
    ∷ ((0xF4 ∷ 0x8F ∷ 0xBF ∷ 0xBF ∷ []) gives 0)
    ∷ ((0x80 ∷ []) gives 16)
    ∷ ((0xC0 ∷ 0x80 ∷ []) gives 16)
    ∷ ((0xC1 ∷ 0xBF ∷ []) gives 16)
    ∷ ((0xC2 ∷ []) gives 16)
    ∷ ((0xC2 ∷ 0x41 ∷ []) gives 16)
    ∷ ((0xE0 ∷ 0x9F ∷ 0xBF ∷ []) gives 16)
    ∷ ((0xED ∷ 0xA0 ∷ 0x80 ∷ []) gives 16)
    ∷ ((0xF0 ∷ 0x8F ∷ 0xBF ∷ 0xBF ∷ []) gives 16)
    ∷ ((0xF4 ∷ 0x90 ∷ 0x80 ∷ 0x80 ∷ []) gives 16)
    ∷ ((0xF5 ∷ 0x80 ∷ 0x80 ∷ 0x80 ∷ []) gives 16)
    ∷ ((0xFF ∷ []) gives 16)
    ∷ ((0xE1 ∷ 0x80 ∷ []) gives 16)
    ∷ ((0xF1 ∷ 0x80 ∷ 0x80 ∷ []) gives 16)
    -- control characters: all under 32 but for 9, 10, 13; not 127 nor U+0085
    ∷ ((0x09 ∷ 0x0A ∷ 0x0D ∷ []) gives 0)
    ∷ ((0x7F ∷ 0xC2 ∷ 0x85 ∷ []) gives 0)
    ∷ ((0x61 ∷ 0x07 ∷ []) gives 25)
    ∷ ((0x00 ∷ []) gives 25)
    ∷ ((0x08 ∷ []) gives 25)
    ∷ ((0x0B ∷ []) gives 25)
    ∷ ((0x0C ∷ []) gives 25)
    ∷ ((0x0E ∷ []) gives 25)
    ∷ ((0x1F ∷ 0x61 ∷ []) gives 25)
    -- the whole text is judged for 16 first
    ∷ ((0x07 ∷ 0xFF ∷ []) gives 16)
    ∷ ((0xC2 ∷ 0x07 ∷ []) gives 16)
    ∷ []

pub cases : map (λ (c : Case). text_fault c.text) table ≡ map (λ (c : Case). c.number) table
unfolding table has lines begun open-lines goes_on is_control has_control fault_of text_fault
cases = refl
