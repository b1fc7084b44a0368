-- `read_code`: area_size, or the answer told.
use Prim.Native.Nat.{ℕ}
use mathlib.Core.Path.{◌≡◌, ap, ◌∙◌}
use mathlib.Core.List.{List, [], ◌++◌, append-nil}
use native.Mathlib.Omega.{arith}
use borrow.Author.Tests.{eq-eqb, ne_eqb}
use lib.ListN.{length, drop, drop_of_length-le}
use Rattle.numbers.specs.Limit.{bits_area}
use Rattle.numbers.specs.Refusal.{area_size}
use Rattle.bit_reader.specs.Codes.{reading_is, reading_at}
use Rattle.bit_reader.specs.declared.codes.Coding.{Coding}
use Rattle.bit_reader.specs.declared.codes.Reading.{Reading}
use Rattle.buffers.specs.Bytes.{bytes_of}
use Rattle.call_parts.specs.Calls.{back, zeros}
use Rattle.bim.specs.Bits.{code_words, told, bits_call}

module _ (s : List ℕ) (at : ℕ) (c : Coding) (area area' : List ℕ) where
  pub code-unlent : (length area ≡ bits_area → ⊥) → area' ≡ zeros (length area) → back area_size area' [] ≡ bits_call s at c (length area)
  unfolding bits_call
  code-unlent n e = rw (ne_eqb (length area) bits_area n, e)

  pub code-told : (a : Reading) → length area ≡ bits_area → reading_is a ≡ reading_at s at c → area' ≡ bytes_of (code_words (reading_is a)) ++ drop bits_area area → back (reading_is a).number area' [] ≡ bits_call s at c (length area)
  unfolding bits_call
  code-told a w e f =
      let said = bytes_of (code_words (reading_is a)) in
      let whole : area' ≡ said = f ∙ ap (λ (x : List ℕ). said ++ x) (drop_of_length-le area {i = bits_area} (omega arith)) ∙ append-nil said in
      ap (λ (x : List ℕ). back (reading_is a).number x []) whole ∙ ap told e ∙ rw (eq-eqb (length area) bits_area w)

pub ruleset code-ways = (code-unlent, code-told)
