-- What a bit reader's answer means: 0 exactly for a code that stands at the place, below the wall; else the place is as it was.
use Prim.Native.Nat.{ℕ, zero, suc, ◌+◌, ◌*◌, ◌<◌, ◌≤◌}
use mathlib.Core.Path.{◌≡◌, refl, sym, ap, ap₂, ◌∙◌}
use mathlib.Core.Bool.{Bool, true, false, cond}
use mathlib.Core.List.{List, [], ◌∷◌}
use lib.ListN.{get_or}
use Rattle.std.specs.Prelude.{Result, Ok, Err}
use Rattle.numbers.specs.declared.refusal.Refusal.{Refusal}
use Rattle.numbers.specs.declared.refusal.Refusal.TheVariants as refusal
use Rattle.numbers.specs.Refused.{answered as number_answered}
use native.Mathlib.Omega.{arith}
use native.Mathlib.Decide.{dec_le}
use borrow.Author.Tests.{lt-leb}
use lib.Dec.{ltb, leb, eqb}
use Rattle.wire.specs.Res.{Res, got, fault, ◌>>=◌}
use Rattle.wire.proofs.Res.{stops}
use Rattle.wire.specs.Bits.{bit_at, fixed_at}
use Rattle.wire.specs.At.{At}
use Rattle.wire.proofs.BitLaws.{bit-lt}
use Rattle.wire.specs.Number.{ones_at, groups_at, second8_at, number5, number8, strict, read5, read8}
use Rattle.wire.specs.Answer.{fixed32}
use Rattle.wire.proofs.ReadWays.{wide}
use Rattle.wire.specs.Lawful.{Lawful}
use Rattle.wire.proofs.Lawful.{fixed-lawful, five-lawful, eight-lawful}
use Rattle.bit_reader.specs.Codes.{Told, wall_of, left_at, coded, answered, value_in, reading_is, reading_at}
use Rattle.bit_reader.specs.declared.codes.Coding.{Coding}
use Rattle.bit_reader.specs.declared.codes.Coding.TheVariants.{Fixed, Five, Eight}
use Rattle.bit_reader.specs.declared.codes.Reading.{Reading}
use Rattle.bit_reader.specs.Accepts.{IsValue, coding_bits, Accepts}

-- a width that no word holds has no values
too_wide : (b : ℕ → ℕ) (wall at w : ℕ) → 32 < w → fixed32 b wall at w ≡ fault 13
unfolding fixed32
too_wide b wall at w h = rw (lt-leb _ _ h)

pub coded-lawful : (c : Coding) → Lawful (coded c) (IsValue c) (coding_bits c)
unfolding coded
coded-lawful (Fixed w) = elim (dec_le w 32) [
  | yes h ↦ record {
    found = λ b bit wall at. record {
      says = λ r e.
          let f = ((fixed-lawful w).found b bit wall at).says r (sym (wide b wall at w h) ∙ e) in
          record { fits = (h, f.fits); stands = f.stands; within = f.within };
    };
    reads = λ b wall at v p g f k. wide b wall at w h ∙ (fixed-lawful w).reads b wall at v p g.1 f k;
    below = λ b c wall at s. wide b wall at w h ∙ (fixed-lawful w).below b c wall at s ∙ sym (wide c wall at w h);
  }
  | no h ↦ record {
    found = λ b bit wall at. rw (too_wide b wall at w (omega arith)) stops;
    reads = λ b wall at v p g f k. absurd (h g.0);
    below = λ b c wall at s. too_wide b wall at w (omega arith) ∙ sym (too_wide c wall at w (omega arith));
  }
]
coded-lawful Five = five-lawful
coded-lawful Eight = eight-lawful

-- no refusal has the number 0
data Named {A : Type 0} : Res A → Type 0 where
  value : {a : A} → Named (got a)
  number : (n : ℕ) → Named (fault (suc n))

module _ {A : Type 0} where
  either : (t : Bool) {x y : Res A} → Named x → Named y → Named (cond t x y)
  either true p q = p
  either false p q = q

  after : {B : Type 0} {m : Res A} {k : A → Res B} → Named m → ((a : A) → Named (k a)) → Named (m >>= k)
  unfolding ◌>>=◌
  after (value {a}) q = q a
  after (number n) q = number n

module _ (b : ℕ → ℕ) (end : ℕ) where
  fixed_named : (at w : ℕ) → Named (fixed_at b end at w)
  unfolding fixed_at
  fixed_named at w = either (leb (at + w) end) value (number 4)

  ones-named : (f at k : ℕ) → Named (ones_at f b end at k)
  unfolding ones_at
  ones-named zero at k = number 12
  ones-named (suc f) at k = either (ltb at end) (either (eqb (b at) 0) value (ones-named f (at + 1) (k + 1))) (number 4)

  five-named : (at : ℕ) → Named (number5 b end at)
  unfolding number5 groups_at
  five-named at = after (ones-named 8 at 0) (λ r. after (fixed_named r.1 (4 * (r.0 + 1))) (λ q. value))

  eight-named : (at : ℕ) → Named (number8 b end at)
  unfolding number8 second8_at
  eight-named at = after (fixed_named at 8) (λ r. either (ltb r.0 128) value (after (fixed_named r.1 8) (λ q. either (ltb q.0 128) value (number 12))))

strict-named : (m : Res (ℕ × ℕ × Bool)) → Named m → Named (strict m)
unfolding strict
strict-named m p = after p (λ r. either r.2 value (number 11))

coded-named : (c : Coding) (b : ℕ → ℕ) (end at : ℕ) → Named (coded c b end at)
unfolding coded fixed32 read5 read8
coded-named (Fixed w) b end at = either (leb w 32) (fixed_named b end at w) (number 12)
coded-named Five b end at = strict-named _ (five-named b end at)
coded-named Eight b end at = strict-named _ (eight-named b end at)

pub accepted : (s : List ℕ) (at : ℕ) (c : Coding) → (reading_at s at c).number ≡ 0 → Accepts s at c (reading_at s at c)
unfolding reading_at answered
accepted s at c = go (coded c (bit_at s) (wall_of s) at) refl (coded-named c (bit_at s) (wall_of s) at)
  where
    go : (m : Res (ℕ × ℕ)) → coded c (bit_at s) (wall_of s) at ≡ m → Named m → (answered s at m).number ≡ 0 → Accepts s at c (answered s at m)
    go (got r) e n z =
        let f = ((coded-lawful c).found (bit_at s) (bit-lt s) (wall_of s) at).says r e in
        record { code = f; left = omega (arith, f.within) }
    go (fault k) e (number n) z = absurd (omega arith)

-- every code that stands so is accepted
pub accepts : (s : List ℕ) (at : ℕ) (c : Coding) (v p : ℕ) → IsValue c v → At (bit_at s) at (coding_bits c v) p → p ≤ wall_of s → reading_at s at c ≡ record { number = 0; value = v; place = p; left = left_at s p }
unfolding reading_at answered
accepts s at c v p f h k = rw ((coded-lawful c).reads (bit_at s) (wall_of s) at v p f h k)

-- ANY OTHER NUMBER: the value is 0, and the place is as it was
pub refused : (s : List ℕ) (at : ℕ) (c : Coding) → ((reading_at s at c).number ≡ 0 → ⊥) → ((reading_at s at c).value ≡ 0) × ((reading_at s at c).place ≡ at)
unfolding reading_at answered
refused s at c = go (coded c (bit_at s) (wall_of s) at)
  where
    go : (m : Res (ℕ × ℕ)) → ((answered s at m).number ≡ 0 → ⊥) → ((answered s at m).value ≡ 0) × ((answered s at m).place ≡ at)
    go (got r) z = absurd (z refl)
    go (fault k) z = (refl, refl)

-- a code that is told by its number and its value
told_code : (number value : ℕ) → Result ℕ Refusal
told_code zero v = Ok v
told_code (suc n) v = Err (get_or refusals (suc n) refusal.Table)
  where
    refusals : List Refusal
    refusals = refusal.Table ∷ refusal.Table ∷ refusal.Root ∷ refusal.PayloadSize ∷ refusal.ModeByte ∷ refusal.PastEnd ∷ refusal.Depth ∷ refusal.EventRoom ∷ refusal.TextRoom ∷ refusal.NotHeld ∷ refusal.Length ∷ refusal.ContentShort ∷ refusal.NotShortest ∷ refusal.TooLarge ∷ refusal.NoSuchCode ∷ refusal.MinusZero ∷ refusal.NotUtf8 ∷ refusal.LeftOver ∷ refusal.NoReading ∷ refusal.Blank ∷ refusal.OutsideRow ∷ refusal.PayloadRoom ∷ refusal.WriteMode ∷ refusal.TextBytes ∷ refusal.AreaSize ∷ refusal.Control ∷ refusal.Party ∷ refusal.Table ∷ refusal.ReservedBits ∷ refusal.NoSchemas ∷ refusal.ManySchemas ∷ refusal.BlockCheck ∷ refusal.BlockTurn ∷ refusal.BlockLayout ∷ refusal.AdvancedFlag ∷ []

code-told : (r : Result ℕ Refusal) → told_code (number_answered r) (value_in r) ≡ r
unfolding told_code
code-told (Ok v) = refl
code-told (Err refusal.Table) = refl
code-told (Err refusal.Root) = refl
code-told (Err refusal.PayloadSize) = refl
code-told (Err refusal.ModeByte) = refl
code-told (Err refusal.PastEnd) = refl
code-told (Err refusal.Depth) = refl
code-told (Err refusal.EventRoom) = refl
code-told (Err refusal.TextRoom) = refl
code-told (Err refusal.NotHeld) = refl
code-told (Err refusal.Length) = refl
code-told (Err refusal.ContentShort) = refl
code-told (Err refusal.NotShortest) = refl
code-told (Err refusal.TooLarge) = refl
code-told (Err refusal.NoSuchCode) = refl
code-told (Err refusal.MinusZero) = refl
code-told (Err refusal.NotUtf8) = refl
code-told (Err refusal.LeftOver) = refl
code-told (Err refusal.NoReading) = refl
code-told (Err refusal.Blank) = refl
code-told (Err refusal.OutsideRow) = refl
code-told (Err refusal.PayloadRoom) = refl
code-told (Err refusal.WriteMode) = refl
code-told (Err refusal.TextBytes) = refl
code-told (Err refusal.AreaSize) = refl
code-told (Err refusal.Control) = refl
code-told (Err refusal.Party) = refl
code-told (Err refusal.ReservedBits) = refl
code-told (Err refusal.NoSchemas) = refl
code-told (Err refusal.ManySchemas) = refl
code-told (Err refusal.BlockCheck) = refl
code-told (Err refusal.BlockTurn) = refl
code-told (Err refusal.BlockLayout) = refl
code-told (Err refusal.AdvancedFlag) = refl

-- two answers that the promise allows are equal
pub determined : (s : List ℕ) (at : ℕ) (c : Coding) (a b : Reading) → reading_is a ≡ reading_at s at c → reading_is b ≡ reading_at s at c → a ≡ b
determined s at c a b x y =
    let e = x ∙ sym y in
    let f : a.code ≡ b.code = sym (code-told a.code) ∙ ap₂ told_code (ap (λ (t : Told). t.number) e) (ap (λ (t : Told). t.value) e) ∙ code-told b.code in
    λ i. record { code = f i; place = record { 0 = (e i).place }; left = record { 0 = (e i).left } }
