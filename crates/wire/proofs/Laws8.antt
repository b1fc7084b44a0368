-- The two laws of vluimsbf8: the shortest code of a number below 2^14 is read as it, and what a strict reading accepts is that code.
use Prim.Native.Nat.{ℕ, ◌+◌, ◌-◌, ◌*◌, ◌/◌, ◌%◌, ◌<◌, ◌≤◌}
use mathlib.Core.Path.{◌≡◌, refl, ap, ◌∙◌}
use mathlib.Core.Bool.{Bool, true, false, cond}
use mathlib.Core.List.{◌++◌}
use native.Mathlib.Omega.{arith}
use native.Mathlib.Decide.{dec_lt, ℕ_discrete}
use borrow.Author.Tests.{lt-ltb, le-ltb, eq-eqb, ne_eqb}
use lib.ListN.{length}
use Rattle.numbers.specs.Refusal.{not_shortest}
use Rattle.wire.specs.Res.{got, fault, Ensures}
use Rattle.wire.proofs.Res.{gives, stops, bind}
use Rattle.wire.specs.Bits.{fixed_at, digits, Has}
use Rattle.wire.specs.At.{At}
use Rattle.wire.proofs.BitLaws.{num-lt, fixed_in, fixed-gives, has_left, has_right, num-digits, length_digits, at_both, at-digits}
use Rattle.wire.specs.Number.{second8_at, number8, strict, read8, code8}
use Rattle.wire.proofs.Steps.{second_short, eight-one, eight-two, strict-short}
use Rattle.wire.proofs.WriteWays.{length-short8, length-long8}

module _ (b : ℕ → ℕ) (wall at : ℕ) where
  byte-read : (x : ℕ) → x < 256 → Has b at (digits 8 x) → at + 8 ≤ wall → fixed_at b wall at 8 ≡ got (x, at + 8)
  byte-read x h s e = let is = num-digits b at 8 x h s in rw (← is) (fixed_in b wall at 8 e)

module _ (b : ℕ → ℕ) (wall at : ℕ) where
  -- what is written is read back, with its exact bits
  pub code-read8 : (v : ℕ) → v < 16384 → Has b at (code8 v) → at + length (code8 v) ≤ wall → read8 b wall at ≡ got (v, at + length (code8 v))
  unfolding read8 code8
  code-read8 v h s e =
      elim (dec_lt v 128) [
        | yes l ↦
            let n = length-short8 v l in
            let s' : Has b at (digits 8 v) = rw (lt-ltb v 128 l) at s in
            strict-short (eight-one b wall at (byte-read b wall at v (omega arith) s' (omega arith)) l) ∙ ap (λ (p : ℕ). got (v, p)) (omega arith)
        | no l ↦
            let n = length-long8 v (omega arith) in
            let s' : Has b at (digits 8 (128 + v / 128) ++ digits 8 (v % 128)) = rw (le-ltb v 128 (omega arith)) at s in
            let one = byte-read b wall at (128 + v / 128) (omega arith) (has_left b at (digits 8 (128 + v / 128)) _ s') (omega arith) in
            let s'' : Has b (at + 8) (digits 8 (v % 128)) = rw (length_digits 8 (128 + v / 128)) at (has_right b at (digits 8 (128 + v / 128)) _ s') in
            let two = byte-read b wall (at + 8) (v % 128) (omega arith) s'' (omega arith) in
            let less : 128 + v / 128 - 128 ≡ v / 128 = omega arith in
            let whole : v / 128 * 128 + v % 128 ≡ v = omega arith in
            let second : second8_at b wall (128 + v / 128 - 128) (at + 8) ≡ got (v / 128 * 128 + v % 128, at + 8 + 8, true) = rw less (second_short b wall (at + 8) (v / 128) two (λ z. omega arith) (omega arith)) in
            strict-short (eight-two b wall at one (omega arith) ∙ second) ∙ rw whole (ap (λ (p : ℕ). got (v, p)) (omega arith))
      ]

pub record Coded8 (b : ℕ → ℕ) (wall at v p : ℕ) : Type 0 where
  pub stands : At b at (code8 v) p
  pub within : p ≤ wall
  pub small : v < 16384

module _ (b : ℕ → ℕ) (bits : (i : ℕ) → b i < 2) (wall : ℕ) where
  Byte : ℕ → ℕ × ℕ → Type 0
  Byte at r = (r.0 < 256) × At b at (digits 8 r.0) r.1 × (r.1 ≤ wall)

  byte-found : (at : ℕ) → Ensures (fixed_at b wall at 8) (λ r. Byte at r)
  unfolding Byte
  byte-found at = record {
    says = λ r e.
        let f = (fixed-gives b wall at 8).says r e in
        (omega (arith, f.0, num-lt b bits at 8), rw (f.0, f.1) (at-digits bits at 8), omega (arith, f.1, f.2));
  }

  module _ (at : ℕ) where
    one : (x p : ℕ) → x < 128 → Byte at (x, p) → Coded8 b wall at x p
    unfolding Byte code8
    one x p h f = record { stands = rw (lt-ltb x 128 h) f.1; within = f.2; small = omega arith }

    two : (x p y q : ℕ) → 128 < x → y < 128 → Byte at (x, p) → Byte p (y, q) → Coded8 b wall at ((x - 128) * 128 + y) q
    unfolding Byte code8
    two x p y q h k f g =
        let v = (x - 128) * 128 + y in
        let e : 128 + v / 128 ≡ x = omega arith in
        let e' : v % 128 ≡ y = omega arith in
        record { stands = rw (le-ltb v 128 (omega arith), e, e') (at_both f.1 g.1); within = g.2; small = omega (arith, f.0) }

    second-found : (x p : ℕ) → 128 ≤ x → Byte at (x, p) → Ensures (second8_at b wall (x - 128) p) (λ r. r.2 ≡ true → Coded8 b wall at r.0 r.1)
    unfolding second8_at
    second-found x p h f = bind (byte-found p) λ r g. elim (dec_lt r.0 128) [
      | yes k ↦ elim (ℕ_discrete (x - 128) 0) [
        | yes z ↦ rw (lt-ltb _ _ k, eq-eqb _ _ z) (gives (λ q. absurd (let w : ◌≡◌ {A = ℕ} 0 1 = cc in omega arith)))
        | no z ↦ rw (lt-ltb _ _ k, ne_eqb _ _ z) (gives (λ q. two x p r.0 r.1 (omega arith) k f g))
      ]
      | no k ↦ rw (le-ltb r.0 128 (omega arith)) stops
    ]

    pub number-found8 : Ensures (number8 b wall at) (λ r. r.2 ≡ true → Coded8 b wall at r.0 r.1)
    unfolding number8
    number-found8 = bind (byte-found at) λ r f. elim (dec_lt r.0 128) [
      | yes k ↦ rw (lt-ltb _ _ k) (gives (λ q. one r.0 r.1 k f))
      | no k ↦ rw (le-ltb r.0 128 (omega arith)) (second-found r.0 r.1 (omega arith) f)
    ]

    pub read-code8 : Ensures (read8 b wall at) (λ r. Coded8 b wall at r.0 r.1)
    unfolding read8 strict
    read-code8 = bind number-found8 λ r g. short r.0 r.1 r.2 g
      where
        short : (v p : ℕ) (t : Bool) → (t ≡ true → Coded8 b wall at v p) → Ensures {A = ℕ × ℕ} (cond t (got (v, p)) (fault not_shortest)) (λ r. Coded8 b wall at r.0 r.1)
        short v p true g = gives (g refl)
        short v p false g = stops
