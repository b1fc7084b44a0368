-- Each way through the functions that read, as the code goes it: r is the answer of a call. `search` finds the premises.
use Prim.Native.Nat.{ℕ, ◌+◌, ◌-◌, ◌*◌, ◌^◌, ◌<◌, ◌≤◌}
use mathlib.Core.Path.{◌≡◌, refl, sym, ap, ◌∙◌}
use mathlib.Core.Bool.{Bool, true, false}
use mathlib.Core.List.{List}
use native.Mathlib.Omega.{arith}
use native.Mathlib.Decide.{ℕ_discrete, dec_lt}
use borrow.Author.Tests.{le-leb, lt-leb, le-ltb, lt-ltb}
use Rattle.wire.specs.declared.Bits.{Bits}
use Rattle.wire.specs.declared.Number.{Number}
use Rattle.std.specs.Prelude.{Result, Ok, Err, ltb}
use Rattle.numbers.specs.declared.refusal.Refusal.{Refusal}
use Rattle.numbers.specs.declared.refusal.Refusal.TheVariants as refusal
use Rattle.numbers.specs.Refused.{number_of}
use Rattle.numbers.specs.Refusal.{not_shortest}
use Rattle.wire.specs.Res.{Res, got, fault}
use Rattle.wire.specs.Bits.{bit_at, num, fixed_at}
use Rattle.wire.proofs.BitLaws.{bit-lt, num-under, fixed-past, fixed_in}
use Rattle.wire.specs.Answer.{Read, Numbered, Tells, read_by, number_by, read_is, number_is, fixed32}
use Rattle.wire.specs.Number.{number5, second8_at, number8, strict, read5, read8}
use Rattle.wire.proofs.Steps.{second-fault, second-third, second-long, second_short, eight-fault, eight-one, eight-two, strict-fault, strict-short, strict-long}

-- an answer of the code that is a result of the meaning
module _ {r : Read} {m : Res (ℕ × ℕ)} (e : read_is r ≡ m) where
  pub read-value : {v : ℕ} {p : Bits} → r ≡ Ok (v, p) → m ≡ got (v, p.0)
  unfolding read_is
  read-value w = sym e ∙ rw w

  pub read-refuse : {n : Refusal} → r ≡ Err n → m ≡ fault (number_of n)
  unfolding read_is
  read-refuse w = sym e ∙ rw w

module _ {r : Numbered} {m : Res (ℕ × ℕ × Bool)} (e : number_is r ≡ m) where
  pub number-value : {v : ℕ} {p : Bits} {t : Bool} → r ≡ Ok (record { value = v; next = p; short = t }) → m ≡ got (v, p.0, t)
  unfolding number_is
  number-value w = sym e ∙ rw w

  pub number-refuse : {n : Refusal} → r ≡ Err n → m ≡ fault (number_of n)
  unfolding number_is
  number-refuse w = sym e ∙ rw w

-- fixed
pub wide : (b : ℕ → ℕ) (wall at w : ℕ) → w ≤ 32 → fixed32 b wall at w ≡ fixed_at b wall at w
unfolding fixed32
wide b wall at w h = rw (le-leb _ _ h)

module _ (b : ℕ → ℕ) (wall at w : ℕ) where
  pub way-fixed-wide : 32 < w → read_is (Err refusal.TooLarge) ≡ fixed32 b wall at w
  unfolding fixed32 read_is
  way-fixed-wide h = rw (lt-leb _ _ h)

  module _ (n : w ≤ 32) where
    pub way-fixed-before : wall < at → read_is (Err refusal.PastEnd) ≡ fixed32 b wall at w
    unfolding read_is
    way-fixed-before h = sym (wide b wall at w n ∙ fixed-past b wall at w (omega arith))

    pub way-fixed-past : at ≤ wall → wall - at < w → read_is (Err refusal.PastEnd) ≡ fixed32 b wall at w
    unfolding read_is
    way-fixed-past h k = sym (wide b wall at w n ∙ fixed-past b wall at w (omega arith))

    pub way-fixed-in : at ≤ wall → w ≤ wall - at → (v : ℕ) (p : Bits) → v ≡ num b at w → p.0 ≡ at + w → read_is (Ok (v, p)) ≡ fixed32 b wall at w
    unfolding read_is
    way-fixed-in h k v p f g = rw (g, f) (sym (wide b wall at w n ∙ fixed_in b wall at w (omega arith)))

pub num-fits : (s : List ℕ) (at w v : ℕ) → w ≤ 32 → v ≡ num (bit_at s) at w → v < 2 ^ 32
num-fits s at w v h e = rw e (num-under (bit_at s) (bit-lt s) at h)

pub ruleset fixed-ways = (way-fixed-wide, way-fixed-before, way-fixed-past, way-fixed-in)

-- any8 and its second byte
module _ (b : ℕ → ℕ) (wall at : ℕ) (r : Read) (e : read_is r ≡ fixed32 b wall at 8) where
  byte-is : read_is r ≡ fixed_at b wall at 8
  byte-is = e ∙ wide b wall at 8 (omega arith)

  module _ (m : Refusal) (w : r ≡ Err m) where
    pub way-eight-refuse : number_is (Err m) ≡ number8 b wall at
    unfolding number_is
    way-eight-refuse = sym (eight-fault b wall at (read-refuse byte-is w))

    pub way-second-refuse : (x : ℕ) → number_is (Err m) ≡ second8_at b wall x at
    unfolding number_is
    way-second-refuse x = sym (second-fault b wall at x (read-refuse byte-is w))

  module _ (y : ℕ) (p : Bits) (w : r ≡ Ok (y, p)) where
    pub way-eight-one : y < 128 → number_is (Ok (record { value = y; next = p; short = true })) ≡ number8 b wall at
    unfolding number_is
    way-eight-one h = sym (eight-one b wall at (read-value byte-is w) h)

    pub way-eight-two : (q : Numbered) → 128 ≤ y → number_is q ≡ second8_at b wall (y - 128) p.0 → number_is q ≡ number8 b wall at
    way-eight-two q h f = f ∙ sym (eight-two b wall at (read-value byte-is w) h)

    pub way-second-third : (x : ℕ) → 128 ≤ y → number_is (Err refusal.TooLarge) ≡ second8_at b wall x at
    unfolding number_is
    way-second-third x h = sym (second-third b wall at x (read-value byte-is w) h)

    pub way-second-value : (x : ℕ) → y < 128 → number_is (Ok (record { value = x * 128 + y; next = p; short = ltb 0 x })) ≡ second8_at b wall x at
    unfolding number_is
    way-second-value x h = elim (ℕ_discrete x 0) [
      | yes z ↦ rw (le-ltb 0 x (omega arith)) (sym (second-long b wall at x (read-value byte-is w) z h))
      | no z ↦ rw (lt-ltb 0 x (omega arith)) (sym (second_short b wall at x (read-value byte-is w) z h))
    ]

-- a byte is below 256, so seven bits are left of a first one
byte-under : (s : List ℕ) (wall at : ℕ) (r : Read) → read_is r ≡ fixed32 (bit_at s) wall at 8 → (y : ℕ) (p : Bits) → r ≡ Ok (y, p) → y < 256
byte-under s wall at r e y p w = elim (dec_lt wall (at + 8)) [
  | yes h ↦
      let f = fixed-past (bit_at s) wall at 8 h in
      let g = read-value (byte-is (bit_at s) wall at r e) w in
      let z : ◌≡◌ {A = ℕ} 0 1 = cc in
      absurd (omega arith)
  | no h ↦
      let f = fixed_in (bit_at s) wall at 8 (omega arith) in
      let g = read-value (byte-is (bit_at s) wall at r e) w in
      let q : ◌≡◌ {A = ℕ × ℕ} (num (bit_at s) at 8, at + 8) (y, p.0) = cc in
      let z : num (bit_at s) at 8 ≡ y = ap (λ (x : ℕ × ℕ). x.0) q in
      omega (arith, num-under (bit_at s) (bit-lt s) at {w = 8} {k = 8} (omega arith))
]

pub seven-left : (s : List ℕ) (wall at : ℕ) (r : Read) → read_is r ≡ fixed32 (bit_at s) wall at 8 → (y : ℕ) (p : Bits) → r ≡ Ok (y, p) → y - 128 < 128
seven-left s wall at r e y p w = omega (arith, byte-under s wall at r e y p w)

pub ruleset eight-ways = (way-eight-refuse, way-eight-one, way-eight-two, seven-left)

pub ruleset second-ways = (way-second-refuse, way-second-third)

-- shortest, of any refusals that have numbers
module _ {E : Type 0} (number : E → ℕ) (n : Result Number E) where
  pub way-shortest-refuse : (m : E) → n ≡ Err m → read_by number (Err m) ≡ strict (number_by number n)
  unfolding read_by number_by
  way-shortest-refuse m w = sym (strict-fault (rw w))

  module _ (m : Number) (w : n ≡ Ok m) where
    pub way-shortest-yes : m.short ≡ true → read_by number (Ok (m.value, m.next)) ≡ strict (number_by number n)
    unfolding read_by number_by
    way-shortest-yes z = sym (strict-short {v = m.value} {p = m.next.0} (rw (w, z)))

    pub way-shortest-no : m.short ≡ false → (e : E) → number e ≡ not_shortest → read_by number (Err e) ≡ strict (number_by number n)
    unfolding read_by number_by
    way-shortest-no z e f = rw f (sym (strict-long {v = m.value} {p = m.next.0} (rw (w, z))))

-- shortest, where the refusals are names: what it promises of every way to number them, it promises of their own numbers
pub read-by : (r : Read) → read_by number_of r ≡ read_is r
unfolding read_by read_is
read-by (Ok (v, p)) = refl
read-by (Err e) = refl

pub number-by : (n : Numbered) → number_by number_of n ≡ number_is n
unfolding number_by number_is
number-by (Ok n) = refl
number-by (Err e) = refl

abbrev pub Shortest : Numbered → Read → Type 0
Shortest n r = (number : Refusal → ℕ) → Tells number (λ why e. e ≡ why) → read_by number r ≡ strict (number_by number n)

module _ (n : Numbered) where
  named : (r : Read) → read_by number_of r ≡ strict (number_by number_of n) → read_is r ≡ strict (number_is n)
  named r f = sym (read-by r) ∙ f ∙ ap strict (number-by n)

  pub by_name : (r : Read) → Shortest n r → read_is r ≡ strict (number_is n)
  by_name r f = named r (f number_of (λ why e w. ap number_of w))

  pub way-short-refuse : (m : Refusal) → n ≡ Err m → read_is (Err m) ≡ strict (number_is n)
  way-short-refuse m w = named (Err m) (way-shortest-refuse number_of n m w)

  module _ (v : ℕ) (p : Bits) (t : Bool) (w : n ≡ Ok (record { value = v; next = p; short = t })) where
    pub way-short-yes : t ≡ true → read_is (Ok (v, p)) ≡ strict (number_is n)
    way-short-yes z = named (Ok (v, p)) (way-shortest-yes number_of n _ w z)

    pub way-short-no : t ≡ false → read_is (Err refusal.NotShortest) ≡ strict (number_is n)
    way-short-no z = named (Err refusal.NotShortest) (way-shortest-no number_of n _ w z refusal.NotShortest refl)

pub ruleset short-ways = (way-short-refuse, way-short-yes, way-short-no)

-- vlu5, vlu8
pub way-strict5 : (b : ℕ → ℕ) (wall at : ℕ) (n : Numbered) (r : Read) → number_is n ≡ number5 b wall at → read_is r ≡ strict (number_is n) → read_is r ≡ read5 b wall at
unfolding read5
way-strict5 b wall at n r e f = f ∙ ap strict e

pub way-strict8 : (b : ℕ → ℕ) (wall at : ℕ) (n : Numbered) (r : Read) → number_is n ≡ number8 b wall at → read_is r ≡ strict (number_is n) → read_is r ≡ read8 b wall at
unfolding read8
way-strict8 b wall at n r e f = f ∙ ap strict e

pub ruleset strict-ways = (way-strict5, way-strict8)

-- the same by what shortest promises of names
pub way-named5 : (b : ℕ → ℕ) (wall at : ℕ) (n : Numbered) (r : Read) → number_is n ≡ number5 b wall at → Shortest n r → read_is r ≡ read5 b wall at
way-named5 b wall at n r e f = way-strict5 b wall at n r e (by_name n r f)

pub way-named8 : (b : ℕ → ℕ) (wall at : ℕ) (n : Numbered) (r : Read) → number_is n ≡ number8 b wall at → Shortest n r → read_is r ≡ read8 b wall at
way-named8 b wall at n r e f = way-strict8 b wall at n r e (by_name n r f)

pub ruleset named-ways = (way-named5, way-named8)
