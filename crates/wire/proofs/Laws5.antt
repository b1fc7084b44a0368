-- The two laws of vluimsbf5: the shortest code of a number is read as it, and what a strict reading accepts is that code.
use Prim.Native.Nat.{ℕ, zero, suc, ◌+◌, ◌*◌, ◌/◌, ◌^◌, ◌<◌, ◌≤◌, max}
use mathlib.Core.Path.{◌≡◌, refl, sym, ap, ap₂, ◌∙◌}
use mathlib.Core.Bool.{Bool, true, false, cond}
use mathlib.Core.List.{◌∷◌}
use native.Mathlib.Nat.{add-zero, zero-add, div-eq_of_lt, div-lt_iff_lt-mul, pow-le-pow_right}
use native.Mathlib.Omega.{arith}
use native.Mathlib.Decide.{dec_lt, ℕ_discrete}
use lib.Pow.{pow_pos}
use lib.ListN.{length, replicate, length-replicate}
use Rattle.numbers.specs.Refusal.{not_shortest}
use Rattle.wire.specs.Res.{got, fault, Ensures}
use Rattle.wire.proofs.Res.{gives, stops, bind}
use Rattle.wire.specs.Bits.{num, fixed_at, digits, Has}
use Rattle.wire.specs.At.{At}
use Rattle.wire.proofs.BitLaws.{num-lt, fixed_in, fixed-gives, has_left, has_right, has_both, num-digits, digits-num}
use Rattle.wire.specs.Number.{ones_at, is_short, groups_at, number5, strict, read5, more, code_of5, code5}
use Rattle.wire.proofs.Steps.{ones-past, ones-zero, ones-one, ones-full, short-one, short-not, short-more, groups-got, five-got, strict-short, more-few, more-many}
use Rattle.wire.proofs.Groups.{pow16, pow16-more, pos16, Shortest, more-is, more-shortest}
use Rattle.wire.proofs.WriteWays.{length-code_of5}

-- the ones, the zero
ones-code : (b : ℕ → ℕ) (wall n f at k : ℕ) → n < f → at + n < wall → Has b at (replicate n 1) → b (at + n) ≡ 0 → ones_at f b wall at k ≡ got (k + n, at + n + 1)
ones-code b wall zero f at k h e s z = ones-zero b wall at f k h (omega arith) (rw add-zero at z) ∙ ap₂ (λ (x y : ℕ). got (x, y)) (omega arith) (omega arith)
ones-code b wall (suc n) zero at k h e s z = absurd (omega arith)
ones-code b wall (suc n) (suc f) at k h e s z =
    ones-one b wall at f k refl (omega arith) (λ z'. omega (arith, s.0))
    ∙ ones-code b wall n f (at + 1) (k + 1) (omega arith) (omega arith) s.1 (ap b (omega arith) ∙ z)
    ∙ ap₂ (λ (x y : ℕ). got (x, y)) (omega arith) (omega arith)

record Ones (b : ℕ → ℕ) (wall f at k n p : ℕ) : Type 0 where
  m : ℕ
  count : n ≡ k + m
  next : p ≡ at + m + 1
  few : m < f
  within : p ≤ wall
  stand : Has b at (replicate m 1)
  stop : b (at + m) ≡ 0

code-ones : (b : ℕ → ℕ) → ((i : ℕ) → b i < 2) → (wall f at k : ℕ) → Ensures (ones_at f b wall at k) (λ r. Ones b wall f at k r.0 r.1)
code-ones b bits wall zero at k = rw (ones-full b wall at {f = 0} k refl) stops
code-ones b bits wall (suc f) at k =
    elim (dec_lt at wall) [
      | yes h ↦ elim (ℕ_discrete (b at) 0) [
        | yes z ↦ rw (ones-zero b wall at (suc f) k (omega arith) h z)
            (gives (record { m = 0; count = omega arith; next = omega arith; few = omega arith; within = omega arith; stand = tt; stop = rw add-zero z }))
        | no z ↦ rw (ones-one b wall at f k refl h z)
            (record { says = λ r e. one (omega (arith, bits at)) r.0 r.1 ((code-ones b bits wall f (at + 1) (k + 1)).says r e) })
      ]
      | no h ↦ rw (ones-past b wall at (suc f) k (omega arith) (omega arith)) stops
    ]
  where
    one : b at ≡ 1 → (n p : ℕ) → Ones b wall f (at + 1) (k + 1) n p → Ones b wall (suc f) at k n p
    one o n p r = record {
      m = suc r.m;
      count = omega (arith, r.count);
      next = omega (arith, r.next);
      few = omega (arith, r.few);
      within = r.within;
      stand = (o, r.stand);
      stop = ap b (omega arith) ∙ r.stop;
    }

-- never more than f
pub more-least : (f v : ℕ) → more f v ≤ f
unfolding more
more-least zero v = omega arith
more-least (suc f) v = elim (dec_lt v 16) [
  | yes h ↦ rw (more-few (suc f) v h) (omega arith)
  | no h ↦ rw (more-many f v (omega arith)) (omega (arith, more-least f (v / 16)))
]

quotient-zero : (v m : ℕ) → 0 < m → v / m ≡ 0 → v < m
quotient-zero v m h e = omega (arith, (div-lt_iff_lt-mul {k = m} {x = v} {y = 1} h).0 (omega arith))

-- of the shortest code the first group is not 0, unless it is the only one; and the other way round
short-yes : (n v : ℕ) → Shortest n v → is_short n v ≡ true
short-yes zero v s = short-one zero v refl
short-yes (suc n) v s =
    short-more (suc n) v (λ z. omega arith)
    (λ e. omega (arith, pos16 n, quotient-zero v (2 ^ (4 * suc n)) (pow_pos (4 * suc n)) e, pow16 (suc n)))

yes-short : (n v : ℕ) → is_short n v ≡ true → 16 ^ n ≤ max 1 v
yes-short zero v e = omega arith
yes-short (suc n) v e =
    elim (ℕ_discrete (v / 2 ^ (4 * suc n)) 0) [
      | yes z ↦
          let r = short-not (suc n) v (λ q. omega arith) z in
          let w : true ≡ false = sym e ∙ r in
          absurd (let q : ◌≡◌ {A = ℕ} 0 1 = cc in omega arith)
      | no z ↦ elim (dec_lt v (2 ^ (4 * suc n))) [ yes h ↦ absurd (z (div-eq_of_lt h)) | no h ↦ omega (arith, pow16 (suc n)) ]
    ]

-- a code of n + 1 groups, whether or not it is the shortest, is read with its bits and with whether it is
module _ (b : ℕ → ℕ) (wall at n v : ℕ) (few : n ≤ 7) (small : v < 16 ^ suc n) (s : Has b at (code_of5 n v)) (e : at + length (code_of5 n v) ≤ wall) where
  pub any-code-read : number5 b wall at ≡ got (v, at + length (code_of5 n v), is_short n v)
  unfolding code_of5
  any-code-read =
      let len = length-code_of5 n v in
      let rest = has_right b at (replicate n 1) _ s in
      let rest' : Has b (at + n) (0 ∷ digits (4 * (n + 1)) v) = rw (length-replicate {A = ℕ} n 1) at rest in
      let r = ones-code b wall n 8 at 0 (omega arith) (omega arith) (has_left b at (replicate n 1) _ s) rest'.0 in
      let r' : ones_at 8 b wall at 0 ≡ got (n, at + n + 1) = rw zero-add at r in
      let small' : v < 2 ^ (4 * (n + 1)) = rw (pow16-more n) small in
      let is = num-digits b (at + n + 1) (4 * (n + 1)) v small' rest'.1 in
      let f = fixed_in b wall (at + n + 1) (4 * (n + 1)) (omega arith) in
      let f' : fixed_at b wall (at + n + 1) (4 * (n + 1)) ≡ got (v, at + n + 1 + 4 * (n + 1)) = rw is at f in
      five-got b wall at r' ∙ groups-got b wall (at + n + 1) n f' ∙ ap (λ (p : ℕ). got (v, p, is_short n v)) (omega arith)

module _ (b : ℕ → ℕ) (wall at : ℕ) where
  -- what is written is read back, with its exact bits
  pub code-read5 : (v : ℕ) → v < 2 ^ 32 → Has b at (code5 v) → at + length (code5 v) ≤ wall → read5 b wall at ≡ got (v, at + length (code5 v))
  unfolding code5 read5
  code-read5 v h s e =
      let sh = more-shortest 7 v h in
      strict-short (any-code-read b wall at (more 7 v) v sh.1 sh.0.holds s e ∙ rw (short-yes (more 7 v) v sh.0))

code_is_lem : (n v : ℕ) → n ≤ 7 → Shortest n v → code5 v ≡ code_of5 n v
unfolding code5
code_is_lem n v h s = rw (more-is 7 n v h s)

-- a number that stands there in n + 1 groups
pub record Grouped (b : ℕ → ℕ) (wall at v p : ℕ) (short : Bool) : Type 0 where
  pub groups : ℕ
  pub few : groups ≤ 7
  pub small : v < 16 ^ suc groups
  pub stands : At b at (code_of5 groups v) p
  pub within : p ≤ wall
  pub told : short ≡ is_short groups v

-- what is read is the shortest code of its value
pub record Coded5 (b : ℕ → ℕ) (wall at v p : ℕ) : Type 0 where
  pub stands : At b at (code5 v) p
  pub within : p ≤ wall
  pub small : v < 2 ^ 32

module _ (b : ℕ → ℕ) (bits : (i : ℕ) → b i < 2) (wall at : ℕ) where
  code-stands : (n v : ℕ) → Has b at (replicate n 1) → b (at + n) ≡ 0 → Has b (at + n + 1) (digits (4 * (n + 1)) v) → Has b at (code_of5 n v)
  unfolding code_of5
  code-stands n v h z k = has_both b at (replicate n 1) _ h (rw (length-replicate {A = ℕ} n 1) (z, k))

  pub number-found5 : Ensures (number5 b wall at) (λ r. Grouped b wall at r.0 r.1 r.2)
  unfolding number5 groups_at
  number-found5 = bind (code-ones b bits wall 8 at 0) λ r o. bind (fixed-gives b wall r.1 (4 * (r.0 + 1))) λ q f. gives (grouped r.0 r.1 o q.0 q.1 f)
    where
      grouped : (n p : ℕ) → Ones b wall 8 at 0 n p → (v q : ℕ) → (v ≡ num b p (4 * (n + 1))) × (q ≡ p + 4 * (n + 1)) × (p + 4 * (n + 1) ≤ wall) → Grouped b wall at v q (is_short n v)
      grouped n p o v q f =
          let mn : o.m ≡ n = omega (arith, o.count) in
          let ones : Has b at (replicate n 1) = rw mn at o.stand in
          let stop : b (at + n) ≡ 0 = rw mn at o.stop in
          let p-at : p ≡ at + n + 1 = omega (arith, o.next) in
          let v-at : v ≡ num b (at + n + 1) (4 * (n + 1)) = rw p-at at f.0 in
          let there : Has b (at + n + 1) (digits (4 * (n + 1)) v) = rw v-at (digits-num b bits (at + n + 1) (4 * (n + 1))) in
          let under : num b p (4 * (n + 1)) < 16 ^ suc n = rw (pow16-more n) at (num-lt b bits p (4 * (n + 1))) in
          record {
            groups = n;
            few = omega (arith, o.few);
            small = omega (arith, f.0);
            stands = record { there = code-stands n v ones stop there; next = omega (arith, length-code_of5 n v, f.1) };
            within = omega (arith, f.1, f.2);
            told = refl;
          }

  pub read-code5 : Ensures (read5 b wall at) (λ r. Coded5 b wall at r.0 r.1)
  unfolding read5 strict
  read-code5 = bind number-found5 λ r g. short r.0 r.1 r.2 g
    where
      short : (v p : ℕ) (t : Bool) → Grouped b wall at v p t → Ensures {A = ℕ × ℕ} (cond t (got (v, p)) (fault not_shortest)) (λ r. Coded5 b wall at r.0 r.1)
      short v p true g =
          let l = yes-short g.groups v (sym g.told) in
          let is : code5 v ≡ code_of5 g.groups v = code_is_lem g.groups v g.few (record { holds = g.small; least = l }) in
          gives (record {
            stands = rw is g.stands;
            within = g.within;
            small = omega (arith, g.small, g.few, pow-le-pow_right {n = 16} (omega arith) {i = suc g.groups} {j = 8} (omega (arith, g.few)));
          })
      short v p false g = stops
