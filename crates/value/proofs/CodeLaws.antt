-- Every code is lawful: what is written is read back with its exact bits, what is read is the code of its value, no bit past the wall
-- is looked at; and the writer's test is exact.
use Prim.Native.Nat.{ℕ, zero, suc, ◌-◌, ◌<◌, ◌≤◌, ◌^◌, min}
use mathlib.Core.Path.{◌≡◌, refl, ap}
use mathlib.Core.Bool.{true, false}
use mathlib.Core.Logic.{⊎_elim}
use native.Mathlib.Omega.{arith}
use native.Mathlib.Decide.{dec_lt}
use borrow.Author.Tests.{le-leb, leb-true, lt-ltb, le-ltb, ltb-true}
use lib.ListN.{length-append}
use Rattle.numbers.specs.Refusal.{too_large, no_such_code, minus_zero}
use Rattle.wire.specs.Res.{Res, got, Ensures}
use Rattle.wire.proofs.Res.{gives, bind, under, then, under-then}
use Rattle.wire.specs.At.{At}
use Rattle.wire.proofs.BitLaws.{at_both, at_left, at_right}
use Rattle.wire.specs.Width.{width}
use Rattle.wire.proofs.Width.{width-holds}
use Rattle.wire.specs.Number.{read5, code5}
use Rattle.wire.specs.Lawful.{Binary, Stands, Lawful}
use Rattle.wire.proofs.Lawful.{fixed-lawful, five-lawful, fixed-below, bind-same}
use Rattle.signed.specs.Words.{up, sign_of, magnitude_of}
use Rattle.signed.proofs.Laws.{word-of-parts, parts_within, sign-of-plus, magnitude-of-plus, sign-of-minus, magnitude-of-minus, word-minus, word-plus}
use Rattle.value.specs.Code.{Code, choice, five, signed, some, shifted, stamp, word_less, HasCode, choice_bits, bits_of, choice_at, number_at, signed_of, some_of, code_at, fits}
use Rattle.value.proofs.DateLaws.{stamped-bits, clock-found, stamp-reads, clock-below, fits-stamp, stamp-fits}

abbrev pub Coded : (ℕ → ℕ) → Code → ℕ → ℕ → ℕ → ℕ → Type 0
Coded b c wall at v p = Stands b (HasCode c v) (bits_of c v) wall at p

-- what is read of a code is the code of its value
module _ (b : ℕ → ℕ) (bit : Binary b) where
  choice-found : (n wall at : ℕ) → Ensures (choice_at b n wall at) (λ r. Stands b (r.0 < n) (choice_bits n r.0) wall at r.1)
  unfolding choice_at
  choice-found n wall at =
      bind ((fixed-lawful (width n)).found b bit wall at) λ r f. under no_such_code λ h. gives (record { fits = omega arith; stands = f.stands; within = f.within })

  number-found : (most wall at : ℕ) → Ensures (number_at b most wall at) (λ r. Stands b (r.0 ≤ min most (2 ^ 32 - 1)) (code5 r.0) wall at r.1)
  unfolding number_at
  number-found most wall at =
      bind (five-lawful.found b bit wall at) λ r f. under too_large λ h. gives (record { fits = omega (arith, f.fits); stands = f.stands; within = f.within })

  signed-found : (wall at s m p q : ℕ) → Stands b (s < 2) (choice_bits 2 s) wall at p → Stands b (m < 2 ^ 32) (code5 m) wall p q → Ensures (signed_of s m q) (λ r. Coded b signed wall at r.0 r.1)
  unfolding signed_of bits_of HasCode
  signed-found wall at zero m p q f g = under too_large λ h. gives (record {
    fits = rw (word-plus m) (omega arith);
    stands = rw (sign-of-plus m (omega arith), magnitude-of-plus m (omega arith)) (at_both f.stands g.stands);
    within = g.within;
  })
  signed-found wall at (suc zero) m p q f g = under too_large λ h. under minus_zero λ k. gives (record {
    fits = rw (word-minus m) (omega arith);
    stands = rw (sign-of-minus m k h, magnitude-of-minus m k h) (at_both f.stands g.stands);
    within = g.within;
  })
  signed-found wall at (suc (suc k)) m p q f g = absurd (omega (arith, f.fits))

  some-found : (c : Code) (rd : ℕ → Res (ℕ × ℕ)) (wall at s p : ℕ) → ((p : ℕ) → Ensures (rd p) (λ r. Coded b c wall p r.0 r.1)) → Stands b (s < 2) (choice_bits 2 s) wall at p
      → Ensures (some_of rd s p) (λ r. Coded b (some c) wall at r.0 r.1)
  unfolding some_of bits_of HasCode
  some-found c rd wall at zero p ih f = gives (record { fits = tt; stands = f.stands; within = f.within })
  some-found c rd wall at (suc zero) p ih f = bind (ih p) λ r g. under no_such_code λ h. positive r.0 r.1 h g
    where
      positive : (v q : ℕ) → 1 ≤ v → Coded b c wall p v q → Ensures {A = ℕ × ℕ} (got (v, q)) (λ r. Coded b (some c) wall at r.0 r.1)
      positive zero q h g = absurd (omega arith)
      positive (suc k) q h g = gives (record { fits = g.fits; stands = at_both f.stands g.stands; within = g.within })
  some-found c rd wall at (suc (suc k)) p ih f = absurd (omega (arith, f.fits))

  code-found : (c : Code) (wall at : ℕ) → Ensures (code_at c b wall at) (λ r. Coded b c wall at r.0 r.1)
  unfolding code_at bits_of HasCode
  code-found (choice n) wall at = choice-found n wall at
  code-found (five most) wall at = number-found most wall at
  code-found signed wall at =
      bind (choice-found 2 wall at) λ r f.
      bind (five-lawful.found b bit wall r.1) λ s g. signed-found wall at r.0 s.0 r.1 s.1 f g
  code-found (some c) wall at = bind (choice-found 2 wall at) λ r f. some-found c (code_at c b wall) wall at r.0 r.1 (code-found c wall) f
  code-found (shifted lo c) wall at = bind (code-found c wall at) λ r f. under too_large λ h.
      let e : word_less lo (up lo r.0) ≡ r.0 = omega arith in
      gives (record { fits = (omega arith, rw e f.fits); stands = rw e f.stands; within = f.within })
  code-found (stamp clock) wall at = bind ((fixed-lawful 32).found b bit wall at) λ r f. clock-found b bit wall at r.0 r.1 f clock

pub sign_small : (v : ℕ) → v < 2 ^ 32 → (sign_of v < 2) × (magnitude_of v < 2 ^ 32)
sign_small v h = ⊎_elim (λ x. omega (arith, x.0, x.1)) (λ x. omega (arith, x.0, x.2)) (parts_within v h)

-- and the code of a value is read as the value
module _ (b : ℕ → ℕ) where
  choice-reads : (n wall at v p : ℕ) → v < n → At b at (choice_bits n v) p → p ≤ wall → choice_at b n wall at ≡ got (v, p)
  unfolding choice_at
  choice-reads n wall at v p h f k =
      then _ ((fixed-lawful (width n)).reads b wall at v p (omega (arith, width-holds n)) f k) (under-then no_such_code (omega arith) refl)

  number-reads : (most wall at v p : ℕ) → v ≤ min most (2 ^ 32 - 1) → At b at (code5 v) p → p ≤ wall → number_at b most wall at ≡ got (v, p)
  unfolding number_at
  number-reads most wall at v p h f k = then _ (five-lawful.reads b wall at v p (omega arith) f k) (under-then too_large (omega arith) refl)

  signed_reads : (v q : ℕ) → v < 2 ^ 32 → signed_of (sign_of v) (magnitude_of v) q ≡ got (v, q)
  unfolding signed_of
  signed_reads v q h =
      let w = word-of-parts v h in
      ⊎_elim (λ x. rw x.0 (under-then too_large (omega (arith, x.1)) (ap (λ (n : ℕ). got (n, q)) (rw x.0 at w))))
      (λ x. rw x.0 (under-then too_large x.2 (under-then minus_zero x.1 (ap (λ (n : ℕ). got (n, q)) (rw x.0 at w)))))
      (parts_within v h)

  code_reads : (c : Code) (wall at v p : ℕ) → HasCode c v → At b at (bits_of c v) p → p ≤ wall → code_at c b wall at ≡ got (v, p)
  unfolding code_at bits_of HasCode some_of
  code_reads (choice n) wall at v p h f k = choice-reads n wall at v p h f k
  code_reads (five most) wall at v p h f k = number-reads most wall at v p h f k
  code_reads signed wall at v p h f k =
      let s = sign_small v h in
      let x = choice_bits 2 (sign_of v) in
      let y = code5 (magnitude_of v) in
      let n = length-append x y in
      let e = f.next in
      then _ (choice-reads 2 wall at (sign_of v) _ s.0 (at_left x y f) (omega arith))
      (then _ (five-lawful.reads b wall _ (magnitude_of v) p s.1 (at_right x y f) k) (signed_reads v p h))
  code_reads (some c) wall at zero p h f k = then _ (choice-reads 2 wall at 0 p (omega arith) f k) refl
  code_reads (some c) wall at (suc v) p h f k =
      let n = length-append (choice_bits 2 1) (bits_of c (suc v)) in
      let e = f.next in
      then _ (choice-reads 2 wall at 1 _ (omega arith) (at_left (choice_bits 2 1) (bits_of c (suc v)) f) (omega arith))
      (then _ (code_reads c wall _ (suc v) p h (at_right (choice_bits 2 1) (bits_of c (suc v)) f) k) (under-then no_such_code (omega arith) refl))
  code_reads (shifted lo c) wall at v p h f k =
      let e : up lo (word_less lo v) ≡ v = omega (arith, h.0) in
      then _ (code_reads c wall at (word_less lo v) p h.1 f k) (under-then too_large (omega arith) (rw e))
  code_reads (stamp clock) wall at v p h f k = stamp-reads b clock wall at v p h (rw (stamped-bits clock v h) at f) k

-- no bit at the wall or past it is looked at
module _ (b c : ℕ → ℕ) (wall : ℕ) (s : (i : ℕ) → i < wall → b i ≡ c i) where
  choice-below : (n at : ℕ) → choice_at b n wall at ≡ choice_at c n wall at
  unfolding choice_at
  choice-below n at = bind-same _ _ _ _ (fixed-below b c wall s at (width n)) λ r e. refl

  five-below : (at : ℕ) → read5 b wall at ≡ read5 c wall at
  five-below at = five-lawful.below b c wall at s

  number-below : (most at : ℕ) → number_at b most wall at ≡ number_at c most wall at
  unfolding number_at
  number-below most at = bind-same _ _ _ _ (five-below at) λ r e. refl

  some_below : (f g : ℕ → Res (ℕ × ℕ)) → ((p : ℕ) → f p ≡ g p) → (s p : ℕ) → some_of f s p ≡ some_of g s p
  unfolding some_of
  some_below f g e zero p = refl
  some_below f g e (suc k) p = bind-same _ _ _ _ (e p) λ r h. refl

  code_below : (d : Code) (at : ℕ) → code_at d b wall at ≡ code_at d c wall at
  unfolding code_at
  code_below (choice n) at = choice-below n at
  code_below (five most) at = number-below most at
  code_below signed at = bind-same _ _ _ _ (choice-below 2 at) λ r e. bind-same _ _ _ _ (five-below r.1) λ q f. refl
  code_below (some d) at = bind-same _ _ _ _ (choice-below 2 at) λ r e. some_below _ _ (code_below d) r.0 r.1
  code_below (shifted lo d) at = bind-same _ _ _ _ (code_below d at) λ r e. refl
  code_below (stamp clock) at = bind-same _ _ _ _ (fixed-below b c wall s at 32) λ r e. clock-below b c wall s clock r.0 r.1

pub code-lawful : (c : Code) → Lawful (code_at c) (HasCode c) (bits_of c)
code-lawful c = record {
  found = λ b bit wall at. code-found b bit c wall at;
  reads = λ b wall at v p h f k. code_reads b c wall at v p h f k;
  below = λ b d wall at s. code_below b d wall s c at;
}

-- the writer's test says what fits
pub fits-true : (c : Code) (v : ℕ) → fits c v ≡ true → HasCode c v
unfolding fits HasCode
fits-true (choice n) v e = ltb-true v n e
fits-true (five most) v e = leb-true v _ e
fits-true signed v e = ltb-true v _ e
fits-true (some c) zero e = tt
fits-true (some c) (suc k) e = fits-true c (suc k) e
fits-true (shifted lo c) v e = elim (dec_lt v (2 ^ 32)) [
  | yes h ↦ (h, fits-true c (word_less lo v) (rw (lt-ltb v (2 ^ 32) h) at e))
  | no h ↦
      let f : false ≡ true = rw (le-ltb v (2 ^ 32) (omega arith)) at e in
      absurd (let z : ◌≡◌ {A = ℕ} 0 1 = cc in omega arith)
]
fits-true (stamp clock) v e = fits-stamp clock v e

pub true-fits : (c : Code) (v : ℕ) → HasCode c v → fits c v ≡ true
unfolding fits HasCode
true-fits (choice n) v h = lt-ltb v n h
true-fits (five most) v h = le-leb v _ h
true-fits signed v h = lt-ltb v _ h
true-fits (some c) zero h = refl
true-fits (some c) (suc k) h = true-fits c (suc k) h
true-fits (shifted lo c) v h = rw (lt-ltb v (2 ^ 32) h.0) (true-fits c (word_less lo v) h.1)
true-fits (stamp clock) v h = stamp-fits clock v h
