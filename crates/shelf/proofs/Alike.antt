-- Files of one length that have a block in common: all that is judged of it is the same.
use Rattle.std.proofs.Common.{◌≡◌, ℕ, zero, suc, ◌+◌, ◌-◌, ◌*◌, ◌/◌, ◌%◌, ◌<◌, Bool, false, cond, eqb, List, length, get_or, sym, refl, ap, ◌∙◌, arith}
use Rattle.buffers.specs.Bytes.{word_from}
use Rattle.shelf.specs.Block.{sum_to}
use Rattle.shelf.specs.Judge.{place_of, byte_of, last, number_at, used_at, first_at, zeros_from, some_used, rest_zero, first_inside, zero_first, alone, reason, closes}
use Rattle.shelf.proofs.Parts.{part_of, part_at, part-word, part-sum}

zeros-alike : (f g : List ℕ) (at k : ℕ) → ((j : ℕ) → j < k → get_or g (at + j) 0 ≡ get_or f (at + j) 0) → zeros_from g at k ≡ zeros_from f at k
unfolding zeros_from
zeros-alike f g at zero h = refl
zeros-alike f g at (suc k) h =
    let z : at + 0 ≡ at = omega arith in
    let e : get_or g at 0 ≡ get_or f at 0 = rw z at (h 0 (omega arith)) in
    ap (λ (x : ℕ). cond (eqb x 0) (zeros_from g (at + 1) k) false) e
    ∙ ap (λ (x : Bool). cond (eqb (get_or f at 0) 0) x false) (zeros-alike f g (at + 1) k (λ j l. let y : at + 1 + j ≡ at + suc j = omega arith in rw y (h (suc j) (omega arith))))

module _ (f g : List ℕ) (i : ℕ) (e : part_of g i ≡ part_of f i) (l : length g ≡ length f) where
  byte : (j k : ℕ) → k ≡ 512 * i + j → j < 512 → get_or g k 0 ≡ get_or f k 0
  byte j k h m = sym (part_at g i j k h m) ∙ ap (λ (x : List ℕ). get_or x j 0) e ∙ part_at f i j k h m

  word : (at k : ℕ) → k ≡ 512 * i + at → at + 3 < 512 → word_from g k ≡ word_from f k
  word at k h m = sym (part-word g i at k h m) ∙ ap (λ (x : List ℕ). word_from x at) e ∙ part-word f i at k h m

  pub number-alike : number_at g i ≡ number_at f i
  number-alike = word 0 (512 * i) (omega arith) (omega arith)

  pub used-alike : used_at g i ≡ used_at f i
  used-alike = rw (byte 4 (512 * i + 4) refl (omega arith), byte 5 (512 * i + 4 + 1) (omega arith) (omega arith))

  pub first_alike : first_at g i ≡ first_at f i
  first_alike = rw (byte 6 (512 * i + 6) refl (omega arith), byte 7 (512 * i + 6 + 1) (omega arith) (omega arith))

  sum_alike : sum_to g (512 * i) 127 ≡ sum_to f (512 * i) 127
  sum_alike = sym (part-sum g i 127 (omega arith)) ∙ ap (λ (x : List ℕ). sum_to x 0 127) e ∙ part-sum f i 127 (omega arith)

  pub byte-alike : (k : ℕ) → k / 498 ≡ i → byte_of g k ≡ byte_of f k
  byte-alike k h = byte (8 + k % 498) (place_of k) (omega arith) (omega arith)

  last-alike : last g i ≡ last f i
  last-alike = rw l

  some_alike : some_used g i ≡ some_used f i
  unfolding some_used
  some_alike = rw (used-alike, last-alike)

  rest-alike : rest_zero g i ≡ rest_zero f i
  unfolding rest_zero
  rest-alike =
      ap (λ (x : ℕ). zeros_from g (512 * i + 8 + x) (500 - x)) used-alike
      ∙ zeros-alike f g (512 * i + 8 + used_at f i) (500 - used_at f i) (λ j h. byte (8 + used_at f i + j) (512 * i + 8 + used_at f i + j) (omega arith) (omega arith))

  inside-alike : first_inside g i ≡ first_inside f i
  unfolding first_inside
  inside-alike = rw (first_alike, used-alike)

  zero-alike : zero_first g i ≡ zero_first f i
  unfolding zero_first
  zero-alike = rw (number-alike, first_alike)

  alone-alike : alone g i ≡ alone f i
  unfolding alone
  alone-alike = rw (some_alike, rest-alike, inside-alike, zero-alike)

  pub reason-alike : (want : ℕ) → reason g i want ≡ reason f i want
  unfolding reason
  reason-alike want = rw (sum_alike, word 508 (512 * i + 508) refl (omega arith), number-alike, alone-alike)

  pub closes-alike : closes g i ≡ closes f i
  unfolding closes
  closes-alike = rw (used-alike, l)
