-- A block in its file: what its head, its bytes, its zeros and its sum are.
use Rattle.std.proofs.Common.{◌≡◌, ℕ, zero, suc, ◌+◌, ◌-◌, ◌*◌, ◌/◌, ◌%◌, ◌<◌, ◌≤◌, Bool, true, false, cond, eqb, List, ◌++◌, length, get_or, take, drop, replicate, sym, refl, ap, ◌∙◌, ⊎_elim, arith, length-append, length-drop, get_or-drop, take_all, get_or-take, get_or-append-add, drop_at, eq-eqb, eqb-true}
use mathlib.Core.Bool.{false≢true}
use lib.ListN.{get_or-replicate, get_or-append}
use lib.Seq.{drop-append-le, take-append-le}
use Rattle.buffers.specs.Bytes.{four, word_from}
use Rattle.shelf.specs.Block.{sum_to, head_of, body_of, block, block_in, cut}
use Rattle.shelf.specs.Judge.{number_at, used_at, first_at, sum_at, zeros_from, rest_zero}
use Rattle.shelf.proofs.Sides.{less}
use Rattle.shelf.proofs.Sealing.{sum-front}
use Rattle.shelf.proofs.Cutting.{body-long, block-in-long, cut-long}

abbrev pub part_of : List ℕ → ℕ → List ℕ
part_of f i = take 512 (drop (512 * i) f)

pub part_at : (f : List ℕ) (i j k : ℕ) → k ≡ 512 * i + j → j < 512 → get_or (part_of f i) j 0 ≡ get_or f k 0
part_at f i j k e h = get_or-take 512 (drop (512 * i) f) j 0 h ∙ get_or-drop (512 * i) f j 0 ∙ ap (λ (x : ℕ). get_or f x 0) (sym e)

pub part-word : (f : List ℕ) (i at k : ℕ) → k ≡ 512 * i + at → at + 3 < 512 → word_from (part_of f i) at ≡ word_from f k
part-word f i at k e h =
    rw (part_at f i at k e (omega arith), part_at f i (at + 1) (k + 1) (omega arith) (omega arith), part_at f i (at + 2) (k + 2) (omega arith) (omega arith), part_at f i (at + 3) (k + 3) (omega arith) (omega arith))

pub part-sum : (f : List ℕ) (i k : ℕ) → 4 * k ≤ 512 → sum_to (part_of f i) 0 k ≡ sum_to f (512 * i) k
unfolding sum_to
part-sum f i zero h = refl
part-sum f i (suc k) h = rw (part-sum f i k (omega arith), part-word f i (0 + 4 * k) (512 * i + 4 * k) (omega arith) (omega arith))

-- zeros by place
pub zeros-are : (f : List ℕ) (at k : ℕ) → zeros_from f at k ≡ true → (j : ℕ) → j < k → get_or f (at + j) 0 ≡ 0
unfolding zeros_from
zeros-are f at zero e j h = absurd (omega arith)
zeros-are f at (suc k) e j h = by (eqb (get_or f at 0) 0) refl e (λ g i l. zeros-are f (at + 1) k g i l) j h
  where
    by : (t : Bool) → eqb (get_or f at 0) 0 ≡ t → cond t (zeros_from f (at + 1) k) false ≡ true → (zeros_from f (at + 1) k ≡ true → (i : ℕ) → i < k → get_or f (at + 1 + i) 0 ≡ 0)
        → (j : ℕ) → j < suc k → get_or f (at + j) 0 ≡ 0
    by false p e r j h = absurd (false≢true e)
    by true p e r zero h = let z : at + 0 ≡ at = omega arith in rw z (eqb-true _ _ p)
    by true p e r (suc j) h = let z : at + suc j ≡ at + 1 + j = omega arith in rw z (r e j (omega arith))

pub zeros-true : (f : List ℕ) (at k : ℕ) → ((j : ℕ) → j < k → get_or f (at + j) 0 ≡ 0) → zeros_from f at k ≡ true
unfolding zeros_from
zeros-true f at zero h = refl
zeros-true f at (suc k) h =
    let e : at + 0 ≡ at = omega arith in
    let z : get_or f at 0 ≡ 0 = rw e at (h 0 (omega arith)) in
    simp (eq-eqb (get_or f at 0) 0 z) (zeros-true f (at + 1) k (λ j l. let g : at + 1 + j ≡ at + suc j = omega arith in rw g (h (suc j) (omega arith))))

module _ (f : List ℕ) (i n φ : ℕ) (d : List ℕ) (u : length d ≤ 498) (e : part_of f i ≡ block n φ d) where
  byte : (k j : ℕ) → k ≡ 512 * i + j → j < 512 → get_or f k 0 ≡ get_or (block n φ d) j 0
  byte k j g h = sym (part_at f i j k g h) ∙ ap (λ (x : List ℕ). get_or x j 0) e

  pub number_is : number_at f i ≡ n
  unfolding block body_of
  number_is =
      let a : get_or f (512 * i) 0 ≡ n / 16777216 = byte (512 * i) 0 (omega arith) (omega arith) in
      let b : get_or f (512 * i + 1) 0 ≡ n / 65536 % 256 = byte (512 * i + 1) 1 (omega arith) (omega arith) in
      let c : get_or f (512 * i + 2) 0 ≡ n / 256 % 256 = byte (512 * i + 2) 2 (omega arith) (omega arith) in
      let d : get_or f (512 * i + 3) 0 ≡ n % 256 = byte (512 * i + 3) 3 (omega arith) (omega arith) in
      omega arith

  pub used-is : used_at f i ≡ length d
  unfolding block body_of
  used-is =
      let a : get_or f (512 * i + 4) 0 ≡ length d / 256 = byte (512 * i + 4) 4 (omega arith) (omega arith) in
      let b : get_or f (512 * i + 4 + 1) 0 ≡ length d % 256 = byte (512 * i + 4 + 1) 5 (omega arith) (omega arith) in
      omega arith

  pub first_is : first_at f i ≡ φ
  unfolding block body_of
  first_is =
      let a : get_or f (512 * i + 6) 0 ≡ φ / 256 = byte (512 * i + 6) 6 (omega arith) (omega arith) in
      let b : get_or f (512 * i + 6 + 1) 0 ≡ φ % 256 = byte (512 * i + 6 + 1) 7 (omega arith) (omega arith) in
      omega arith

  long : length (body_of n φ d) ≡ 508
  long = body-long n φ d u

  -- a byte of the sum, and one before it
  tail : (k j : ℕ) → k ≡ 512 * i + 508 + j → j < 4 → get_or f k 0 ≡ get_or (four (sum_to (body_of n φ d) 0 127)) j 0
  unfolding block
  tail k j g h =
      let x : 508 + j ≡ length (body_of n φ d) + j = omega (arith, long) in
      byte k (508 + j) (omega arith) (omega arith) ∙ ap (λ (y : ℕ). get_or (block n φ d) y 0) x ∙ get_or-append-add (body_of n φ d) (four (sum_to (body_of n φ d) 0 127)) j 0

  body : (k j : ℕ) → k ≡ 512 * i + j → j < 508 → get_or f k 0 ≡ get_or (body_of n φ d) j 0
  unfolding block
  body k j g h = byte k j g (omega arith) ∙ get_or-append (body_of n φ d) (four (sum_to (body_of n φ d) 0 127)) 0 j (omega (arith, long))

  pub sum_is : sum_to f (512 * i) 127 ≡ sum_at f i
  unfolding block
  sum_is =
      let S = sum_to (body_of n φ d) 0 127 in
      let a : get_or f (512 * i + 508) 0 ≡ S / 16777216 = tail (512 * i + 508) 0 (omega arith) (omega arith) in
      let b : get_or f (512 * i + 508 + 1) 0 ≡ S / 65536 % 256 = tail (512 * i + 508 + 1) 1 (omega arith) (omega arith) in
      let c : get_or f (512 * i + 508 + 2) 0 ≡ S / 256 % 256 = tail (512 * i + 508 + 2) 2 (omega arith) (omega arith) in
      let g : get_or f (512 * i + 508 + 3) 0 ≡ S % 256 = tail (512 * i + 508 + 3) 3 (omega arith) (omega arith) in
      let s : S ≡ sum_at f i = omega arith in
      sym (part-sum f i 127 (omega arith)) ∙ ap (λ (x : List ℕ). sum_to x 0 127) e ∙ sum-front (body_of n φ d) (four S) 0 127 (omega (arith, long)) ∙ s

  pub byte-is : (j : ℕ) → j < length d → get_or f (512 * i + 8 + j) 0 ≡ get_or d j 0
  unfolding body_of
  byte-is j h =
      body (512 * i + 8 + j) (8 + j) (omega arith) (omega arith)
      ∙ get_or-append (head_of n (length d) φ ++ d) (replicate (500 - length d) 0) 0 (8 + j) (simp length-append (omega arith))
      ∙ get_or-append-add (head_of n (length d) φ) d j 0

  pub rest-is : rest_zero f i ≡ true
  unfolding rest_zero body_of
  rest-is =
      rw used-is
      (zeros-true f (512 * i + 8 + length d) (500 - length d)
      (λ j h.
      let x : 8 + length d + j ≡ length (head_of n (length d) φ ++ d) + j = simp length-append (omega arith) in
      body (512 * i + 8 + length d + j) (8 + length d + j) (omega arith) (omega arith)
      ∙ ap (λ (y : ℕ). get_or (body_of n φ d) y 0) x
      ∙ get_or-append-add (head_of n (length d) φ ++ d) (replicate (500 - length d) 0) j 0
      ∙ get_or-replicate (500 - length d) j 0 0 h))

-- a block of the file that was cut
pub cut-part : (b : ℕ → ℕ) (n m i : ℕ) → i < m → part_of (cut b n m) i ≡ block_in b n i
unfolding cut
cut-part b n zero i h = absurd (omega arith)
cut-part b n (suc m) i h =
    let l = cut-long b n m in
    ⊎_elim
    (λ (g : i < m).
    ap (take 512) (drop-append-le (512 * i) (cut b n m) (block_in b n m) (omega arith))
    ∙ take-append-le 512 (drop (512 * i) (cut b n m)) (block_in b n m) (simp length-drop (omega arith)) ∙ cut-part b n m i g)
    (λ (g : m ≤ i).
    let q : i ≡ m = omega arith in
    rw q (ap (take 512) (drop_at (cut b n m) (block_in b n m) (512 * m) l) ∙ take_all 512 (block_in b n m) (omega (arith, block-in-long b n m))))
    (less i m)
