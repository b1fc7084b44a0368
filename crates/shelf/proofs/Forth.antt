-- The file cut from a stream, read: the stream's own verdict, block for block.
use Rattle.std.proofs.Common.{◌≡◌, ℕ, zero, suc, ◌+◌, ◌-◌, ◌*◌, ◌/◌, ◌%◌, ◌<◌, ◌≤◌, Bool, true, false, cond, eqb, ltb, List, length, sym, refl, ap, ◌∙◌, ⊎_elim, arith, le-ltb, lt-ltb, eq-eqb, ne_eqb, le-leb}
use borrow.Author.Tests.{lt-leb}
use Rattle.shelf.specs.Answers.{Walk, Over, To, Refused, Whole}
use Rattle.shelf.specs.Stream.{next, walk, judged, fault, named, first_from}
use Rattle.shelf.specs.Block.{bytes_from, sum_to, block, used_in, name_after, first_in, block_in, cut, blocks_for}
use Rattle.shelf.specs.Judge.{byte_of, blocks, last, number_at, used_at, first_at, sum_at, end_at, some_used, first_inside, zero_first, alone, reason, closes, walked, in_step}
use Rattle.shelf.specs.Shelf.{onward, scan_by, scan}
use Rattle.shelf.specs.Theorems.{verdict}
use Rattle.shelf.proofs.Sides.{less, same}
use Rattle.shelf.proofs.Walks.{walk-stop, walked-so, reached, stopped, longer-to, longer-over, walk-alike}
use Rattle.shelf.proofs.Bytes.{bytes-long, byte-of}
use Rattle.shelf.proofs.Cutting.{used-within, cut-long}
use Rattle.shelf.proofs.Scans.{closes-last}
use Rattle.shelf.proofs.Parts.{part_of, number_is, used-is, first_is, sum_is, byte-is, rest-is, cut-part}

module _ (b : ℕ → ℕ) (n : ℕ) where
  abbrev m : ℕ
  m = blocks_for n

  abbrev F : List ℕ
  F = cut b n m

  blocks-are : blocks F ≡ m
  blocks-are = omega (arith, cut-long b n m)

  held : ℕ → List ℕ
  held i = bytes_from b (498 * i) (used_in n i)

  used-held : (i : ℕ) → length (held i) ≡ used_in n i
  unfolding held
  used-held i = bytes-long b (498 * i) (used_in n i)

  few : (i : ℕ) → length (held i) ≤ 498
  few i = omega (arith, used-held i, used-within n i)

  part : (i : ℕ) → i < m → part_of F i ≡ block i (first_in b n i) (held i)
  unfolding block_in held
  part i h = cut-part b n m i h

  pub used-at : (i : ℕ) → i < m → used_at F i ≡ used_in n i
  used-at i h = used-is F i i (first_in b n i) (held i) (few i) (part i h) ∙ used-held i

  -- how many bytes a block has
  used-full : (i : ℕ) → 498 * i + 498 ≤ n → used_in n i ≡ 498
  used-full i h = simp (le-ltb (n - 498 * i) 498 (omega arith))

  used-left : (i : ℕ) → 498 * i ≤ n → n < 498 * i + 498 → used_in n i ≡ n - 498 * i
  used-left i h l = simp (lt-ltb (n - 498 * i) 498 (omega arith))

  pub before_last : (i : ℕ) → i + 1 < m → used_in n i ≡ 498
  before_last i h = used-full i (omega arith)

  pub at_last : (i : ℕ) → i + 1 ≡ m → 498 * i + used_in n i ≡ n
  at_last i h = ⊎_elim (λ (l : n < 498 * i + 498). omega (arith, used-left i (omega arith) l)) (λ (l : 498 * i + 498 ≤ n). omega (arith, used-full i l)) (less n (498 * i + 498))

  pub within : (i : ℕ) → i < m → 498 * i + used_in n i ≤ n
  within i h = ⊎_elim (λ (l : i + 1 < m). omega (arith, before_last i l)) (λ (l : m ≤ i + 1). omega (arith, at_last i (omega arith))) (less (i + 1) m)

  some : (i : ℕ) → i < m → 0 < used_in n i
  some i h = ⊎_elim (λ (l : i + 1 < m). omega (arith, before_last i l)) (λ (l : m ≤ i + 1). omega (arith, at_last i (omega arith))) (less (i + 1) m)

  -- its stream is the stream
  pub stream-is : (k : ℕ) → k < n → byte_of F k ≡ b k
  unfolding held
  stream-is k h =
      let i = k / 498 in
      let j = k % 498 in
      let l : i < m = omega arith in
      let e : 498 * i + j ≡ k = omega arith in
      let g : j < used_in n i =
      ⊎_elim (λ (q : i + 1 < m). omega (arith, before_last i q)) (λ (q : m ≤ i + 1). omega (arith, at_last i (omega arith))) (less (i + 1) m) in
      byte-is F i i (first_in b n i) (held i) (few i) (part i l) j (omega (arith, used-held i)) ∙ byte-of b (498 * i) (used_in n i) j g ∙ ap b e

  module _ (i p c : ℕ) (h : i < m) (w : walk b (498 * i) 0 0 ≡ To p c) where
    abbrev lo : ℕ
    lo = 498 * i

    abbrev hi : ℕ
    hi = 498 * i + used_in n i

    past : lo ≤ p + 1
    past = (reached (walked-so w)).past

    end_is : end_at F i ≡ hi
    end_is = ap (λ (x : ℕ). 498 * i + x) (used-at i h)

    pub first-at : first_at F i ≡ first_from b lo hi p
    unfolding first_in name_after
    first-at = first_is F i i (first_in b n i) (held i) (few i) (part i h) ∙ ap (name_after b lo hi) w

    -- the block alone
    some-used : some_used F i ≡ true
    unfolding some_used
    some-used =
        let s = some i h in
        let o = used-within n i in
        ⊎_elim
        (λ (l : i + 1 < m). rw (used-at i h, before_last i l))
        (λ (l : m ≤ i + 1).
        let e : last F i ≡ true = le-leb (blocks F) (i + 1) (omega (arith, blocks-are)) in
        rw (used-at i h, ne_eqb (used_in n i) 0 (λ z. omega arith), le-ltb 498 (used_in n i) o, e) (either (eqb (used_in n i) 498)))
        (less (i + 1) m)
      where
        either : (t : Bool) → cond t true true ≡ true
        either true = refl
        either false = refl

    name-inside : (q : ℕ) → cond (ltb (named lo hi q) (used_in n i)) true (eqb (named lo hi q) 65535) ≡ true
    name-inside q =
        let s = some i h in
        let o = used-within n i in
        ⊎_elim (λ (l : q < hi). rw (lt-ltb q hi l) (simp (lt-ltb (q - lo) (used_in n i) (omega arith))))
        (λ (l : hi ≤ q). rw (le-ltb q hi l) (simp (le-ltb 65535 (used_in n i) (omega arith)))) (less q hi)

    first-inside : first_inside F i ≡ true
    unfolding first_inside first_from
    first-inside =
        rw (first-at, used-at i h)
        (⊎_elim (λ (l : p < lo). rw (lt-ltb p lo l) (name-inside (next b p))) (λ (l : lo ≤ p). rw (le-ltb p lo l) (name-inside p)) (less p lo))

    zero-first : zero_first F i ≡ true
    unfolding zero_first first_from
    zero-first =
        ⊎_elim
        (λ (z : i ≡ 0).
        let e : To 0 0 ≡ To p c = sym (walk-stop b 0 0 0 (omega arith)) ∙ ap (λ (x : ℕ). walk b (498 * x) 0 0) (sym z) ∙ w in
        let q : p ≡ 0 = cc in
        let g : first_at F i ≡ 0 = first-at ∙ rw (le-ltb p lo (omega arith)) (rw (lt-ltb p hi (omega (arith, some i h))) (omega arith)) in
        simp (number_is F i i (first_in b n i) (held i) (few i) (part i h), eq-eqb i 0 z, eq-eqb (first_at F i) 0 g))
        (λ (z : i ≡ 0 → ⊥). simp (number_is F i i (first_in b n i) (held i) (few i) (part i h), ne_eqb i 0 z))
        (same i 0)

    pub no-reason : reason F i i ≡ 0
    unfolding reason alone
    no-reason =
        simp (
          eq-eqb (sum_to F (512 * i) 127) (sum_at F i) (sum_is F i i (first_in b n i) (held i) (few i) (part i h)),
          eq-eqb (number_at F i) i (number_is F i i (first_in b n i) (held i) (few i) (part i h)),
          some-used,
          rest-is F i i (first_in b n i) (held i) (few i) (part i h),
          first-inside,
          zero-first,
        )

    -- and in step
    named-alike : first_from (byte_of F) lo hi p ≡ first_from b lo hi p
    unfolding first_from
    named-alike =
        ⊎_elim
        (λ (l : p < lo).
        let o = within i h in
        let s = some i h in
        rw (lt-ltb p lo l) (ap (λ (x : ℕ). named lo hi (p + 6 + x)) (rw (stream-is p (omega arith), stream-is (p + 1) (omega arith)))))
        (λ (l : lo ≤ p). rw (le-ltb p lo l)) (less p lo)

    in_step_lem : in_step F i p c ≡ walked F i (walk b hi p c)
    unfolding in_step
    in_step_lem =
        let o = within i h in
        let e : first_at F i ≡ first_from (byte_of F) lo (end_at F i) p = first-at ∙ sym named-alike ∙ ap (λ (x : ℕ). first_from (byte_of F) lo x p) (sym end_is) in
        simp (eq-eqb (first_at F i) (first_from (byte_of F) lo (end_at F i) p) e)
        (ap (λ (x : ℕ). walked F i (walk (byte_of F) x p c)) end_is ∙ ap (walked F i) (walk-alike b (byte_of F) hi p c (λ k l. sym (stream-is k (omega arith)))))

  -- a block that is not the last, and the last
  pub open-before : (i : ℕ) → i + 1 < m → closes F i ≡ false
  unfolding closes
  open-before i h =
      rw (used-at i (omega arith), before_last i h)
      (simp (lt-leb (length F) (512 * (i + 1)) (omega (arith, cut-long b n m))))

  pub closed-last : (i : ℕ) → i + 1 ≡ m → closes F i ≡ true
  closed-last i h = closes-last F i (omega (arith, cut-long b n m))

  onto : (k i p c : ℕ) → i < m → walk b (498 * i) 0 0 ≡ To p c → scan_by (suc k) F i p c ≡ onward i (walked F i (walk b (498 * i + used_in n i) p c)) (scan_by k F (i + 1))
  unfolding scan_by
  onto k i p c h w = simp (no-reason i p c h w, in_step_lem i p c h w)

  whole-end : (i p c : ℕ) → scan_by zero F i p c ≡ Whole p c
  unfolding scan_by
  whole-end i p c = simp (eq-eqb (length F % 512) 0 (omega (arith, cut-long b n m)))

  scan-from : (k i p c : ℕ) → i + suc k ≡ m → walk b (498 * i) 0 0 ≡ To p c → scan_by (suc k) F i p c ≡ verdict n (judged n (walk b n p c))
  unfolding onward walked verdict judged
  scan-from zero i p c e w = by (walk b hi p c) refl
    where
      hi : ℕ
      hi = 498 * i + used_in n i

      past : 498 * i ≤ p + 1
      past = (reached (walked-so w)).past

      end : hi ≡ n
      end = at_last i (omega arith)

      ends : end_at F i ≡ n
      ends = ap (λ (x : ℕ). 498 * i + x) (used-at i (omega arith)) ∙ end

      by : (v : Walk) → walk b hi p c ≡ v → scan_by 1 F i p c ≡ verdict n (judged n (walk b n p c))
      by (Over q) g =
          let s = stopped (walked-so g) in
          let o = used-within n i in
          let a : (q + 1) / 498 ≡ i = omega (arith, s.before, s.on, past) in
          onto zero i p c (omega arith) w ∙ rw g (sym (ap (λ (x : Walk). verdict n (judged n x)) (longer-over b hi n p c q (omega (arith, end)) g) ∙ ap (Refused 33) a))
      by (To q d) g =
          let f : walk b n p c ≡ To q d = ap (λ (x : ℕ). walk b x p c) (sym end) ∙ g in
          ⊎_elim
          (λ (z : q ≡ n).
          onto zero i p c (omega arith) w ∙ rw g (simp (closed-last i (omega arith), eq-eqb q (end_at F i) (z ∙ sym ends)) (whole-end (i + 1) q d))
          ∙ ap (λ (x : ℕ). Whole x d) z ∙ sym (ap (λ (x : Walk). verdict n (judged n x)) f ∙ simp (eq-eqb q n z)))
          (λ (z : q ≡ n → ⊥).
          let o = some i (omega arith) in
          let u = used-within n i in
          let a : (n - 1) / 498 ≡ i = omega (arith, end) in
          onto zero i p c (omega arith) w ∙ rw g (simp (closed-last i (omega arith), ne_eqb q (end_at F i) (λ y. z (y ∙ ends))))
          ∙ sym (ap (λ (x : Walk). verdict n (judged n x)) f ∙ (simp (ne_eqb q n z)) ∙ ap (Refused 33) a))
          (same q n)
  scan-from (suc k) i p c e w = by (λ q d g. scan-from k (i + 1) q d (omega arith) g) (walk b hi p c) refl
    where
      hi : ℕ
      hi = 498 * i + used_in n i

      past : 498 * i ≤ p + 1
      past = (reached (walked-so w)).past

      full : hi ≡ 498 * (i + 1)
      full = omega (arith, before_last i (omega arith))

      by : ((q d : ℕ) → walk b (498 * (i + 1)) 0 0 ≡ To q d → scan_by (suc k) F (i + 1) q d ≡ verdict n (judged n (walk b n q d))) → (v : Walk) → walk b hi p c ≡ v
          → scan_by (suc (suc k)) F i p c ≡ verdict n (judged n (walk b n p c))
      by rest (Over q) g =
          let s = stopped (walked-so g) in
          let a : (q + 1) / 498 ≡ i = omega (arith, s.before, s.on, past, full) in
          onto (suc k) i p c (omega arith) w ∙ rw g (sym (ap (λ (x : Walk). verdict n (judged n x)) (longer-over b hi n p c q (omega (arith, full)) g) ∙ ap (Refused 33) a))
      by rest (To q d) g =
          let f : walk b (498 * (i + 1)) 0 0 ≡ To q d = ap (λ (x : ℕ). walk b x 0 0) (sym full) ∙ longer-to b (498 * i) hi 0 0 p c (omega arith) w ∙ g in
          onto (suc k) i p c (omega arith) w ∙ rw g (simp (open-before i (omega arith)) (rest q d f))
          ∙ sym (ap (λ (x : Walk). verdict n (judged n x)) (longer-to b hi n p c q d (omega (arith, full)) g))

  -- READING WHAT WAS CUT
  pub scan-cut : scan F ≡ verdict n (fault b n)
  unfolding scan fault verdict judged
  scan-cut = ap (λ (x : ℕ). scan_by x F 0 0 0) blocks-are ∙ by m refl
    where
      by : (k : ℕ) → m ≡ k → scan_by k F 0 0 0 ≡ verdict n (judged n (walk b n 0 0))
      by zero e =
          let z : n ≡ 0 = omega arith in
          whole-end 0 0 0 ∙ sym (ap (λ (x : Walk). verdict n (judged n x)) (walk-stop b n 0 0 (omega arith)) ∙ none z)
        where
          none : n ≡ 0 → verdict n (judged n (To 0 0)) ≡ Whole 0 0
          none z = rw z
      by (suc k) e = scan-from k 0 0 0 (omega arith) (walk-stop b 0 0 0 (omega arith))
