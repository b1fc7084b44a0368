-- A block made in its place.
use Rattle.std.proofs.Common.{◌≡◌, ℕ, zero, suc, ◌+◌, ◌-◌, ◌*◌, ◌<◌, ◌≤◌, List, ◌++◌, length, get_or, take, drop, replicate, sym, refl, ap, ◌∙◌, append_assoc, append-nil, arith, length-append, length-drop, drop_of_length-le, length-take-le, drop-drop, take_at, get_or-append-add}
use lib.ListN.{length-replicate, get_or-append}
use lib.Seq.{sets, sets-eq, take-append-add}
use borrow.Rule.Slice.PartMut.{put_mid, mid_of, Post-is, mid_len}
use Rattle.buffers.specs.Bytes.{four, word_from}
use Rattle.shelf.specs.Stream.{byte_at}
use Rattle.shelf.specs.Block.{bytes_from, sum_to, head_of, body_of, block}
use Rattle.shelf.proofs.Bytes.{bytes-long, bytes-part, byte-of, bytes-alike}

-- the sum of words at the front of a list
pub word-front : (s t : List ℕ) (at : ℕ) → at + 3 < length s → word_from (s ++ t) at ≡ word_from s at
word-front s t at h =
    rw (get_or-append s t 0 at (omega arith), get_or-append s t 0 (at + 1) (omega arith), get_or-append s t 0 (at + 2) (omega arith), get_or-append s t 0 (at + 3) (omega arith))

pub sum-front : (s t : List ℕ) (at k : ℕ) → at + 4 * k ≤ length s → sum_to (s ++ t) at k ≡ sum_to s at k
unfolding sum_to
sum-front s t at zero h = refl
sum-front s t at (suc k) h = rw (sum-front s t at k (omega arith), word-front s t (at + 4 * k) (omega arith))

-- the head put, the rest cleared, the sum behind it
module _ (n f u : ℕ) (b b₁ b₂ z : List ℕ) (l : length b ≡ 512) (m : u ≤ 498) (e₁ : b₁ ≡ head_of n u f ++ drop 8 b) (e₂ : b₂ ≡ put_mid (8 + u) (508 - (8 + u)) b₁ z)
    (ez : z ≡ replicate (length (mid_of (8 + u) (508 - (8 + u)) b₁)) 0) where
  held : List ℕ
  held = bytes_from (byte_at b) 8 u

  held-is : held ≡ take u (drop 8 b)
  unfolding held
  held-is = bytes-part b 8 u (omega arith)

  front : take (8 + u) b₁ ≡ head_of n u f ++ held
  front = ap (take (8 + u)) e₁ ∙ take-append-add (head_of n u f) (drop 8 b) u ∙ ap (λ (x : List ℕ). head_of n u f ++ x) (sym held-is)

  behind : drop 508 b₁ ≡ drop 508 b
  behind = ap (drop 508) e₁ ∙ drop-drop 500 8 b

  body_is : body_of n f held ≡ head_of n u f ++ held ++ replicate (500 - u) 0
  unfolding body_of held
  body_is = rw (bytes-long (byte_at b) 8 u)

  zeros-are : z ≡ replicate (500 - u) 0
  zeros-are =
      let long : length b₁ ≡ 512 = ap length e₁ ∙ simp length-drop (omega arith) in
      let few : 508 - (8 + u) ≡ 500 - u = omega arith in
      ez ∙ ap (λ (x : ℕ). replicate x 0) (mid_len (8 + u) 508 b₁ (omega arith) ∙ few)

  cleared : b₂ ≡ body_of n f held ++ drop 508 b
  cleared =
      e₂
      ∙ ap (λ (x : List ℕ). take (8 + u) b₁ ++ (z ++ x)) (Post-is (8 + u) 508 b₁ (omega arith) ∙ behind)
      ∙ sym (append_assoc (take (8 + u) b₁) z (drop 508 b))
      ∙ ap (λ (x : List ℕ). x ++ z ++ drop 508 b) front
      ∙ ap (λ (x : List ℕ). head_of n u f ++ held ++ x ++ drop 508 b) zeros-are
      ∙ ap (λ (x : List ℕ). x ++ drop 508 b) (sym body_is)

  body-long : length (body_of n f held) ≡ 508
  unfolding held
  body-long =
      ap length body_is ∙ simp (length-append, length-replicate, bytes-long) (omega arith)

  pub sealed : (b₃ : List ℕ) (s : ℕ) → s ≡ sum_to b₂ 0 127 → b₃ ≡ sets b₂ 508 (four s) → b₃ ≡ block n f (bytes_from (byte_at b) 8 u)
  unfolding block held
  sealed b₃ s es e₃ =
      let B = body_of n f held in
      let t : s ≡ sum_to B 0 127 = es ∙ ap (λ (x : List ℕ). sum_to x 0 127) cleared ∙ sum-front B (drop 508 b) 0 127 (omega (arith, body-long)) in
      let r : 508 + 4 ≤ length (B ++ drop 508 b) = simp (length-append, length-drop) (omega (arith, body-long)) in
      e₃
      ∙ ap (λ (x : List ℕ). sets x 508 (four s)) cleared
      ∙ sets-eq (four s) (B ++ drop 508 b) 508 r
      ∙ ap (λ (x : List ℕ). x ++ four s ++ drop 512 (B ++ drop 508 b)) (take_at B (drop 508 b) 508 body-long)
      ∙ ap (λ (x : List ℕ). B ++ four s ++ x) (drop_of_length-le (B ++ drop 508 b) {i = 512} (simp (length-append, length-drop) (omega (arith, body-long))))
      ∙ append-nil (B ++ four s)
      ∙ ap (λ (x : ℕ). B ++ four x) t

-- a block of bytes that were copied behind its head
pub filled_is : (s b b₁ b₂ : List ℕ) (from u n f : ℕ) → length b ≡ 512 → u ≤ 498 → from + u ≤ length s → b₁ ≡ take 8 b ++ bytes_from (byte_at s) from u ++ drop (8 + u) b
    → b₂ ≡ block n f (bytes_from (byte_at b₁) 8 u) → b₂ ≡ block n f (bytes_from (byte_at s) from u)
filled_is s b b₁ b₂ from u n f l m h e g =
    let F = bytes_from (byte_at s) from u in
    let k : length (take 8 b) ≡ 8 = length-take-le 8 b (omega arith) in
    let o : (j : ℕ) → j < u → byte_at b₁ (8 + j) ≡ byte_at s (from + j) = λ j i.
    let x : 8 + j ≡ length (take 8 b) + j = omega arith in
    ap (λ (y : List ℕ). get_or y (8 + j) 0) (e ∙ append_assoc (take 8 b) F (drop (8 + u) b))
    ∙ ap (λ (y : ℕ). get_or (take 8 b ++ (F ++ drop (8 + u) b)) y 0) x
    ∙ get_or-append-add (take 8 b) (F ++ drop (8 + u) b) j 0
    ∙ get_or-append F (drop (8 + u) b) 0 j (omega (arith, bytes-long (byte_at s) from u))
    ∙ byte-of (byte_at s) from u j i in
    g ∙ ap (block n f) (bytes-alike (byte_at b₁) (byte_at s) 8 from u o)
