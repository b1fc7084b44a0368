-- Blocks made in the places where their data stand: one block, and one after another.
use Rattle.std.proofs.Common.{◌≡◌, ℕ, ◌+◌, ◌-◌, ◌*◌, ◌/◌, ◌%◌, ◌<◌, ◌≤◌, min, List, ◌++◌, length, get_or, take, drop, sym, refl, ap, ◌∙◌, ⊎_elim, append_assoc, add-one, arith, length-drop, get_or-drop, drop-drop, take_at, get_or-append-add, drop_at, le-ltb, lt-ltb}
use lib.Seq.{drop-append-le, take-append-le}
use borrow.Rule.Slice.PartMut.{put_mid, mid_of, Post-is}
use Rattle.shelf.specs.Answers.{Walk, Over, To}
use Rattle.shelf.specs.Stream.{byte_at, walk}
use Rattle.shelf.specs.Block.{bytes_from, block, used_in, name_after, first_in, block_in, cut, blocks_for}
use Rattle.shelf.specs.Judge.{place_of, byte_of}
use Rattle.shelf.specs.Promises.{walk_on}
use Rattle.shelf.proofs.Sides.{less}
use Rattle.shelf.proofs.Walks.{walk-alike}
use Rattle.shelf.proofs.Following.{hi-least, block-so, on-so, on-next, walk_at}
use Rattle.shelf.proofs.Bytes.{bytes-long, byte-of, bytes-alike}
use Rattle.shelf.proofs.Cutting.{used-within, cut-long}
use Rattle.shelf.proofs.Theorems.{after-alike}
use Rattle.shelf.proofs.Parts.{part_of, part_at, byte-is, cut-part}

-- bytes of a block in its place
mid-bytes : (f mid : List ℕ) (i u : ℕ) → mid ≡ part_of f i → u ≤ 498 → bytes_from (byte_at mid) 8 u ≡ bytes_from (byte_of f) (498 * i) u
mid-bytes f mid i u e h =
    bytes-alike (byte_at mid) (byte_of f) 8 (498 * i) u
    (λ j l. ap (λ (x : List ℕ). get_or x (8 + j) 0) e ∙ part_at f i (8 + j) (place_of (498 * i + j)) (omega arith) (omega arith))

-- one block made
pub block_made : (f d : List ℕ) (n i first used : ℕ) (w : Walk) → 512 * (i + 1) ≤ length f → used ≡ used_in n i → first ≡ name_after (byte_of f) (498 * i) (498 * i + used) w
    → d ≡ block i first (bytes_from (byte_at (mid_of (512 * i) (512 * i + 512 - 512 * i) f)) 8 used)
    → put_mid (512 * i) (512 * i + 512 - 512 * i) f d
    ≡ take (512 * i) f ++ block i (name_after (byte_of f) (498 * i) (498 * i + used_in n i) w) (bytes_from (byte_of f) (498 * i) (used_in n i)) ++ drop (512 * (i + 1)) f
block_made f d n i first used w h e g k =
    let o : 512 * i + 512 - 512 * i ≡ 512 = omega arith in
    let q : 512 * i + 512 ≡ 512 * (i + 1) = omega arith in
    let m : mid_of (512 * i) (512 * i + 512 - 512 * i) f ≡ part_of f i = ap (λ (x : ℕ). take x (drop (512 * i) f)) o in
    let B = block i first (bytes_from (byte_of f) (498 * i) used) in
    let s : d ≡ B = k ∙ ap (block i first) (mid-bytes f (mid_of (512 * i) (512 * i + 512 - 512 * i) f) i used m (omega (arith, used-within n i))) in
    ap (λ (x : List ℕ). take (512 * i) f ++ (d ++ x)) (Post-is (512 * i) (512 * i + 512) f (omega arith))
    ∙ sym (append_assoc (take (512 * i) f) d (drop (512 * i + 512) f))
    ∙ ap (λ (x : ℕ). take (512 * i) f ++ d ++ drop x f) q
    ∙ ap (λ (x : List ℕ). take (512 * i) f ++ x ++ drop (512 * (i + 1)) f) s
    ∙ ap (λ (x : ℕ). take (512 * i) f ++ block i x (bytes_from (byte_of f) (498 * i) used) ++ drop (512 * (i + 1)) f) g
    ∙ ap (λ (x : ℕ). take (512 * i) f ++ block i (name_after (byte_of f) (498 * i) (498 * i + x) w) (bytes_from (byte_of f) (498 * i) x) ++ drop (512 * (i + 1)) f) e

-- a block of bytes that agree
module _ (b b' : ℕ → ℕ) (n i : ℕ) (same : (k : ℕ) → k < n → b' k ≡ b k) (h : 498 * i < n) where
  hi : ℕ
  hi = 498 * i + used_in n i

  hi-in : hi ≤ n
  unfolding hi
  hi-in = omega (arith, hi-least n i h)

  same-walk : (w : Walk) → walk_on b' hi w ≡ walk_on b hi w
  unfolding walk_on
  same-walk (Over p) = refl
  same-walk (To p c) = let q = hi-in in walk-alike b b' hi p c (λ k l. sym (same k (omega arith)))

  same_bytes : bytes_from b' (498 * i) (used_in n i) ≡ bytes_from b (498 * i) (used_in n i)
  unfolding hi
  same_bytes = let q = hi-in in bytes-alike b' b (498 * i) (498 * i) (used_in n i) (λ j l. same (498 * i + j) (omega arith))

  pub block-alike : (w : Walk) → w ≡ walk b (498 * i) 0 0 → block i (name_after b' (498 * i) (498 * i + used_in n i) w) (bytes_from b' (498 * i) (used_in n i)) ≡ block_in b n i
  unfolding hi
  block-alike w g =
      ap (λ (x : ℕ). block i x (bytes_from b' (498 * i) (used_in n i))) (after-alike b' b n same (498 * i) hi w h)
      ∙ ap (block i (name_after b (498 * i) hi w)) same_bytes
      ∙ block-so b n i g

  pub walk-next : (w r : Walk) → w ≡ walk b (498 * i) 0 0 → r ≡ walk_on b' (498 * i + used_in n i) w → r ≡ walk b (min (498 * (i + 1)) n) 0 0
  unfolding hi
  walk-next w r g k = on-next b n i h (on-so b (498 * i) hi (omega arith) g (k ∙ same-walk w))

-- the stream stays while blocks are made
module _ (f₀ : List ℕ) (n : ℕ) where
  abbrev b : ℕ → ℕ
  b = byte_of f₀

  front-part : (f : List ℕ) (i j : ℕ) → f ≡ cut b n i ++ drop (512 * i) f₀ → j < i → part_of f j ≡ block_in b n j
  front-part f i j e h =
      ap (λ (x : List ℕ). part_of x j) e
      ∙ ap (take 512) (drop-append-le (512 * j) (cut b n i) (drop (512 * i) f₀) (omega (arith, cut-long b n i)))
      ∙ take-append-le 512 (drop (512 * j) (cut b n i)) (drop (512 * i) f₀) (simp length-drop (omega (arith, cut-long b n i)))
      ∙ cut-part b n i j h

  in-front : (f : List ℕ) (i k : ℕ) → f ≡ cut b n i ++ drop (512 * i) f₀ → k < n → k / 498 < i → byte_of f k ≡ b k
  unfolding block_in
  in-front f i k e l h =
      let j = k / 498 in
      let r = k % 498 in
      let held = bytes_from b (498 * j) (used_in n j) in
      let long : length held ≡ used_in n j = bytes-long b (498 * j) (used_in n j) in
      let u : r < used_in n j =
      ⊎_elim (λ (g : n - 498 * j < 498). rw (lt-ltb (n - 498 * j) 498 g) (omega arith)) (λ (g : 498 ≤ n - 498 * j). rw (le-ltb (n - 498 * j) 498 g) (omega arith)) (less (n - 498 * j) 498) in
      let k-is : 498 * j + r ≡ k = omega arith in
      byte-is f j j (first_in b n j) held (omega (arith, used-within n j)) (front-part f i j e h) r (omega arith) ∙ byte-of b (498 * j) (used_in n j) r u ∙ ap b k-is

  in_rest : (f : List ℕ) (i k : ℕ) → f ≡ cut b n i ++ drop (512 * i) f₀ → i ≤ k / 498 → byte_of f k ≡ b k
  in_rest f i k e h =
      let l = cut-long b n i in
      let j = place_of k - 512 * i in
      let a : place_of k ≡ length (cut b n i) + j = omega arith in
      let z : 512 * i + j ≡ place_of k = omega arith in
      ap (λ (x : List ℕ). get_or x (place_of k) 0) e
      ∙ ap (λ (x : ℕ). get_or (cut b n i ++ drop (512 * i) f₀) x 0) a
      ∙ get_or-append-add (cut b n i) (drop (512 * i) f₀) j 0
      ∙ get_or-drop (512 * i) f₀ j 0
      ∙ ap (λ (x : ℕ). get_or f₀ x 0) z

  stays : (f : List ℕ) (i k : ℕ) → f ≡ cut b n i ++ drop (512 * i) f₀ → k < n → byte_of f k ≡ b k
  stays f i k e l = ⊎_elim (λ (h : k / 498 < i). in-front f i k e l h) (λ (h : i ≤ k / 498). in_rest f i k e h) (less (k / 498) i)

  module _ (f : List ℕ) (i : ℕ) {w : Walk} (e : f ≡ cut b n i ++ drop (512 * i) f₀) (g₀ : w ≡ walk b (min (498 * i) n) 0 0) {m : ℕ} (h₀ : m ≡ blocks_for n) (h₁ : i < m) where
    h : 498 * i < n
    h = omega arith

    g : w ≡ walk b (498 * i) 0 0
    g = walk_at b n i g₀ h

    pub sealed-more : (f' : List ℕ)
        → f' ≡ take (512 * i) f ++ block i (name_after (byte_of f) (498 * i) (498 * i + used_in n i) w) (bytes_from (byte_of f) (498 * i) (used_in n i)) ++ drop (512 * (i + 1)) f
        → f' ≡ cut b n (i + 1) ++ drop (512 * (i + 1)) f₀
    unfolding cut
    sealed-more f' k =
        let l = cut-long b n i in
        let q : 512 * (i + 1) ≡ 512 * i + 512 = omega arith in
        let T = drop (512 * i) f₀ in
        let C = cut b n i in
        k
        ∙ ap (λ (x : List ℕ). take (512 * i) f ++ x ++ drop (512 * (i + 1)) f) (block-alike b (byte_of f) n i (λ j y. stays f i j e y) h w g)
        ∙ ap (λ (x : List ℕ). take (512 * i) x ++ block_in b n i ++ drop (512 * (i + 1)) x) e
        ∙ ap (λ (x : List ℕ). x ++ block_in b n i ++ drop (512 * (i + 1)) (C ++ T)) (take_at C T (512 * i) l)
        ∙ ap (λ (x : List ℕ). C ++ block_in b n i ++ x)
        (ap (λ (x : ℕ). drop x (C ++ T)) q ∙ sym (drop-drop 512 (512 * i) (C ++ T)) ∙ ap (drop 512) (drop_at C T (512 * i) l) ∙ drop-drop 512 (512 * i) f₀ ∙ ap (λ (x : ℕ). drop x f₀) (sym q))
        ∙ rw (add-one i)

    pub followed-next : (r : Walk) → r ≡ walk_on (byte_of f) (498 * i + used_in n i) w → r ≡ walk b (min (498 * (i + 1)) n) 0 0
    followed-next r k = walk-next b (byte_of f) n i (λ j y. stays f i j e y) h w r g k
