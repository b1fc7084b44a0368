-- The blocks of a stream: how long they are, what they name, one more of them in its place.
use Rattle.std.proofs.Common.{◌≡◌, ℕ, zero, suc, ◌+◌, ◌-◌, ◌*◌, ◌<◌, ◌≤◌, List, ◌++◌, length, take, drop, sym, refl, ap, ◌∙◌, ⊎_elim, append_assoc, add-one, arith, length-append, length-drop, drop-drop, take_at, drop_at, le-ltb, lt-ltb}
use lib.ListN.{length-replicate}
use borrow.Rule.Slice.PartMut.{put_mid, Post-is}
use Rattle.buffers.specs.Bytes.{four}
use Rattle.shelf.specs.Stream.{next, named, first_from}
use Rattle.shelf.specs.Block.{bytes_from, sum_to, body_of, block, used_in, first_in, block_in, cut}
use Rattle.shelf.proofs.Sides.{less}
use Rattle.shelf.proofs.Bytes.{bytes-long}

-- lengths
pub used-within : (n i : ℕ) → used_in n i ≤ 498
used-within n i = ⊎_elim (λ h. simp (lt-ltb (n - 498 * i) 498 h) (omega arith)) (λ h. simp (le-ltb (n - 498 * i) 498 h) (omega arith)) (less (n - 498 * i) 498)

pub body-long : (n f : ℕ) (d : List ℕ) → length d ≤ 498 → length (body_of n f d) ≡ 508
unfolding body_of
body-long n f d h = simp (length-append, length-replicate) (omega arith)

pub block-long : (n f : ℕ) (d : List ℕ) → length d ≤ 498 → length (block n f d) ≡ 512
unfolding block
block-long n f d h = length-append (body_of n f d) (four (sum_to (body_of n f d) 0 127)) ∙ omega (arith, body-long n f d h)

module _ (b : ℕ → ℕ) (n : ℕ) where
  pub block-in-long : (i : ℕ) → length (block_in b n i) ≡ 512
  unfolding block_in
  block-in-long i = block-long i (first_in b n i) (bytes_from b (498 * i) (used_in n i)) (omega (arith, bytes-long b (498 * i) (used_in n i), used-within n i))

  pub cut-long : (k : ℕ) → length (cut b n k) ≡ 512 * k
  unfolding cut
  cut-long zero = refl
  cut-long (suc k) = length-append (cut b n k) (block_in b n k) ∙ omega (arith, cut-long k, block-in-long k)

-- the first record that a block names is a number of two bytes
named_small : (lo hi p : ℕ) → hi ≤ lo + 498 → named lo hi p < 65536
named_small lo hi p h = ⊎_elim (λ i. simp (lt-ltb p hi i) (omega arith)) (λ i. simp (le-ltb p hi i) (omega arith)) (less p hi)

pub first_small : (b : ℕ → ℕ) (lo hi p : ℕ) → hi ≤ lo + 498 → first_from b lo hi p < 65536
unfolding first_from
first_small b lo hi p h = ⊎_elim (λ i. simp (lt-ltb p lo i) (named_small lo hi (next b p) h)) (λ i. simp (le-ltb p lo i) (named_small lo hi p h)) (less p lo)

-- one more block in its place
pub cut-none : (b : ℕ → ℕ) (n : ℕ) (file₀ : List ℕ) → file₀ ≡ cut b n 0 ++ drop (512 * 0) file₀
unfolding cut
cut-none b n file₀ = refl

pub cut-more : (b : ℕ → ℕ) (n i : ℕ) (file₀ file d : List ℕ) → 512 * i + 512 ≤ length file₀ → file ≡ cut b n i ++ drop (512 * i) file₀ → d ≡ block_in b n i
    → put_mid (512 * i) (512 * i + 512 - 512 * i) file d ≡ cut b n (i + 1) ++ drop (512 * (i + 1)) file₀
unfolding cut
cut-more b n i file₀ file d h e g =
    let l = cut-long b n i in
    let k : 512 * (i + 1) ≡ 512 * i + 512 = omega arith in
    ap (λ (x : List ℕ). take (512 * i) file ++ (d ++ x)) (Post-is (512 * i) (512 * i + 512) file (omega arith))
    ∙ ap (λ (x : List ℕ). take (512 * i) x ++ (d ++ drop (512 * i + 512) x)) e
    ∙ ap (λ (x : List ℕ). x ++ (d ++ drop (512 * i + 512) (cut b n i ++ drop (512 * i) file₀))) (take_at (cut b n i) (drop (512 * i) file₀) (512 * i) l)
    ∙ ap (λ (x : List ℕ). cut b n i ++ (d ++ x))
    (sym (drop-drop 512 (512 * i) (cut b n i ++ drop (512 * i) file₀)) ∙ ap (drop 512) (drop_at (cut b n i) (drop (512 * i) file₀) (512 * i) l) ∙ drop-drop 512 (512 * i) file₀)
    ∙ sym (append_assoc (cut b n i) d (drop (512 * i + 512) file₀))
    ∙ ap (λ (x : List ℕ). cut b n i ++ x ++ drop (512 * i + 512) file₀) g
    ∙ rw (k, add-one i)

pub cut-kept : (b : ℕ → ℕ) (n i : ℕ) (f f₀ : List ℕ) → 512 * i ≤ length f₀ → f ≡ cut b n i ++ drop (512 * i) f₀ → length f ≡ length f₀
cut-kept b n i f f₀ h e = ap length e ∙ simp (length-append, length-drop) (omega (arith, cut-long b n i))

pub cut-end : (b : ℕ → ℕ) (n i m : ℕ) (f f₀ : List ℕ) → f ≡ cut b n i ++ drop (512 * i) f₀ → i ≤ m → m ≤ i → f ≡ cut b n m ++ drop (512 * m) f₀
cut-end b n i m f f₀ e g h = let z : i ≡ m = omega arith in rw z at e
