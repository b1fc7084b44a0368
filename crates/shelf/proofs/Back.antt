-- An accepted file is the writer's file of its stream.
use Rattle.std.proofs.Common.{◌≡◌, ℕ, zero, suc, ◌+◌, ◌-◌, ◌*◌, ◌/◌, ◌%◌, ◌<◌, ◌≤◌, true, List, [], ◌∷◌, ◌++◌, length, get_or, take, drop, replicate, sym, refl, ap, ◌∙◌, ⊎_elim, append-nil, add-one, arith, length-drop, take-append-drop, drop_of_length-le, length-take-le, get_or-drop, take_all, drop-cons, take-add, le-ltb, lt-ltb}
use lib.ListN.{get_or-eq_default}
use lib.Seq.{sets, sets-eq}
use borrow.Rule.Slice.PartMut.{put_mid, mid_of, put_same, mid_len}
use Rattle.buffers.specs.Bytes.{four, word_from, half_from}
use Rattle.shelf.specs.Answers.{Walk, To}
use Rattle.shelf.specs.Stream.{byte_at, walk, first_from}
use Rattle.shelf.specs.Block.{bytes_from, sum_to, head_of, block, used_in, name_after, first_in, block_in, cut, blocks_for}
use Rattle.shelf.specs.Judge.{place_of, byte_of, blocks, used_at, first_at, end_at, some_used, rest_zero}
use Rattle.shelf.specs.Theorems.{Octets}
use Rattle.shelf.proofs.Sides.{less}
use Rattle.shelf.proofs.Walks.{walk-stop, longer-to}
use Rattle.shelf.proofs.Bytes.{bytes-alike}
use Rattle.shelf.proofs.Sealing.{sealed}
use Rattle.shelf.proofs.Ways.{Used, used-so}
use Rattle.shelf.proofs.Scanning.{Fine, some-so, full-before, rest-so}
use Rattle.shelf.proofs.Scans.{Scans, none_left, even, total, last-used}
use Rattle.shelf.proofs.Parts.{part_of, part_at, part-word, part-sum, zeros-are}

-- bytes back from the numbers that they are
head-back : (B : List ℕ) → Octets B → 8 ≤ length B → head_of (word_from B 0) (half_from B 4) (half_from B 6) ++ drop 8 B ≡ B
head-back [] o h = absurd (omega arith)
head-back (a ∷ []) o h = absurd (omega arith)
head-back (a ∷ b ∷ []) o h = absurd (omega arith)
head-back (a ∷ b ∷ c ∷ []) o h = absurd (omega arith)
head-back (a ∷ b ∷ c ∷ d ∷ []) o h = absurd (omega arith)
head-back (a ∷ b ∷ c ∷ d ∷ e ∷ []) o h = absurd (omega arith)
head-back (a ∷ b ∷ c ∷ d ∷ e ∷ f ∷ []) o h = absurd (omega arith)
head-back (a ∷ b ∷ c ∷ d ∷ e ∷ f ∷ g ∷ []) o h = absurd (omega arith)
head-back (a ∷ b ∷ c ∷ d ∷ e ∷ f ∷ g ∷ i ∷ r) o h =
    let w = a * 16777216 + b * 65536 + c * 256 + d in
    let q₁ : b < 256 = o 1 in
    let q₂ : c < 256 = o 2 in
    let q₃ : d < 256 = o 3 in
    let q₅ : f < 256 = o 5 in
    let q₇ : i < 256 = o 7 in
    let e₀ : w / 16777216 ≡ a = omega arith in
    let e₁ : w / 65536 % 256 ≡ b = omega arith in
    let e₂ : w / 256 % 256 ≡ c = omega arith in
    let e₃ : w % 256 ≡ d = omega arith in
    let e₄ : (e * 256 + f) / 256 ≡ e = omega arith in
    let e₅ : (e * 256 + f) % 256 ≡ f = omega arith in
    let e₆ : (g * 256 + i) / 256 ≡ g = omega arith in
    let e₇ : (g * 256 + i) % 256 ≡ i = omega arith in
    rw (e₀, e₁, e₂, e₃, e₄, e₅, e₆, e₇)

four-back : (l : List ℕ) → Octets l → length l ≡ 4 → four (word_from l 0) ≡ l
four-back [] o h = absurd (omega arith)
four-back (a ∷ []) o h = absurd (omega arith)
four-back (a ∷ b ∷ []) o h = absurd (omega arith)
four-back (a ∷ b ∷ c ∷ []) o h = absurd (omega arith)
four-back (a ∷ b ∷ c ∷ d ∷ []) o h =
    let w = a * 16777216 + b * 65536 + c * 256 + d in
    let q₁ : b < 256 = o 1 in
    let q₂ : c < 256 = o 2 in
    let q₃ : d < 256 = o 3 in
    let e₀ : w / 16777216 ≡ a = omega arith in
    let e₁ : w / 65536 % 256 ≡ b = omega arith in
    let e₂ : w / 256 % 256 ≡ c = omega arith in
    let e₃ : w % 256 ≡ d = omega arith in
    rw (e₀, e₁, e₂, e₃)
four-back (a ∷ b ∷ c ∷ d ∷ e ∷ l) o h = absurd (omega arith)

zeros-back : (f : List ℕ) (k at : ℕ) → ((j : ℕ) → j < k → get_or f (at + j) 0 ≡ 0) → at + k ≤ length f → take k (drop at f) ≡ replicate k 0
zeros-back f zero at z h = refl
zeros-back f (suc k) at z h =
    let e : at + 0 ≡ at = omega arith in
    let g : get_or f at 0 ≡ 0 = rw e at (z 0 (omega arith)) in
    let s : suc at ≡ at + 1 = omega arith in
    rw (drop-cons f at 0 (omega arith), g, s) (ap (λ (x : List ℕ). 0 ∷ x) (zeros-back f k (at + 1) (λ j i. let y : at + 1 + j ≡ at + suc j = omega arith in rw y (z (suc j) (omega arith))) (omega arith)))

drop-octets : (B : List ℕ) (k : ℕ) → Octets B → Octets (drop k B)
drop-octets B k o i = rw (get_or-drop k B i 0) (o (k + i))

-- a block whose sum, zeros and bytes are right is the block of what it holds
block_back : (B : List ℕ) (u : ℕ) → Octets B → length B ≡ 512 → u ≤ 498 → half_from B 4 ≡ u → ((j : ℕ) → j < 500 - u → get_or B (8 + u + j) 0 ≡ 0) → sum_to B 0 127 ≡ word_from B 508
    → B ≡ block (word_from B 0) (half_from B 6) (bytes_from (byte_at B) 8 u)
block_back B u o l m e z s =
    let k : 508 - (8 + u) ≡ 500 - u = omega arith in
    let mid : mid_of (8 + u) (508 - (8 + u)) B ≡ replicate (500 - u) 0 = rw k (zeros-back B (500 - u) (8 + u) z (omega arith)) in
    let long : length (mid_of (8 + u) (508 - (8 + u)) B) ≡ 500 - u = mid_len (8 + u) 508 B (omega arith) ∙ k in
    let Z : List ℕ = replicate (length (mid_of (8 + u) (508 - (8 + u)) B)) 0 in
    let same : Z ≡ mid_of (8 + u) (508 - (8 + u)) B = ap (λ (x : ℕ). replicate x 0) long ∙ sym mid in
    let head : B ≡ head_of (word_from B 0) u (half_from B 6) ++ drop 8 B = sym (rw e at (head-back B o (omega arith))) in
    let kept : B ≡ put_mid (8 + u) (508 - (8 + u)) B Z = sym (ap (put_mid (8 + u) (508 - (8 + u)) B) same ∙ put_same (8 + u) (508 - (8 + u)) B) in
    let word : word_from (drop 508 B) 0 ≡ word_from B 508 = rw (get_or-drop 508 B 0 0, get_or-drop 508 B 1 0, get_or-drop 508 B 2 0, get_or-drop 508 B 3 0) in
    let four_is : four (word_from B 508) ≡ drop 508 B = ap four (sym word) ∙ four-back (drop 508 B) (drop-octets B 508 o) (simp length-drop (omega arith)) in
    let last : B ≡ sets B 508 (four (word_from B 508)) =
    sym
    (sets-eq (four (word_from B 508)) B 508 (omega arith)
    ∙ ap (λ (x : List ℕ). take 508 B ++ four (word_from B 508) ++ x) (drop_of_length-le B {i = 512} (omega arith))
    ∙ append-nil (take 508 B ++ four (word_from B 508)) ∙ ap (λ (x : List ℕ). take 508 B ++ x) four_is ∙ take-append-drop 508 B) in
    sealed (word_from B 0) (half_from B 6) u B B B Z l m head kept refl B (word_from B 508) (sym s) last

short : (l : List ℕ) (j : ℕ) → 512 ≤ j → length (take 512 l) ≤ j
short l j h =
    ⊎_elim (λ (g : length l < 512). rw (take_all 512 l (omega arith)) (omega arith)) (λ (g : 512 ≤ length l). rw (length-take-le 512 l g) h) (less (length l) 512)

-- block i of a file
module _ (f : List ℕ) (o : Octets f) (n d : ℕ) where
  abbrev b : ℕ → ℕ
  b = byte_of f

  part-octets : (i j : ℕ) → get_or (part_of f i) j 0 < 256
  part-octets i j =
      ⊎_elim (λ (h : j < 512). rw (part_at f i j (512 * i + j) refl h) (o (512 * i + j)))
      (λ (h : 512 ≤ j). rw (get_or-eq_default (part_of f i) 0 {n = j} (short (drop (512 * i) f) j h)) (omega arith)) (less j 512)

  block-is : (i p c : ℕ) → i < blocks f → Fine f i i → first_at f i ≡ first_from b (498 * i) (end_at f i) p → walk b (498 * i) 0 0 ≡ To p c → used_in n i ≡ used_at f i
      → part_of f i ≡ block_in b n i
  unfolding block_in first_in name_after rest_zero
  block-is i p c h g a w e =
      let B = part_of f i in
      let u = used-so f i (some-so f i g.alone) in
      let l : length B ≡ 512 = length-take-le 512 (drop (512 * i) f) (simp length-drop (omega arith)) in
      let number : word_from B 0 ≡ i = part-word f i 0 (512 * i) (omega arith) (omega arith) ∙ g.number in
      let half₄ : half_from B 4 ≡ used_at f i = rw (part_at f i 4 (512 * i + 4) refl (omega arith), part_at f i 5 (512 * i + 4 + 1) (omega arith) (omega arith)) in
      let half₆ : half_from B 6 ≡ first_at f i = rw (part_at f i 6 (512 * i + 6) refl (omega arith), part_at f i 7 (512 * i + 6 + 1) (omega arith) (omega arith)) in
      let zeros : (j : ℕ) → j < 500 - used_at f i → get_or B (8 + used_at f i + j) 0 ≡ 0 = λ j q.
      part_at f i (8 + used_at f i + j) (512 * i + 8 + used_at f i + j) (omega arith) (omega (arith, u.most))
      ∙ zeros-are f (512 * i + 8 + used_at f i) (500 - used_at f i) (rest-so f i g.alone) j q in
      let sum : sum_to B 0 127 ≡ word_from B 508 = part-sum f i 127 (omega arith) ∙ g.sums ∙ sym (part-word f i 508 (512 * i + 508) refl (omega arith)) in
      let held : bytes_from (byte_at B) 8 (used_at f i) ≡ bytes_from b (498 * i) (used_at f i) =
      bytes-alike (byte_at B) b 8 (498 * i) (used_at f i) (λ j q. part_at f i (8 + j) (place_of (498 * i + j)) (omega (arith, u.most)) (omega (arith, u.most))) in
      block_back B (used_at f i) (part-octets i) l u.most half₄ zeros sum
      ∙ ap (λ (x : ℕ). block x (half_from B 6) (bytes_from (byte_at B) 8 (used_at f i))) number
      ∙ ap (λ (x : ℕ). block i x (bytes_from (byte_at B) 8 (used_at f i))) (half₆ ∙ a)
      ∙ ap (block i (first_from b (498 * i) (end_at f i) p)) held
      ∙ ap (λ (x : ℕ). block i (first_from b (498 * i) (498 * i + x) p) (bytes_from b (498 * i) x)) (sym e)
      ∙ sym (ap (λ (x : Walk). block i (name_after b (498 * i) (498 * i + used_in n i) x) (bytes_from b (498 * i) (used_in n i))) w)

  -- all of them
  cut-back : (k i p c : ℕ) → Scans f n d k i p c → i + k ≡ blocks f → walk b (498 * i) 0 0 ≡ To p c → ((j : ℕ) → j < blocks f → used_in n j ≡ used_at f j) → take (512 * i) f ≡ cut b n i
      → take (512 * (i + k)) f ≡ cut b n (i + k)
  unfolding cut
  cut-back zero i p c r e w u t = let z : i + 0 ≡ i = omega arith in rw z t
  cut-back (suc k) i p c (Scans.more {q = q} {e = x} g s r) e w u t =
      let z : i + suc k ≡ i + 1 + k = omega arith in
      let y : 512 * (i + 1) ≡ 512 * i + 512 = omega arith in
      let h : i < blocks f = omega arith in
      let B : part_of f i ≡ block_in b n i = block-is i p c h g s.first w (u i h) in
      let t' : take (512 * (i + 1)) f ≡ cut b n (i + 1) =
      ap (λ (v : ℕ). take v f) y ∙ take-add (512 * i) 512 f ∙ ap (λ (v : List ℕ). v ++ part_of f i) t ∙ ap (λ (v : List ℕ). cut b n i ++ v) B ∙ rw (add-one i) in
      rw z (onward k i q x r (omega arith) (full-before f i (some-so f i g.alone)) (longer-to b (498 * i) (end_at f i) 0 0 p c (omega arith) w ∙ s.walk) t' (λ v. cut-back k (i + 1) q x r (omega arith) v u t'))
    where
      onward : (k i q x : ℕ) → Scans f n d k (i + 1) q x → i + 1 + k ≡ blocks f → (i + 1 < blocks f → used_at f i ≡ 498) → walk b (end_at f i) 0 0 ≡ To q x → take (512 * (i + 1)) f ≡ cut b n (i + 1)
          → (walk b (498 * (i + 1)) 0 0 ≡ To q x → take (512 * (i + 1 + k)) f ≡ cut b n (i + 1 + k)) → take (512 * (i + 1 + k)) f ≡ cut b n (i + 1 + k)
      onward zero i q x r e full w t rest = let y : i + 1 + 0 ≡ i + 1 = omega arith in rw y t
      onward (suc k) i q x r e full w t rest = let y : end_at f i ≡ 498 * (i + 1) = omega (arith, full (omega arith)) in rest (rw y at w)

  -- as many bytes as the stream gives it
  used-so-far : (k i p c : ℕ) → Scans f n d k i p c → i + k ≡ blocks f → (last : n ≡ end_at f (blocks f - 1)) → Used (used_at f (blocks f - 1)) → (j : ℕ) → i ≤ j → j < blocks f → used_in n j ≡ used_at f j
  used-so-far zero i p c r e l v j h q = absurd (omega arith)
  used-so-far (suc k) i p c (Scans.more {q = q} {e = x} g s r) e l v j h m =
      ⊎_elim (λ (y : i < j). used-so-far k (i + 1) q x r (omega arith) l v j (omega arith) m)
      (λ (y : j ≤ i).
      let z : j ≡ i = omega arith in
      rw z (here i (full-before f i (some-so f i g.alone)) (omega arith)))
      (less i j)
    where
      here : (i : ℕ) → (i + 1 < blocks f → used_at f i ≡ 498) → i < blocks f → used_in n i ≡ used_at f i
      here i full h =
          ⊎_elim
          (λ (y : i + 1 < blocks f). (simp (le-ltb (n - 498 * i) 498 (omega (arith, l, v.some)))) ∙ sym (full y))
          (λ (y : blocks f ≤ i + 1).
          let z : blocks f - 1 ≡ i = omega arith in
          let t : n ≡ end_at f i = l ∙ ap (end_at f) z in
          let o : used_at f i ≤ 498 = rw z at v.most in
          ⊎_elim (λ (a : n - 498 * i < 498). (simp (lt-ltb (n - 498 * i) 498 a)) ∙ (let d : n - 498 * i ≡ used_at f i = omega arith in d))
          (λ (a : 498 ≤ n - 498 * i). (simp (le-ltb (n - 498 * i) 498 a)) ∙ (let d : 498 ≡ used_at f i = omega arith in d)) (less (n - 498 * i) 498))
          (less (i + 1) (blocks f))

  -- the stream's end, its blocks, and the file
  pub record Whole-file : Type 0 where
    pub used : (j : ℕ) → j < blocks f → used_in n j ≡ used_at f j
    pub blocks : blocks_for n ≡ blocks f
    pub walked : walk b n 0 0 ≡ To n d
    pub file : f ≡ cut b n (blocks_for n)
    pub numbered : blocks_for n ≤ 4294967296

  walked_all : (k i p c : ℕ) → Scans f n d k i p c → i + k ≡ blocks f → walk b (498 * i) 0 0 ≡ To p c → 498 * i ≤ n → (0 < k → n ≡ end_at f (blocks f - 1)) → (k ≡ 0 → n ≤ 498 * i)
      → walk b n 0 0 ≡ To n d
  walked_all zero i p c (Scans.done h) e w l t z = let y : n ≡ 498 * i = omega (arith, z refl) in ap (λ (x : ℕ). walk b x 0 0) y ∙ w
  walked_all (suc k) i p c (Scans.more {q = q} {e = x} g s r) e w l t z =
      go k q x r (some-so f i g.alone) (longer-to b (498 * i) (end_at f i) 0 0 p c (omega arith) w ∙ s.walk) (t (omega arith)) (omega arith)
      (λ v y. walked_all k (i + 1) q x r (omega arith) v y (λ a. t (omega arith)))
    where
      go : (k q x : ℕ) → Scans f n d k (i + 1) q x → some_used f i ≡ true → walk b (end_at f i) 0 0 ≡ To q x → n ≡ end_at f (blocks f - 1) → i + suc k ≡ blocks f
          → (walk b (498 * (i + 1)) 0 0 ≡ To q x → 498 * (i + 1) ≤ n → (k ≡ 0 → n ≤ 498 * (i + 1)) → walk b n 0 0 ≡ To n d) → walk b n 0 0 ≡ To n d
      go zero q x (Scans.done h) u w t e rest =
          let y : blocks f - 1 ≡ i = omega arith in ap (λ (x : ℕ). walk b x 0 0) (t ∙ ap (end_at f) y) ∙ w
      go (suc k) q x r u w t e rest =
          let y : end_at f i ≡ 498 * (i + 1) = omega (arith, full-before f i u (omega arith)) in
          rest (rw y at w) (omega arith) (λ a. absurd (omega arith))

  number_fits : (k i p c : ℕ) → Scans f n d k i p c → i + k ≡ blocks f → i ≤ 4294967296 → blocks f ≤ 4294967296
  number_fits zero i p c r e h = omega arith
  number_fits (suc k) i p c (Scans.more {q = q} {e = x} g s r) e h =
      number_fits k (i + 1) q x r (omega arith) (omega (arith, g.number, o (512 * i), o (512 * i + 1), o (512 * i + 2), o (512 * i + 3)))

  whole_by_lem : (k : ℕ) → blocks f ≡ k → Scans f n d k 0 0 0 → Whole-file
  unfolding cut
  whole_by_lem zero e r =
      let x = none_left f n d 0 0 0 r in
      let z : blocks_for n ≡ 0 = omega (arith, x.0) in
      record {
        used = λ j h. absurd (omega arith);
        blocks = omega arith;
        walked = walk-stop b n 0 0 (omega (arith, x.0)) ∙ ap (λ (y : ℕ). To y 0) x.0 ∙ ap (To n) x.1;
        file = rw z (nothing f (omega (arith, x.2)));
        numbered = omega arith;
      }
    where
      nothing : (l : List ℕ) → length l ≡ 0 → l ≡ []
      nothing [] e = refl
      nothing (x ∷ l) e = absurd (omega arith)
  whole_by_lem (suc k) e r =
      let t = total f n d k 0 0 0 r (omega arith) in
      let u = last-used f n d k 0 0 0 r (omega arith) in
      let w : walk b (498 * 0) 0 0 ≡ To 0 0 = walk-stop b 0 0 0 (omega arith) in
      let m : blocks_for n ≡ blocks f = omega (arith, t, u.some, u.most) in
      let v = even r in
      let long : length f ≤ 512 * (0 + suc k) = omega arith in
      let z : 0 + suc k ≡ blocks_for n = omega arith in
      record {
        used = λ j h. used-so-far (suc k) 0 0 0 r (omega arith) t u j (omega arith) h;
        blocks = m;
        walked = walked_all (suc k) 0 0 0 r (omega arith) w (omega arith) (λ a. t) (λ a. absurd (omega arith));
        file = sym (take_all (512 * (0 + suc k)) f long) ∙ cut-back (suc k) 0 0 0 r (omega arith) w (λ j h. used-so-far (suc k) 0 0 0 r (omega arith) t u j (omega arith) h) refl ∙ ap (cut b n) z;
        numbered = omega (arith, number_fits (suc k) 0 0 0 r (omega arith) (omega arith), m);
      }

  pub whole-file : Scans f n d (blocks f) 0 0 0 → Whole-file
  whole-file r = whole_by_lem (blocks f) refl r
