-- Bytes from a place on: how many, which, one run after another, and those of another list.
use Rattle.std.proofs.Common.{◌≡◌, ℕ, zero, suc, ◌+◌, ◌<◌, ◌≤◌, List, [], ◌∷◌, ◌++◌, length, get_or, take, drop, sym, refl, ap, ◌∙◌, ⊎_elim, append_assoc, append-nil, arith, length-append, length-drop, get_or-drop, take_all, take-suc, get_or-append-add}
use lib.ListN.{get_or-append}
use Rattle.shelf.proofs.Sides.{less}
use Rattle.shelf.specs.Stream.{byte_at}
use Rattle.shelf.specs.Block.{bytes_from}

pub bytes-long : (b : ℕ → ℕ) (at k : ℕ) → length (bytes_from b at k) ≡ k
unfolding bytes_from
bytes-long b at zero = refl
bytes-long b at (suc k) = length-append (bytes_from b at k) (b (at + k) ∷ []) ∙ (let h = bytes-long b at k in omega arith)

pub byte-of : (b : ℕ → ℕ) (at k j : ℕ) → j < k → get_or (bytes_from b at k) j 0 ≡ b (at + j)
unfolding bytes_from
byte-of b at zero j h = absurd (omega arith)
byte-of b at (suc k) j h =
    let l = bytes-long b at k in
    ⊎_elim
    (λ (i : j < k). get_or-append (bytes_from b at k) (b (at + k) ∷ []) 0 j (omega arith) ∙ byte-of b at k j i)
    (λ (i : k ≤ j).
    let e : j ≡ length (bytes_from b at k) + 0 = omega arith in
    let f : j ≡ k = omega arith in
    ap (λ (x : ℕ). get_or (bytes_from b at k ++ b (at + k) ∷ []) x 0) e ∙ get_or-append-add (bytes_from b at k) (b (at + k) ∷ []) 0 0 ∙ ap (λ (x : ℕ). b (at + x)) (sym f))
    (less j k)

-- runs of bytes that agree
pub bytes-alike : (b b' : ℕ → ℕ) (at at' k : ℕ) → ((j : ℕ) → j < k → b (at + j) ≡ b' (at' + j)) → bytes_from b at k ≡ bytes_from b' at' k
unfolding bytes_from
bytes-alike b b' at at' zero h = refl
bytes-alike b b' at at' (suc k) h =
    rw (bytes-alike b b' at at' k (λ j i. h j (omega arith)), h k (omega arith))

-- k bytes and then j
pub bytes-more : (b : ℕ → ℕ) (at k j : ℕ) → bytes_from b at (k + j) ≡ bytes_from b at k ++ bytes_from b (at + k) j
unfolding bytes_from
bytes-more b at k zero = let e : k + 0 ≡ k = omega arith in rw e (sym (append-nil (bytes_from b at k)))
bytes-more b at k (suc j) =
    let e : k + suc j ≡ suc (k + j) = omega arith in
    let f : at + (k + j) ≡ at + k + j = omega arith in
    rw (e, bytes-more b at k j, f, append_assoc (bytes_from b at k) (bytes_from b (at + k) j) (b (at + k + j) ∷ []))

-- a list's own bytes
pub bytes-part : (s : List ℕ) (at k : ℕ) → at + k ≤ length s → bytes_from (byte_at s) at k ≡ take k (drop at s)
unfolding bytes_from
bytes-part s at zero h = refl
bytes-part s at (suc k) h =
    let l : k < length (drop at s) = simp length-drop (omega arith) in
    rw (bytes-part s at k (omega arith), ← get_or-drop at s k 0) (sym (take-suc (drop at s) k 0 l))

pub bytes-all : (s : List ℕ) → bytes_from (byte_at s) 0 (length s) ≡ s
bytes-all s = bytes-part s 0 (length s) (omega arith) ∙ take_all (length s) s (omega arith)
