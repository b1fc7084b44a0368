-- Bytes laid into the blocks of the new file: one more, and what the file's stream then is.
use Rattle.std.proofs.Common.{◌≡◌, ℕ, zero, suc, ◌+◌, ◌*◌, ◌/◌, ◌%◌, ◌<◌, ◌≤◌, List, length, get_or, set, sym, refl, ap, ◌∙◌, ⊎_elim, add-one, arith, length-set, get_or-set_other, get_or-set_same, eq-eqb, ne_eqb}
use Rattle.shelf.specs.Judge.{place_of, byte_of, blocks}
use Rattle.shelf.specs.Rescue.{place_after, laid}
use Rattle.shelf.proofs.Sides.{less}

-- the next place
pub after_last : (place : ℕ) → place % 512 ≡ 505 → place + 15 ≡ place_after place
unfolding place_after
after_last place e = rw (eq-eqb (place % 512) 505 e)

pub after-other : (place : ℕ) → (place % 512 ≡ 505 → ⊥) → place + 1 ≡ place_after place
unfolding place_after
after-other place e = rw (ne_eqb (place % 512) 505 e)

after-place : (k : ℕ) → place_after (place_of k) ≡ place_of (k + 1)
after-place k =
    ⊎_elim (λ (h : k % 498 < 497). sym (after-other (place_of k) (λ e. omega arith)) ∙ omega arith)
    (λ (h : 497 ≤ k % 498). sym (after_last (place_of k) (omega arith)) ∙ omega arith) (less (k % 498) 497)

pub next_place : (start i : ℕ) {from r : ℕ} → from ≡ place_of (start + i) → r ≡ place_after from → r ≡ place_of (start + (i + 1))
next_place start i {from} {r} e g =
    let h : start + i + 1 ≡ start + (i + 1) = omega arith in
    g ∙ ap place_after e ∙ after-place (start + i) ∙ ap place_of h

pub place-start : (start : ℕ) {p : ℕ} → p ≡ place_of start → p ≡ place_of (start + 0)
place-start start e = let z : start + 0 ≡ start = omega arith in rw z e

pub place-in : (f : List ℕ) (start i k : ℕ) {p : ℕ} → p ≡ place_of (start + i) → i < k → start + k ≤ 498 * blocks f → p < length f
place-in f start i k {p} e h l =
    let j = start + i in
    let a : j / 498 < blocks f = omega arith in
    let b : p ≡ place_of j = e in
    omega arith

pub place-few : (f : List ℕ) (start i k : ℕ) {p : ℕ} → p ≡ place_of (start + i) → i < k → start + k ≤ 498 * blocks f → length f < 18446744073709551616 → p / 512 + 1 < 36028797018963968
place-few f start i k {p} e h l m =
    let z = place-in f start i k e h l in
    let j = start + i in
    let a : j / 498 < blocks f = omega arith in
    let b : p ≡ place_of j = e in
    let c : p / 512 ≡ j / 498 = omega arith in
    omega arith

pub place-few-at : (f : List ℕ) (at start i k : ℕ) {p : ℕ} → p ≡ place_of (at + i) → at ≤ start → i < k → start + k ≤ 498 * blocks f → length f < 18446744073709551616
    → p / 512 + 1 < 36028797018963968
place-few-at f at start i k e g h l m = place-few f at i k e h (omega arith) m

-- one more byte
pub laid_none : (d : List ℕ) (at : ℕ) (b : ℕ → ℕ) (start : ℕ) → d ≡ laid d at b start 0
unfolding laid
laid_none d at b start = refl

pub laid_more : (f d₀ d d' : List ℕ) (at start i : ℕ) {from to : ℕ} → d ≡ laid d₀ at (byte_of f) start i → from ≡ place_of (start + i) → to ≡ place_of (at + i)
    → d' ≡ set d to (get_or f from 0) → d' ≡ laid d₀ at (byte_of f) start (i + 1)
unfolding laid
laid_more f d₀ d d' at start i {from} {to} e g h k =
    k
    ∙ ap (λ (x : List ℕ). set x to (get_or f from 0)) e
    ∙ ap (λ (x : ℕ). set (laid d₀ at (byte_of f) start i) x (get_or f from 0)) h
    ∙ ap (λ (x : ℕ). set (laid d₀ at (byte_of f) start i) (place_of (at + i)) (get_or f x 0)) g
    ∙ rw (add-one i)

pub laid_end : (d₀ d : List ℕ) (at : ℕ) (b : ℕ → ℕ) (start i k : ℕ) → d ≡ laid d₀ at b start i → i ≤ k → k ≤ i → d ≡ laid d₀ at b start k
laid_end d₀ d at b start i k e g h = let z : i ≡ k = omega arith in rw z at e

-- what was laid
pub laid-long : (d : List ℕ) (at : ℕ) (b : ℕ → ℕ) (start k : ℕ) → length (laid d at b start k) ≡ length d
unfolding laid
laid-long d at b start zero = refl
laid-long d at b start (suc k) = length-set (laid d at b start k) (place_of (at + k)) (b (start + k)) ∙ laid-long d at b start k

pub laid-before : (d : List ℕ) (at : ℕ) (b : ℕ → ℕ) (start k j : ℕ) → j < at → byte_of (laid d at b start k) j ≡ byte_of d j
unfolding laid
laid-before d at b start zero j h = refl
laid-before d at b start (suc k) j h =
    get_or-set_other (laid d at b start k) (place_of (at + k)) (place_of j) (b (start + k)) 0 (λ e. omega arith) ∙ laid-before d at b start k j h

pub laid-there : (d : List ℕ) (at : ℕ) (b : ℕ → ℕ) (start k j : ℕ) → j < k → place_of (at + j) < length d → byte_of (laid d at b start k) (at + j) ≡ b (start + j)
unfolding laid
laid-there d at b start zero j h l = absurd (omega arith)
laid-there d at b start (suc k) j h l =
    ⊎_elim
    (λ (g : j < k).
    get_or-set_other (laid d at b start k) (place_of (at + k)) (place_of (at + j)) (b (start + k)) 0 (λ e. omega arith) ∙ laid-there d at b start k j g l)
    (λ (g : k ≤ j).
    let e : j ≡ k = omega arith in
    rw e (get_or-set_same (laid d at b start k) (place_of (at + k)) (b (start + k)) 0 (rw (laid-long d at b start k) (rw e at l))))
    (less j k)
