-- Following the records from block to block: what a block names, and where the walk comes to.
use Rattle.std.proofs.Common.{◌≡◌, ℕ, ◌+◌, ◌-◌, ◌*◌, ◌<◌, ◌≤◌, min, List, sym, refl, ap, ◌∙◌, ⊎_elim, arith, le-ltb, lt-ltb}
use Rattle.std.specs.Prelude.{Result, Ok, Err}
use Rattle.shelf.specs.declared.answers.Reached.{Reached}
use Rattle.shelf.specs.Answers.{Walk, Over, To, walk_of}
use Rattle.shelf.specs.Stream.{walk}
use Rattle.shelf.specs.Block.{bytes_from, block, used_in, name_after, first_in, block_in, blocks_for}
use Rattle.shelf.specs.Promises.{walk_on, Fewer, Followed}
use Rattle.shelf.proofs.Sides.{less}
use Rattle.shelf.proofs.Walks.{and_then, walk-stop, walked-so, reached, walk-longer}

-- what a block names
module _ (b : ℕ → ℕ) (lo hi : ℕ) {w : Result Reached ℕ} where
  pub on-over : {p : ℕ} → w ≡ Err p → Over p ≡ walk_on b hi (walk_of w)
  unfolding walk_on
  on-over e = rw e

  pub on-to : {x : Reached} {r : Walk} → w ≡ Ok x → r ≡ walk b hi x.place x.count → r ≡ walk_on b hi (walk_of w)
  unfolding walk_on
  on-to e g = rw e g

pub fewer-so : {w : Result Reached ℕ} {x : Reached} → Fewer (walk_of w) → w ≡ Ok x → x.count ≤ x.place
fewer-so {w} {x} g e = g.most x.place x.count (ap walk_of e)

pub ruleset follow-ways = (on-over, on-to)

pub followed-on : (b : ℕ → ℕ) (n i used : ℕ) (w : Walk) {r : Walk} → used ≡ used_in n i → r ≡ walk_on b (498 * i + used) w → r ≡ walk_on b (498 * i + used_in n i) w
followed-on b n i used w e g = g ∙ ap (λ (x : ℕ). walk_on b (498 * i + x) w) e

-- what was followed
pub walk-fewer : (b : ℕ → ℕ) (end : ℕ) {w : Walk} → w ≡ walk b end 0 0 → Fewer w
walk-fewer b end e = record { most = λ p c g. (reached (walked-so (sym e ∙ g))).fewer (omega arith) }

pub followed : (b : ℕ → ℕ) (i : ℕ) {w : Walk} → w ≡ walk b (498 * i) 0 0 → Followed i w
followed b i e = record { past = λ p c g. (reached (walked-so (sym e ∙ g))).past; fewer = walk-fewer b (498 * i) e }

-- where a block's bytes end
pub hi-least : (n i : ℕ) → 498 * i < n → 498 * i + used_in n i ≡ min (498 * (i + 1)) n
hi-least n i h = ⊎_elim (λ (g : n - 498 * i < 498). rw (lt-ltb (n - 498 * i) 498 g) (omega arith)) (λ (g : 498 ≤ n - 498 * i). rw (le-ltb (n - 498 * i) 498 g) (omega arith)) (less (n - 498 * i) 498)

-- a block that names what was followed
pub block-so : (b : ℕ → ℕ) (n i : ℕ) {w : Walk} → w ≡ walk b (498 * i) 0 0 → block i (name_after b (498 * i) (498 * i + used_in n i) w) (bytes_from b (498 * i) (used_in n i)) ≡ block_in b n i
unfolding block_in first_in
block-so b n i g = ap (λ (x : Walk). block i (name_after b (498 * i) (498 * i + used_in n i) x) (bytes_from b (498 * i) (used_in n i))) g

pub block-cut : (b : ℕ → ℕ) (n i : ℕ) {w : Walk} {u first : ℕ} {d : List ℕ} → w ≡ walk b (498 * i) 0 0 → u ≡ used_in n i → first ≡ name_after b (498 * i) (498 * i + u) w
    → d ≡ block i first (bytes_from b (498 * i) u) → d ≡ block_in b n i
block-cut b n i {w} {u} g e k l =
    l ∙ ap (λ (x : ℕ). block i x (bytes_from b (498 * i) u)) k ∙ ap (λ (x : ℕ). block i (name_after b (498 * i) (498 * i + x) w) (bytes_from b (498 * i) x)) e ∙ block-so b n i g

-- followed on
pub on-so : (b : ℕ → ℕ) (lo far : ℕ) {w r : Walk} → lo ≤ far → w ≡ walk b lo 0 0 → r ≡ walk_on b far w → r ≡ walk b far 0 0
unfolding and_then walk_on
on-so b lo far {w} h g k = k ∙ ap (walk_on b far) g ∙ chain (walk b lo 0 0) refl
  where
    chain : (v : Walk) → walk b lo 0 0 ≡ v → walk_on b far v ≡ walk b far 0 0
    chain (Over p) z = rw z at (walk-longer b lo far 0 0 h)
    chain (To p c) z = rw z at (walk-longer b lo far 0 0 h)

pub on-cut : (b : ℕ → ℕ) (n i : ℕ) {u : ℕ} {w r : Walk} → w ≡ walk b (498 * i) 0 0 → u ≡ used_in n i → r ≡ walk_on b (498 * i + u) w → r ≡ walk b (498 * i + used_in n i) 0 0
on-cut b n i {u} g e k = on-so b (498 * i) (498 * i + u) (omega arith) g k ∙ ap (λ (x : ℕ). walk b (498 * i + x) 0 0) e

pub on-next : (b : ℕ → ℕ) (n i : ℕ) {r : Walk} → 498 * i < n → r ≡ walk b (498 * i + used_in n i) 0 0 → r ≡ walk b (min (498 * (i + 1)) n) 0 0
on-next b n i h e = e ∙ ap (λ (x : ℕ). walk b x 0 0) (hi-least n i h)

pub on-end : (b : ℕ → ℕ) (n i m : ℕ) {r : Walk} → r ≡ walk b (min (498 * i) n) 0 0 → m ≡ blocks_for n → m ≤ i → r ≡ walk b n 0 0
on-end b n i m e g h = let z : min (498 * i) n ≡ n = omega arith in rw z at e

-- a block that has bytes begins before the end
pub walk_at : (b : ℕ → ℕ) (n i : ℕ) {w : Walk} → w ≡ walk b (min (498 * i) n) 0 0 → 498 * i < n → w ≡ walk b (498 * i) 0 0
walk_at b n i e h = let z : min (498 * i) n ≡ 498 * i = omega arith in rw z at e

pub followed-at : (b : ℕ → ℕ) (n i m : ℕ) {w : Walk} → w ≡ walk b (min (498 * i) n) 0 0 → m ≡ blocks_for n → i < m → Followed i w
followed-at b n i m e g h = followed b i (walk_at b n i e (omega arith))

pub walk_none : (b : ℕ → ℕ) (n : ℕ) → To 0 0 ≡ walk b (min (498 * 0) n) 0 0
walk_none b n = sym (walk-stop b (min (498 * 0) n) 0 0 (omega arith))
