-- An element's codes and what they choose say the same (`Content.Chosen`); the writer finds the place of a type again where
-- none stands twice; and the choice's event stands first in the element's list.
use Prim.Native.Nat.{ℕ, zero, suc, ◌<◌, ◌≤◌}
use mathlib.Core.Path.{◌≡◌, refl, sym, subst, ◌∙◌}
use mathlib.Core.Bool.{Bool, true, false, cond, not, ◌&&◌, ◌||◌, true≢false}
use mathlib.Core.List.{List, [], ◌∷◌, ◌++◌, map}
use native.Mathlib.Omega.{arith}
use borrow.Author.Tests.{eqb-true, eq-eqb}
use lib.Dec.{eqb}
use lib.ListN.{length, get_or, length-append}
use Rattle.numbers.specs.Kind as kinds
use Rattle.numbers.specs.Limit.{most_derivations, most_substitutes}
use Rattle.wire.specs.Res.{got, Ensures}
use Rattle.wire.specs.Bits.{digits}
use Rattle.wire.specs.Width.{width, least_from}
use Rattle.wire.proofs.Res.{gives, bind, then}
use Rattle.wire.proofs.Width.{width-under}
use Rattle.table.specs.Valid.{among, once}
use Rattle.value.specs.Code.{HasCode, bits_of}
use Rattle.value.specs.Simple.{one_of}
use Rattle.value.proofs.ValueLaws.{most_bits, bits_most}
use Rattle.model.specs.Model.{event, Types, codes, chosen, default_type, effective_type, Nodes, events, texts}
use Rattle.model.specs.Model.Nodes.{leaf}
use Rattle.model.specs.Items.{substitute_code, type_code, CodesAre, both}
use Rattle.model.specs.Grammar.{cast_in}
use Rattle.model.specs.Write.{Bare, bare, place_in, standing, codes_out}
use Rattle.model.proofs.ItemOut.{code-written, code_out_lem}
use Rattle.model.proofs.Sums.{sends_none}
use Rattle.theorems.specs.Content.{word, Chosen, cast_of}
use Rattle.theorems.specs.Lists.{lists, spells}

-- NONE, OR ONE OF n: the numbers up to n. Of as many as a table can have (the limits of substitutes and of derived types are one), in at most 11 bits
abbrev most : ℕ
most = most_substitutes

one-of-most : (n k : ℕ) → HasCode (one_of n) k → k ≤ n
unfolding one_of HasCode
one-of-most zero k h = omega arith
one-of-most (suc n) zero h = omega arith
one-of-most (suc n) (suc k) h = omega (arith, h.0, h.1)

most-one-of : (n k : ℕ) → n ≤ most → k ≤ n → HasCode (one_of n) k
unfolding one_of HasCode
most-one-of zero k h g = omega arith
most-one-of (suc n) zero h g = tt
most-one-of (suc n) (suc k) h g = (omega arith, omega arith)

one-of-few : (n k : ℕ) → n ≤ most → HasCode (one_of n) k → length (bits_of (one_of n) k) ≤ 11
unfolding one_of most_bits
one-of-few zero k h g = omega (arith, bits_most (one_of 0) k g, width-under 1 0 (omega arith))
one-of-few (suc n) k h g = omega (arith, bits_most (one_of (suc n)) k g, width-under (suc n) 10 h)

-- PLACES IN A LIST OF TYPES
get-among : (l : List ℕ) (k : ℕ) → k < length l → among (get_or l k 0) l ≡ true
unfolding among
get-among [] k h = absurd (omega arith)
get-among (y ∷ l) zero h = rw (eq-eqb y y refl)
get-among (y ∷ l) (suc k) h = rw (get-among l k (omega arith)) (or-true (eqb (get_or l k 0) y))
  where
    or-true : (b : Bool) → (b || true) ≡ true
    or-true true = refl
    or-true false = refl

not-false : (b : Bool) (c : Bool) → (not b && c) ≡ true → (b ≡ false) × (c ≡ true)
not-false true c e = absurd (true≢false (sym e))
not-false false c e = (refl, e)

-- a number that is not in the list is none of its numbers
other : (y : ℕ) (l : List ℕ) (k : ℕ) → among y l ≡ false → k < length l → eqb (get_or l k 0) y ≡ false
other y l k e h = go (eqb (get_or l k 0) y) refl
  where
    go : (b : Bool) → eqb (get_or l k 0) y ≡ b → b ≡ false
    go true z = let x = eqb-true (get_or l k 0) y z in absurd (true≢false (sym (get-among l k h) ∙ rw x e))
    go false z = refl

place-once : (l : List ℕ) (k : ℕ) → once l ≡ true → k < length l → place_in (get_or l k 0) l ≡ suc k
unfolding once place_in
place-once [] k o h = absurd (omega arith)
place-once (y ∷ l) zero o h = rw (eq-eqb y y refl)
place-once (y ∷ l) (suc k) o h =
    let b = not-false (among y l) (once l) o in
    rw (other y l k b.0 (omega arith), place-once l k b.1 (omega arith))

standing-once : (t : ℕ) (l : List ℕ) (j : ℕ) → once (t ∷ l) ≡ true → j ≤ length l → standing (chosen t l j) t l ≡ j
unfolding once standing chosen
standing-once t l zero o h = rw (eq-eqb t t refl)
standing-once t l (suc k) o h =
    let b = not-false (among t l) (once l) o in
    rw (other t l k b.0 h) (place-once l k b.1 h)

-- the type at the place that was found, where it is one of the list's
place-some : (x : ℕ) (l : List ℕ) → 1 ≤ place_in x l
unfolding place_in
place-some x [] = omega arith
place-some x (y ∷ l) = go (eqb x y)
  where
    go : (b : Bool) → 1 ≤ cond b 1 (suc (place_in x l))
    go true = omega arith
    go false = omega arith

chosen-next : (t y : ℕ) (l : List ℕ) (p : ℕ) → 1 ≤ p → chosen t (y ∷ l) (suc p) ≡ chosen t l p
unfolding chosen
chosen-next t y l zero h = absurd (omega arith)
chosen-next t y l (suc p) h = refl

place_found : (x t : ℕ) (l : List ℕ) → place_in x l ≤ length l → chosen t l (place_in x l) ≡ x
unfolding place_in chosen
place_found x t [] h = absurd (omega arith)
place_found x t (y ∷ l) h = go (eqb x y) refl h (λ g. place_found x t l g)
  where
    go : (b : Bool) → eqb x y ≡ b → cond b 1 (suc (place_in x l)) ≤ suc (length l)
        → (place_in x l ≤ length l → chosen t l (place_in x l) ≡ x) → chosen t (y ∷ l) (cond b 1 (suc (place_in x l))) ≡ x
    go true e g ih = sym (eqb-true x y e)
    go false e g ih = chosen-next t y l (place_in x l) (place-some x l) ∙ ih (omega arith)

standing-found : (x t : ℕ) (l : List ℕ) → standing x t l ≤ length l → chosen t l (standing x t l) ≡ x
unfolding standing chosen
standing-found x t l h = go (eqb x t) refl h
  where
    go : (b : Bool) → eqb x t ≡ b → cond b 0 (place_in x l) ≤ length l → chosen t l (cond b 0 (place_in x l)) ≡ x
    go true e g = sym (eqb-true x t e)
    go false e g = place_found x t l g

among-place : (x : ℕ) (l : List ℕ) → among x l ≡ true → place_in x l ≤ length l
unfolding among place_in
among-place x [] e = absurd (true≢false (sym e))
among-place x (y ∷ l) e = go (eqb x y) e (λ f. among-place x l f)
  where
    go : (b : Bool) → (b || among x l) ≡ true → (among x l ≡ true → place_in x l ≤ length l) → cond b 1 (suc (place_in x l)) ≤ suc (length l)
    go true e ih = omega arith
    go false e ih = omega (arith, ih e)

among-standing : (x t : ℕ) (l : List ℕ) → among x (t ∷ l) ≡ true → standing x t l ≤ length l
unfolding among standing
among-standing x t l e = go (eqb x t) e
  where
    go : (b : Bool) → (b || among x l) ≡ true → cond b 0 (place_in x l) ≤ length l
    go true e = omega arith
    go false e = among-place x l e

-- so a type of the list has a place there
pub among-chosen : (x t : ℕ) (l : List ℕ) → among x (t ∷ l) ≡ true → (j : ℕ) × (j ≤ length l) × (chosen t l j ≡ x)
among-chosen x t l e = let h = among-standing x t l e in (standing x t l, h, standing-found x t l h)

chosen-among : (t : ℕ) (l : List ℕ) (j : ℕ) → j ≤ length l → among (chosen t l j) (t ∷ l) ≡ true
unfolding chosen
chosen-among t l zero h = get-among (t ∷ l) 0 (omega arith)
chosen-among t l (suc k) h = get-among (t ∷ l) (suc k) (omega arith)

-- CODES ARE CHOICES
pub codes-chosen : {y : Types} {t k : ℕ} {c : List ℕ} → CodesAre y t k c → Chosen y t k
unfolding substitute_code type_code effective_type
codes-chosen {y} (both {k} j h g) =
    record {
      substitute = one-of-most (length y.substitutes) k h;
      type = chosen-among (default_type y k) (y.derived (default_type y k)) j (one-of-most (length (y.derived (default_type y k))) j g);
    }

pub record Coded (y : Types) (t k : ℕ) : Type 0 where
  pub bits : List ℕ
  pub are : CodesAre y t k bits
  pub few : length bits ≤ 22

-- what is chosen of not too many has codes, of few bits
pub chosen-coded : (y : Types) (t k : ℕ) → length y.substitutes ≤ most_substitutes → length (y.derived (default_type y k)) ≤ most_derivations
    → Chosen y t k → Coded y t k
unfolding substitute_code type_code effective_type
chosen-coded y t k s d h =
    let own = default_type y k in
    let l = y.derived own in
    let found = among-chosen t own l h.type in
    let j = found.0 in
    let x = most-one-of (length y.substitutes) k s h.substitute in
    let z = most-one-of (length l) j d found.1 in
    let b = bits_of (substitute_code y) k in
    let c = bits_of (type_code y k) j in
    record {
      bits = b ++ c;
      are = subst (λ (u : ℕ). CodesAre y u k (b ++ c)) found.2 (both {k = k} j x z);
      few = omega (arith, length-append b c, one-of-few (length y.substitutes) k s x, one-of-few (length l) j d z);
    }

-- THE WRITER'S CODES: what it writes are codes of the type and the substitute asked for; and such codes are written where no type stands twice
pub codes-written : (y : Types) (t k : ℕ) → Ensures (codes_out y t k) (CodesAre y t k)
unfolding codes_out type_code effective_type
codes-written y t k =
    let own = default_type y k in
    let l = y.derived own in
    bind (code-written (substitute_code y) k) λ c f. bind (code-written (type_code y k) (standing t own l)) λ d g.
    gives (rw (f.0, g.0)
    (subst (λ (u : ℕ). CodesAre y u k (bits_of (substitute_code y) k ++ bits_of (type_code y k) (standing t own l)))
    (standing-found t own l (one-of-most (length l) (standing t own l) g.1))
    (both {k = k} (standing t own l) f.1 g.1)))

pub codes-out : {y : Types} {t k : ℕ} {c : List ℕ} → CodesAre y t k c → once (default_type y k ∷ y.derived (default_type y k)) ≡ true
    → codes_out y t k ≡ got c
unfolding codes_out type_code effective_type
codes-out {y} (both {k} j h g) o =
    let own = default_type y k in
    let l = y.derived own in
    let e = standing-once own l j o (one-of-most (length l) j g) in
    then _ (code_out_lem (substitute_code y) k h) (rw e (then _ (code_out_lem (type_code y k) j g) refl))

-- nothing to choose from: the element's own type, in no bits
no_bits : ◌≡◌ {A = List ℕ} (bits_of (one_of 0) 0 ++ bits_of (one_of 0) 0) []
unfolding one_of bits_of width least_from digits
no_bits = refl

pub none-coded : (y : Types) → codes y ≡ false → CodesAre y y.own 0 []
unfolding codes substitute_code type_code default_type effective_type chosen
none-coded y z =
    let e = sends_none y.substitutes (y.derived y.own) z in
    let h = most-one-of (length y.substitutes) 0 (rw e.0 (omega arith)) (omega arith) in
    let g = most-one-of (length (y.derived y.own)) 0 (rw e.1 (omega arith)) (omega arith) in
    subst (CodesAre y y.own 0) (rw (e.0, e.1) no_bits) (both {k = 0} 0 h g)

pub cast-sent : (y : Types) (t k : ℕ) → codes y ≡ true → cast_of y t k ≡ word kinds.cast t k ∷ []
unfolding cast_of
cast-sent y t k z = rw z

pub cast-unsent : (y : Types) (t k : ℕ) → codes y ≡ false → cast_of y t k ≡ []
unfolding cast_of
cast-unsent y t k z = rw z

-- THE CHOICE'S EVENT stands first in the element's list, and has no text
module _ (y : Types) (at t k n : ℕ) (ns : Nodes) where
  abbrev stood : Bool → Nodes
  stood u = cond u (leaf at (event kinds.cast t k n) [] ns) ns

  abbrev said : Bool → List Bare
  said u = cond u (word kinds.cast t k ∷ []) []

  pub cast-listed : map bare (events (cast_in y at t k n ns)) ≡ cast_of y t k ++ map bare (events ns)
  unfolding cast_in cast_of events
  cast-listed = go (codes y)
    where
      go : (u : Bool) → map bare (events (stood u)) ≡ said u ++ map bare (events ns)
      go true = refl
      go false = refl

  pub cast-texts : texts (cast_in y at t k n ns) ≡ texts ns
  unfolding cast_in texts
  cast-texts = go (codes y)
    where
      go : (u : Bool) → texts (stood u) ≡ texts ns
      go true = refl
      go false = refl

  pub cast-lists : (M : List Bare) → lists (cast_in y at t k n ns) M ≡ cast_of y t k ++ lists ns M
  unfolding cast_in cast_of lists
  cast-lists M = go (codes y)
    where
      go : (u : Bool) → lists (stood u) M ≡ said u ++ lists ns M
      go true = refl
      go false = refl

  pub cast-spells : (U : List ℕ) → spells (cast_in y at t k n ns) U ≡ spells ns U
  unfolding cast_in spells
  cast-spells U = go (codes y)
    where
      go : (u : Bool) → spells (stood u) U ≡ spells ns U
      go true = refl
      go false = refl
