-- WRITER SOUND (`write-is`): what is written, in fewer than 2 ^ 32 bits, is so by the grammar: the tree of the events taken, with their true
-- bits, at whatever place; a refusal's number is from 1 on.
use Prim.Native.Nat.{ℕ, zero, suc, ◌+◌, ◌<◌, ◌^◌}
use mathlib.Core.Path.{◌≡◌, refl, sym, ap, ap₂, ◌∙◌}
use mathlib.Core.Bool.{Bool}
use mathlib.Core.List.{List, [], ◌∷◌, ◌++◌}
use native.Mathlib.Omega.{arith}
use lib.ListN.{length, length-append}
use Rattle.numbers.specs.Kind as kinds
use Rattle.wire.specs.Number.{more, code5}
use Rattle.value.specs.Code.{bits_of}
use Rattle.model.specs.Model.{end, event_of, Types, Plan, flag_of}
use Rattle.model.specs.Model.Plan.{done, deep, item, element}
use Rattle.model.specs.Model.Nodes.{none, leaf, node}
use Rattle.model.specs.Items.{Lengths, coded, Measures, HeadIs, no_head, flag_off, flag_on, head_on, CodesAre}
use Rattle.model.specs.Grammar.{opens, cast_in, nothing, an_item, an_element}
use Rattle.model.specs.Write.{Bare, bare, Out, word_of, as_item, flag_in, as_start, item_out, length_of, head_out, sealed, too_deep, allowed, element_out, write}
use Rattle.theorems.specs.Content.{cast_of}
use Rattle.theorems.specs.Lists.{lists, spells}
use Rattle.model.proofs.ItemOut.{item-written, bare-event}
use Rattle.model.proofs.Plain.{item-plain, cast-plain}
use Rattle.model.proofs.Named.{item-out-named}
use Rattle.model.proofs.OutLaws.{Says, gives, stops, taken-says, coded-says, put-says, along-says, allowed-says, sealed-says, casts-says, says-more}
use Rattle.theorems.specs.WriteSound.{Written, Writes}
use Rattle.theorems.proofs.Shorter.{in-groups}
use Rattle.theorems.proofs.Choices.{codes-written, none-coded, cast-sent, cast-unsent, cast-lists, cast-spells}

-- a Start whose second word suits the mode
pub head-written : (mode : Lengths) (q n : ℕ) → flag_in mode q ≡ q → n < 2 ^ 32 → HeadIs mode (length_of q n) (head_out mode (length_of q n))
unfolding head_out flag_in bits_of code5
head-written Lengths.never zero n e h = no_head
head-written Lengths.never (suc k) n e h = absurd (omega arith)
head-written Lengths.optional zero n e h = flag_off
head-written Lengths.optional (suc k) n e h = flag_on (more 7 n) (in-groups n h)
head-written Lengths.always zero n e h = absurd (omega arith)
head-written Lengths.always (suc k) n e h = head_on (more 7 n) (in-groups n h)

pub flag-back : (mode : Lengths) (q n : ℕ) → flag_in mode q ≡ q → flag_in mode q ≡ flag_of (coded (length_of q n))
unfolding flag_in flag_of
flag-back mode zero n e = e
flag-back Lengths.never (suc k) n e = absurd (omega arith)
flag-back Lengths.optional (suc k) n e = omega arith
flag-back Lengths.always (suc k) n e = refl

pub measures : (q n : ℕ) → Measures (length_of q n) n
measures zero n = tt
measures (suc k) n = refl

module _ (mode : Lengths) (held : ℕ → Bool) where
  -- an element, and whatever plan comes after it
  abbrev Part : ℕ → Types → (ℕ → Plan) → List Bare → List ℕ → List ℕ → List Bare → List ℕ → Type 0
  Part name y f M T w N U = (P : Plan) (x : List ℕ) (K : List Bare) (Y : List ℕ) → length w < 2 ^ 32 → ((at : ℕ) → Written mode held P N U x K Y at)
      → (at : ℕ) → Written mode held (element name y f P) M T (w ++ x) K Y at

  module _ (name : ℕ) (y : Types) (f : ℕ → Plan) (g : ℕ → List Bare → List ℕ → Out)
      (ih : (t : ℕ) (M : List Bare) (T : List ℕ) → Says (Writes mode held (f t) M T) (g t M T)) where
    -- behind the Start: the codes, with their event where there is one, what is inside, the End
    inside_is : (M : List Bare) (T : List ℕ) (e : Bare) (N : List Bare) → M ≡ e ∷ N → as_start mode name e ≡ e → {t k : ℕ} {c : List ℕ} (K : List Bare)
        → CodesAre y t k c → N ≡ cast_of y t k ++ K → (left : ℕ) → Says (Part name y f M T) (allowed (held t) left (sealed mode e.q c (g t K T)))
    unfolding lists spells
    inside_is M T e N m made {t} {k} {c} K d o left =
        allowed-says (held t) left _ λ z.
        sealed-says mode e.q c _ (says-more (g t K T) (λ w J U h R n P x Y Z b rest at.
        let l = length_of e.q (length (c ++ w)) in
        let s = head_out mode l in
        let flag = ap (λ (x : Bare). x.q) made in
        let long = length-append s (c ++ w) in
        let short : length (c ++ w) < 2 ^ 32 = omega arith in
        let i = head-written mode e.q (length (c ++ w)) flag short in
        let inner = h (omega (arith, length-append c w)) (at + length (s ++ c)) in
        let outer = rest (at + length (s ++ (c ++ w))) in
        let flags = flag-back mode e.q (length (c ++ w)) flag in
        let place = at + length s in
        record {
          tree = node (opens name t l at (length s)) (cast_in y place t k (length c) inner.tree) outer.tree;
          is = an_element i d z inner.is (measures e.q (length (c ++ w))) outer.is;
          plain = (cast-plain y place t k (length c) inner.tree inner.plain, outer.plain);
          list =
              m
              ∙ ap₂ ◌∷◌ (sym made ∙ (λ i. record { kind = kinds.start; p = name; q = flags i }))
              (o
              ∙ ap (λ (R : List Bare). cast_of y t k ++ R)
              (inner.list ∙ ap (lists inner.tree) (n ∙ ap (λ (R : List Bare). bare end ∷ R) outer.list))
              ∙ sym (cast-lists y place t k (length c) inner.tree (bare end ∷ lists outer.tree Y)));
          text =
              inner.text
              ∙ ap (spells inner.tree) outer.text
              ∙ sym (cast-spells y place t k (length c) inner.tree (spells outer.tree Z));
        }) (ih t K T))

    element-is : (M : List Bare) (T : List ℕ) → Says (Part name y f M T) (element_out mode held g name y M T)
    unfolding element_out
    element-is M T =
        taken-says (as_start mode name) M _ λ e N m made.
        casts-says y N _
        (λ z b K n h c x.
        let o = n ∙ ap (λ (a : Bare). a ∷ K) (sym h) ∙ ap (λ (R : List Bare). R ++ K) (sym (cast-sent y b.p b.q z)) in
        inside_is M T e N m made K ((codes-written y b.p b.q).says c x) o _)
        (λ z. inside_is M T e N m made N (none-coded y z) (ap (λ (R : List Bare). R ++ N) (sym (cast-unsent y y.own 0 z))) _)

  pub write-is : (P : Plan) (M : List Bare) (T : List ℕ) → Says (Writes mode held P M T) (write mode held P M T)
  unfolding write lists spells too_deep
  write-is done M T = gives λ b at. record { tree = none; is = nothing; plain = tt; list = refl; text = refl }
  write-is deep [] T = stops (omega arith)
  write-is deep (e ∷ M) T = stops (omega arith)
  write-is (item i k) M T =
      taken-says (as_item i) M _ λ e N m made.
      coded-says (item_out i (word_of i e) T) _ _ (item-written i e T) (item-out-named i (word_of i e) T) λ r f.
      put-says r.0 _ (says-more (write mode held (k (word_of i e)) N r.1) (λ x K U g b at.
      let n = length-append r.0 x in
      let h = g (omega arith) (at + length r.0) in
      record {
        tree = leaf at (event_of i (word_of i e) (length r.0)) f.texts h.tree;
        is = an_item f.is h.is;
        plain = (item-plain i (word_of i e) (length r.0), h.plain);
        list = m ∙ ap₂ ◌∷◌ (sym made ∙ bare-event i (word_of i e) 0 (length r.0)) h.list;
        text = f.text ∙ ap (λ (l : List ℕ). f.texts ++ l) h.text;
      }) (write-is (k (word_of i e)) N r.1))
  write-is (element name y f P) M T =
      along-says _ _ (says-more (element_out mode held (λ t N U. write mode held (f t) N U) name y M T) (λ w N U p.
      says-more (write mode held P N U) (λ x K Y c b. let n = length-append w x in p P x K Y (omega arith) (c (omega arith))) (write-is P N U))
      (element-is name y f _ (λ t N U. write-is (f t) N U) M T))
