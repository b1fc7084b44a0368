-- DEMAND 3 OF THE ENTRY `read`, over the words and bytes that the host sees. One payload, root and output room; two valid tables alike but for held marks,
-- the second holding all that the first holds; a call with each: what it answered, and what it left in the lent events and texts. The tree that is
-- spoken of is the reading of the call that accepts, so that the other call's answer and buffers are determined (first half) or excused (second).
use Prim.Native.Nat.{ℕ}
use mathlib.Core.Path.{◌≡◌, refl, sym, ap, subst, ◌∙◌}
use mathlib.Core.Bool.{Bool}
use mathlib.Core.List.{List, []}
use Rattle.model.specs.Model.{Nodes}
use Rattle.model.specs.Items.{Mode}
use Rattle.theorems.specs.Less.{outermost, replaced, first_bare}
use Rattle.theorems.specs.Open.{Excuse}
use Rattle.model.specs.Whole.{Reply, accepted, declined, Outcome, outcome, reading}
use Rattle.theorems.specs.Demand3.{Pair, new_of, says_less}
use Rattle.theorems.proofs.Demand3.{second_accepts, only_first_accepts}
use Rattle.theorems.specs.NamedReading.{Accepts}
use Rattle.theorems.proofs.NamedReading.{zero-accepts}
use Rattle.reader.specs.Answers.{Answer, answer_is, Replies}

module _ (l l' : List ℕ) (party : ℕ) (pair : Pair l l' party) (name type : ℕ) (s : List ℕ) (words bytes : ℕ)
    (r r' : Answer) (E E' T T' : List ℕ)
    (first : Replies (reading l party name type s words bytes) words bytes r E T)
    (second : Replies (reading l' party name type s words bytes) words bytes r' E' T') where
  abbrev new : ℕ → Bool
  new = new_of l l' party

  -- (a) the second reads this tree and shows it. The first then says 9 at the first outermost newly held element without a length, with the path around
  -- it and every buffer zero; or, where there is none, shows that tree with each such element replaced by one Blank of the same bit count, its texts left out
  pub record SecondAccepts : Type 0 where
    pub mode : Mode
    pub tree : Nodes
    pub bits : ℕ
    pub is : reading l' party name type s words bytes ≡ accepted mode tree bits
    pub second-shows : Replies (accepted mode tree bits) words bytes r' E' T'
    pub first_says : Replies (says_less mode (first_bare (outermost new [] tree)) (replaced new tree) bits) words bytes r E T

  pub second-read : (answer_is r').number ≡ 0 → SecondAccepts
  second-read z =
      let a = zero-accepts l' party name type s words bytes (sym (ap (λ (o : Outcome). o.number) second.answer) ∙ z) in
      record {
        mode = a.mode;
        tree = a.list;
        bits = a.bits;
        is = a.is;
        second-shows = subst (λ (R : Reply). Replies R words bytes r' E' T') a.is second;
        first_says = subst (λ (R : Reply). Replies R words bytes r E T) (second_accepts l l' party pair name type s words bytes a.mode a.list a.bits a.is) first;
      }

  -- (b) the first reads this tree and shows it, and the second refuses: with every buffer zero, for lack of output room or in an element that the tree
  -- shows as a Blank
  pub record OnlyFirstAccepts : Type 0 where
    pub mode : Mode
    pub tree : Nodes
    pub bits : ℕ
    pub is : reading l party name type s words bytes ≡ accepted mode tree bits
    pub first-shows : Replies (accepted mode tree bits) words bytes r E T
    pub second-says : Replies (declined (answer_is r').number (answer_is r').place (answer_is r').path) words bytes r' E' T'
    pub excuse : Excuse new [] tree (answer_is r').number (answer_is r').place (answer_is r').path

  excused : (a : Accepts (reading l party name type s words bytes)) (R : Reply) → reading l' party name type s words bytes ≡ R → ((answer_is r').number ≡ 0 → ⊥) → OnlyFirstAccepts
  unfolding outcome
  excused a (accepted mode ns q) e k = absurd (k (ap (λ (o : Outcome). o.number) (second.answer ∙ ap outcome e)))
  excused a (declined n p π) e k =
      let w = second.answer ∙ ap outcome e in
      let x : n ≡ (answer_is r').number = sym (ap (λ (o : Outcome). o.number) w) in
      let y : p ≡ (answer_is r').place = sym (ap (λ (o : Outcome). o.place) w) in
      let z : π ≡ (answer_is r').path = sym (ap (λ (o : Outcome). o.path) w) in
      record {
        mode = a.mode;
        tree = a.list;
        bits = a.bits;
        is = a.is;
        first-shows = subst (λ (S : Reply). Replies S words bytes r E T) a.is first;
        second-says = rw (x, y, z) at (subst (λ (S : Reply). Replies S words bytes r' E' T') e second);
        excuse = rw (x, y, z) at (only_first_accepts l l' party pair name type s words bytes a.mode a.list a.bits n p π a.is e);
      }

  pub only-first-read : (answer_is r).number ≡ 0 → ((answer_is r').number ≡ 0 → ⊥) → OnlyFirstAccepts
  only-first-read z k =
      excused (zero-accepts l party name type s words bytes (sym (ap (λ (o : Outcome). o.number) first.answer) ∙ z)) (reading l' party name type s words bytes) refl k
