-- What follows the content models of a right table is so by the grammar: some bits are a tree of these events and
-- texts, at whatever place. The bits are at most 40,000 for each event, so that of 2,048 events every element's length
-- has a code.
use Prim.Native.Nat.{ℕ, zero, suc, ◌+◌, ◌*◌, ◌<◌, ◌≤◌, ◌^◌}
use mathlib.Core.Path.{◌≡◌, refl, sym, ap, ap₂, subst, ◌∙◌}
use mathlib.Core.Bool.{Bool, true, false, true≢false}
use mathlib.Core.List.{List, [], ◌∷◌, ◌++◌, map, append_assoc, append-nil, map-append}
use native.Mathlib.Omega.{arith}
use lib.ListN.{length, length-append}
use Rattle.numbers.specs.Kind as kinds
use Rattle.numbers.specs.Limit.{most_events}
use Rattle.table.specs.Rows.{Row, Attribute, Table}
use Rattle.wire.proofs.Width.{width-under, width-pow}
use Rattle.value.specs.Code.{HasCode, bits_of}
use Rattle.value.specs.Code as code
use Rattle.value.specs.Simple.{a_code, times_code}
use Rattle.value.specs.Values.{InKind}
use Rattle.value.proofs.ValueLaws.{most_bits, bits_most, kind-bits, values-times, times-short}
use Rattle.model.specs.Model.{end, Item, event_of, Types, Plan, Nodes, ◌then◌, events, texts, value, maybe, attribute, contents, within, due, plan}
use Rattle.model.specs.Model as model
use Rattle.model.specs.Model.Plan.{done, item, element}
use Rattle.model.specs.Model.Item.{required, optional, valued, picked, counted}
use Rattle.model.specs.Model.Nodes.{none, leaf, node}
use Rattle.model.specs.Items.{Lengths, flag, the_length, form_of, is_present, is_simple, ItemIs}
use Rattle.model.specs.Grammar.{opens, cast_in, Is, nothing, an_item, an_element, a_blank}
use Rattle.model.specs.Write.{Bare, bare, flag_in, length_of, head_out}
use Rattle.theorems.proofs.WriteSound.{head-written, flag-back, measures}
use Rattle.model.proofs.ItemOut.{bare-event}
use Rattle.model.proofs.Trees.{events-then, texts-then}
use Rattle.model.proofs.Join.{join, plan-join, attributes-join}
use Rattle.theorems.proofs.Parts.{is_join}
use Rattle.theorems.proofs.Choices.{Coded, chosen-coded, cast-listed, cast-texts}
use Rattle.theorems.proofs.Bounded.{TypesFine, KindFine, RowFine, ContentFine, AttributeFine, AllFine, Bounded, default-known, effective-known}
use Rattle.theorems.specs.Content.{word, Flag, Chosen, cast_of, Part, one, row, children, repeats, inside, attributes, content, Model}

-- a head has few bits
head_few : (mode : Lengths) (q n : ℕ) → n < 2 ^ 32 → length (head_out mode (length_of q n)) ≤ 41
unfolding head_out most_bits HasCode
head_few Lengths.never q n h = omega arith
head_few Lengths.optional zero n h = omega (arith, bits_most flag 0 (omega arith), width-pow 1)
head_few Lengths.optional (suc k) n h =
    let f = bits_most flag 1 (omega arith) in
    let m = bits_most the_length n (omega arith) in
    omega (arith, length-append (bits_of flag 1) (bits_of the_length n), width-pow 1)
head_few Lengths.always zero n h = omega arith
head_few Lengths.always (suc k) n h = omega (arith, bits_most the_length n (omega arith))

flag-in : (mode : Lengths) (q : ℕ) → Flag mode q → flag_in mode q ≡ q
unfolding flag_in
flag-in Lengths.never q h = sym h
flag-in Lengths.optional q h = omega arith
flag-in Lengths.always q h = sym h

module _ (mode : Lengths) (held : ℕ → Bool) where
  -- a tree of these events and texts, whose bits are w, from the place at
  pub record Placed (P : Plan) (L : List Bare) (X w : List ℕ) (at : ℕ) : Type 0 where
    pub tree : Nodes
    pub is : Is mode held P at tree w
    pub list : L ≡ map bare (events tree)
    pub text : X ≡ texts tree

  pub record Stands (P : Plan) (L : List Bare) (X : List ℕ) : Type 0 where
    pub bits : List ℕ
    pub placed : (at : ℕ) → Placed P L X bits at
    pub few : length bits ≤ 40000 * length L

  none-stands : Stands done [] []
  unfolding events texts
  none-stands = record {
    bits = [];
    placed = λ at. record { tree = none; is = nothing; list = refl; text = refl };
    few = omega arith;
  }

  item-stands : (i : Item) {k : ℕ → Plan} {v : ℕ} {X w Y : List ℕ} {L : List Bare}
      → ItemIs i v X w → length w ≤ 40000 → Stands (k v) L Y
      → Stands (item i k) (bare (event_of i v 0) ∷ L) (X ++ Y)
  unfolding events texts
  item-stands i {v} {X} {w} h n s = record {
    bits = w ++ s.bits;
    placed = λ at.
        let p = s.placed (at + length w) in
        record {
          tree = leaf at (event_of i v (length w)) X p.tree;
          is = an_item h p.is;
          list = ap₂ ◌∷◌ (bare-event i v 0 (length w)) p.list;
          text = ap (λ (T : List ℕ). X ++ T) p.text;
        };
    few = omega (arith, length-append w s.bits, s.few);
  }

  both-stand : {P Q : Plan} {K L : List Bare} {X Y : List ℕ}
      → Stands P K X → Stands Q L Y → Stands (join P Q) (K ++ L) (X ++ Y)
  both-stand {K} {L} s r = record {
    bits = s.bits ++ r.bits;
    placed = λ at.
        let p = s.placed at in
        let q = r.placed (at + length s.bits) in
        record {
          tree = p.tree then q.tree;
          is = is_join mode held p.is q.is;
          list =
              rw (events-then p.tree q.tree, map-append bare (events p.tree) (events q.tree))
              (ap₂ ◌++◌ p.list q.list);
          text = rw (texts-then p.tree q.tree) (ap₂ ◌++◌ p.text q.text);
        };
    few = omega (arith, length-append s.bits r.bits, length-append K L, s.few, r.few);
  }

  -- an element, whose codes are few bits too
  element-stands : (name q : ℕ) (y : Types) (f : ℕ → Plan) {t k : ℕ} {L : List Bare} {X : List ℕ}
      → Flag mode q → Coded y t k → held t ≡ true → Stands (f t) L X → length L ≤ most_events
      → Stands (element name y f done) (word kinds.start name q ∷ (cast_of y t k ++ (L ++ (word kinds.end 0 0 ∷ [])))) X
  unfolding events texts
  element-stands name q y f {t} {k} {L} {X} g code z s n =
      let c = code.bits in
      let w = s.bits in
      let m = length-append c w in
      let short : length (c ++ w) < 2 ^ 32 = omega (arith, s.few, code.few) in
      let l = length_of q (length (c ++ w)) in
      let o = head_out mode l in
      let e = flag-in mode q g in
      let flags = sym e ∙ flag-back mode q (length (c ++ w)) e in
      record {
        bits = (o ++ (c ++ w)) ++ [];
        placed = λ at.
            let p = s.placed (at + length (o ++ c)) in
            let inner = cast_in y (at + length o) t k (length c) p.tree in
            let listing = cast-listed y (at + length o) t k (length c) p.tree in
            let spelling = cast-texts y (at + length o) t k (length c) p.tree in
            record {
              tree = node (opens name t l at (length o)) inner none;
              is =
                  an_element (head-written mode q (length (c ++ w)) e short) code.are z p.is
                  (measures q (length (c ++ w))) nothing;
              list =
                  ap₂ ◌∷◌ (λ i. record { kind = kinds.start; p = name; q = flags i })
                  (ap (λ (K : List Bare). cast_of y t k ++ (K ++ (word kinds.end 0 0 ∷ []))) p.list
                  ∙ sym (append_assoc (cast_of y t k) (map bare (events p.tree)) (word kinds.end 0 0 ∷ []))
                  ∙ ap (λ (K : List Bare). K ++ (word kinds.end 0 0 ∷ [])) (sym listing)
                  ∙ sym (map-append bare (events inner) (end ∷ [])));
              text = p.text ∙ sym spelling ∙ sym (append-nil (texts inner));
            };
        few =
            let j = length-append L (word kinds.end 0 0 ∷ []) in
            let i = length-append (cast_of y t k) (L ++ (word kinds.end 0 0 ∷ [])) in
            let h = head_few mode q (length (c ++ w)) short in
            omega (arith, length-append (o ++ (c ++ w)) [], length-append o (c ++ w), s.few, code.few);
      }

  -- no bit of a Blank behind its codes is looked at: none will do
  blank_stands : (name : ℕ) (y : Types) (f : ℕ → Plan) {t k : ℕ}
      → Flag mode 1 → Coded y t k → held t ≡ false → Stands (element name y f done) (word kinds.blank name t ∷ []) []
  unfolding events texts
  blank_stands name y f {t} g code z =
      let c = code.bits in
      let m = length-append c [] in
      let short : length (c ++ []) < 2 ^ 32 = omega (arith, code.few) in
      let o = head_out mode (length_of 1 (length (c ++ []))) in
      record {
        bits = (o ++ (c ++ [])) ++ [];
        placed = λ at. record {
          tree = leaf at (model.event kinds.blank name t (length (o ++ (c ++ [])))) [] none;
          is = a_blank [] (head-written mode 1 (length (c ++ [])) (flag-in mode 1 g) short) code.are z tt nothing;
          list = refl;
          text = refl;
        };
        few =
            let h = head_few mode 1 (length (c ++ [])) short in
            omega (arith, length-append (o ++ (c ++ [])) [], length-append o (c ++ []), code.few);
      }

  value-stands : (kind b c : ℕ) {p q : ℕ} {X Y : List ℕ} {L : List Bare} {P : Plan}
      → KindFine kind b → InKind kind b c p q X → Stands P L Y
      → Stands (value kind b c P) (word kinds.value p q ∷ L) (X ++ Y)
  unfolding value event_of form_of
  value-stands kind b c {P = P} h i s =
      let k = kind-bits i in
      rw (k.first, k.second) at (item-stands (valued kind b c) {k = λ v. P} (is_simple k.is) (omega (arith, k.short h)) s)

  -- an optional attribute's flag, one bit
  flag-stands : (name : ℕ) {k : ℕ → Plan} {v : ℕ} {X : List ℕ} {L : List Bare} → v < 2 → Stands (k v) L X
      → Stands (item (optional name) k) (word kinds.attribute name v ∷ L) X
  unfolding event_of form_of HasCode most_bits
  flag-stands name {v = v} h s =
      let m = bits_most flag v h in
      item-stands (optional name) (is_simple (a_code {c = flag} {v = v} h)) (omega (arith, width-pow 1)) s

  -- attributes, those that must be there and the others
  present-stands : (t : Bool) (a : Attribute) {p q : ℕ} {X Y : List ℕ} {L : List Bare} {P : Plan}
      → AttributeFine a → InKind a.simple a.b a.c p q X → Stands P L Y
      → Stands (attribute t a P) (word kinds.attribute a.name 1 ∷ word kinds.value p q ∷ L) (X ++ Y)
  unfolding attribute maybe event_of form_of
  present-stands true a h i s =
      item-stands (required a.name) is_present (omega arith) (value-stands a.simple a.b a.c h i s)
  present-stands false a h i s = flag-stands a.name (omega arith) (value-stands a.simple a.b a.c h i s)

  absent-stands : (t : Bool) (a : Attribute) {X : List ℕ} {L : List Bare} {P : Plan}
      → t ≡ false → Stands P L X → Stands (attribute t a P) (word kinds.attribute a.name 0 ∷ L) X
  unfolding attribute maybe
  absent-stands true a e s = absurd (true≢false e)
  absent-stands false a e s = flag-stands a.name (omega arith) s

  module _ (T : Table) (P : ℕ) (bounded : Bounded T P) where
    -- what is due for a part, and what must be known of it
    abbrev plan_for : ℕ → Part → Plan
    plan_for d (one name y) = element name y (λ t. within T (plan T d) t) done
    plan_for d (row r) = plan T d r done
    plan_for d (children first n) = model.rows (plan T d) n (λ i. T.row (first + i)) done
    plan_for d (repeats c n) = model.rows (plan T d) n (λ i. T.row c) done
    plan_for d (inside t) = within T (plan T d) t
    plan_for d (attributes l) = model.attributes l done
    plan_for d (content c) = contents (plan T d) T.row c

    abbrev Fine : Part → Type 0
    Fine (one name y) = TypesFine T.types y
    Fine (row r) = RowFine T P r
    Fine (children first n) = first + n ≤ P
    Fine (repeats c n) = c < P
    Fine (inside t) = t < T.types
    Fine (attributes l) = AllFine l
    Fine (content c) = ContentFine P c

    -- one row, then others
    abbrev others : ℕ → ℕ → (ℕ → Row) → Plan
    others d n g = model.rows (plan T d) n g done

    rows-stand : (d n : ℕ) (g : ℕ → Row) (K L : List Bare) (X Y : List ℕ)
        → Stands (plan T d (g 0) done) K X → Stands (others d n (λ i. g (suc i))) L Y
        → Stands (others d (suc n) g) (K ++ L) (X ++ Y)
    unfolding model.rows
    rows-stand d n g K L X Y s r = rw (plan-join T d (g 0) (others d n (λ i. g (suc i)))) (both-stand s r)

    -- what is chosen of fine types has codes
    codes-stand : {y : Types} {t k : ℕ} → TypesFine T.types y → Chosen y t k → Coded y t k
    codes-stand {y} {t} {k} h c =
        let known = default-known h k c.substitute in
        chosen-coded y t k h.substitutes.few (h.derived _ known).few c

    pub model_is : {d : ℕ} {Q : Part} {L : List Bare} {X : List ℕ}
        → Model T mode held d Q L X → Fine Q → length L ≤ most_events → Stands (plan_for d Q) L X
    unfolding plan due contents within model.attributes model.rows event_of form_of HasCode most_bits
    model_is (Model.element {name} {t} {k} {flag} {y} {L} f c z m) h n =
        let i = length-append (cast_of y t k) (L ++ (word kinds.end 0 0 ∷ [])) in
        let j = length-append L (word kinds.end 0 0 ∷ []) in
        let inner = model_is m (effective-known h c) (omega arith) in
        element-stands name flag y _ f (codes-stand h c) z inner (omega arith)
    model_is (Model.blank {name} {y} f c z) h n = blank_stands name y _ f (codes-stand h c) z
    model_is (Model.declared m) h n = model_is m h n
    model_is (Model.sequence m) h n = model_is m h n
    model_is (Model.choice {first} {count} {v} l m) h n =
        let b = bits_most (code.choice count) v l in
        let w = width-under count 6 h.1 in
        item-stands (picked count) (is_simple (a_code {c = code.choice _} {v = v} (omega arith))) (omega arith)
        (model_is m (bounded.rows (first + v) (omega (arith, h.0))) (omega arith))
    model_is (Model.occurs {least} {most} {k} a b c m) h n =
        let f = values-times least most h.1 k a b c in
        let s = times-short least most h.1 k f in
        item-stands (counted least most) (is_simple (a_code {c = times_code least most} {v = k} f)) (omega arith)
        (model_is m h.0 (omega arith))
    model_is Model.no-child h n = none-stands
    model_is {d} (Model.child {first} {n = j} {K} {L} {X} {Y} m o) h n =
        let k = length-append K L in
        let zero-on : first + 0 ≡ first = omega arith in
        let one_on : (i : ℕ) → first + 1 + i ≡ first + suc i = λ i. omega arith in
        let shift : others d j (λ i. T.row (first + 1 + i)) ≡ others d j (λ i. T.row (first + suc i))
        = λ k. others d j (λ i. T.row (one_on i k)) in
        let one = model_is m (bounded.rows first (omega arith)) (omega arith) in
        rows-stand d j (λ i. T.row (first + i)) K L X Y (rw zero-on one)
        (rw shift at (model_is o (omega arith) (omega arith)))
    model_is Model.no-repeat h n = none-stands
    model_is {d} (Model.repeat {c} {n = j} {K} {L} {X} {Y} m o) h n =
        let k = length-append K L in
        let first = model_is m (bounded.rows c h) (omega arith) in
        rows-stand d j (λ i. T.row c) K L X Y first (model_is o h (omega arith))
    model_is {d} (Model.within {type} {K} {L} m o) h n =
        let k = length-append K L in
        rw (attributes-join (T.attributes type) (contents (plan T d) T.row (T.content type)))
        (both-stand (model_is m (bounded.attributes type h) (omega arith))
        (model_is o (bounded.contents type h) (omega arith)))
    model_is Model.no-attribute h n = none-stands
    model_is (Model.present {a} i m) h n = present-stands a.must a h.0 i (model_is m h.1 (omega arith))
    model_is (Model.absent {a} e m) h n = absent-stands a.must a e (model_is m h.1 (omega arith))
    model_is Model.empty h n = none-stands
    model_is (Model.simple {kind} {b} {c} {p} {q} {X} i) h n =
        subst (Stands (value kind b c done) (word kinds.value p q ∷ [])) (append-nil X) (value-stands kind b c h i none-stands)
    model_is (Model.particles {i} m) h n = model_is m (bounded.rows i h) n
