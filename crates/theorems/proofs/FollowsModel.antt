-- What is so by the grammar follows the content models and occurrence bounds of the table: row by row, by the rows
-- still allowed open.
use Prim.Native.Nat.{ℕ, zero, suc, ◌+◌, ◌<◌, ◌≤◌}
use mathlib.Core.Path.{◌≡◌, refl}
use mathlib.Core.Bool.{Bool, true, false}
use mathlib.Core.List.{List, [], ◌∷◌, ◌++◌, map, append_assoc, append-nil, map-append}
use native.Mathlib.Omega.{arith}
use lib.ListN.{length}
use Rattle.numbers.specs.Kind as kinds
use Rattle.table.specs.Rows.{Row, Attribute, Table}
use Rattle.table.specs.Rows as rows
use Rattle.value.specs.Simple.{Simple, simple_of, SimpleIs, first_word, second_word}
use Rattle.value.specs.Values.{InKind}
use Rattle.value.proofs.ValueLaws.{kind-is, times-values}
use Rattle.model.specs.Model.{end, event_of, Types, Plan, Nodes, events, texts, flag_of, value, maybe, attribute, contents, within, types_of, due, plan}
use Rattle.model.specs.Model as model
use Rattle.model.specs.Model.Plan.{done, element}
use Rattle.model.specs.Model.Item.{valued, counted}
use Rattle.model.specs.Items.{Lengths, Form, present, simply, form_of, FormIs, is_present, is_simple, ItemIs, Length, coded, HeadIs, no_head, flag_off, flag_on, head_on}
use Rattle.model.proofs.ItemOut.{form-plain, optional-value, picked_value}
use Rattle.model.specs.Grammar.{cast_in, Is, an_item, an_element, a_blank}
use Rattle.model.specs.Write.{Bare, bare}
use Rattle.model.proofs.Trees.{events-then, texts-then}
use Rattle.model.proofs.Join.{plan-join, attributes-join}
use Rattle.theorems.proofs.Parts.{Split, is-split, done_none, no-deep}
use Rattle.theorems.proofs.Choices.{codes-chosen, cast-listed, cast-texts}
use Rattle.theorems.specs.Content.{word, Flag, cast_of, Part, one, row, children, repeats, inside, attributes, content, Model}

-- a head's flag is one of the mode's
flag_is : {mode : Lengths} {h : Length} {s : List ℕ} → HeadIs mode h s → Flag mode (flag_of (coded h))
unfolding flag_of
flag_is no_head = refl
flag_is flag_off = omega arith
flag_is (flag_on k h) = omega arith
flag_is (head_on k h) = refl

-- an item's value is one of its row, and its texts are the value's
simple-of : {f : Form} {v : ℕ} {ts w : List ℕ} → FormIs f v ts w → (s : Simple) → f ≡ simply s → SimpleIs s v ts w
simple-of is_present s e = absurd (let z : ◌≡◌ {A = ℕ} 0 1 = cc in omega arith)
simple-of (is_simple {s = u} h) s e = let z : u ≡ s = cc in rw z at h

value_of : (k b c v : ℕ) (ts w : List ℕ) → ItemIs (valued k b c) v ts w → InKind k b c (first_word (simple_of k b c) v) (second_word (simple_of k b c) v) ts
unfolding form_of
value_of k b c v ts w h = kind-is k b c v (simple-of h (simple_of k b c) refl)

required-none : {f : Form} {v : ℕ} {ts w : List ℕ} → FormIs f v ts w → f ≡ present → ts ≡ []
required-none is_present e = refl
required-none (is_simple h) e = absurd (let z : ◌≡◌ {A = ℕ} 0 1 = cc in omega arith)

counted-within : (least most v : ℕ) (ts w : List ℕ) → ItemIs (counted least most) v ts w
    → (least ≤ v) × (v ≤ most) × (v ≤ 65535)
unfolding form_of
counted-within least most v ts w h = omega (arith, times-values _ _ v (form-plain h _ refl).0)

module _ (mode : Lengths) (held : ℕ → Bool) (T : Table) where
  abbrev listed : Nodes → List Bare
  listed ns = map bare (events ns)

  abbrev Modelled : ℕ → Part → List Bare → List ℕ → Type 0
  Modelled d Q L X = Model T mode held d Q L X

  abbrev Gives : Plan → ℕ → Part → Type 0
  Gives P d Q = (at : ℕ) (ns : Nodes) (w : List ℕ) → Is mode held P at ns w → Modelled d Q (listed ns) (texts ns)

  -- attributes: what stands for one of them, where what stands for the others follows
  module _ (d : ℕ) (a : Attribute) (l : List Attribute) (ih : Gives (model.attributes l done) d (attributes l)) where
    abbrev Rest : Plan
    Rest = model.attributes l done

    present-model : (at : ℕ) (ns : Nodes) (w : List ℕ) → Is mode held (value a.simple a.b a.c Rest) at ns w
        → Modelled d (attributes (a ∷ l)) (word kinds.attribute a.name 1 ∷ listed ns) (texts ns)
    unfolding value events texts event_of
    present-model at ns w (an_item {v} {ts} {w = x} g j) =
        Model.present (value_of a.simple a.b a.c v ts x g) (ih _ _ _ j)

    optional-model : a.must ≡ false → (v at : ℕ) (ns : Nodes) (w : List ℕ) → v < 2
        → Is mode held (maybe v (value a.simple a.b a.c Rest) Rest) at ns w
        → Modelled d (attributes (a ∷ l)) (word kinds.attribute a.name v ∷ listed ns) (texts ns)
    unfolding maybe
    optional-model e zero at ns w h i = Model.absent e (ih _ _ _ i)
    optional-model e (suc zero) at ns w h i = present-model at ns w i
    optional-model e (suc (suc v)) at ns w h i = absurd (omega arith)

    attribute-model : (t : Bool) → a.must ≡ t → Gives (attribute t a Rest) d (attributes (a ∷ l))
    unfolding attribute events texts event_of form_of
    attribute-model true e at ns w (an_item {ts} {r} h j) = rw (required-none h refl) (present-model _ r _ j)
    attribute-model false e at ns w (an_item {v} {ts} {r} h j) =
        rw (form-plain h _ refl).1 (optional-model e v _ r _ (optional-value a.name h) j)

  attributes-model : (d : ℕ) (l : List Attribute) → Gives (model.attributes l done) d (attributes l)
  unfolding model.attributes events texts
  attributes-model d [] at ns w i = rw (done_none mode held i) Model.no-attribute
  attributes-model d (a ∷ l) at ns w i = attribute-model d a l (attributes-model d l) a.must refl at ns w i

  -- rows, where what stands for each row of depth d follows its model
  module _ (d : ℕ) (ih : (r : Row) → Gives (plan T d r done) d (row r)) where
    content-model : (c : rows.Content) → Gives (contents (plan T d) T.row c) d (content c)
    unfolding contents value events texts event_of
    content-model rows.Content.empty at ns w i = rw (done_none mode held i) Model.empty
    content-model (rows.Content.simple k b c) at ns w (an_item {v} {ts} {w = x} h j) =
        rw (done_none mode held j, append-nil ts) (Model.simple (value_of k b c v ts x h))
    content-model (rows.Content.particles r) at ns w i = Model.particles (ih (T.row r) at ns w i)

    -- two parts after one another
    both-model : {Q : Part} {P R : Plan} {at : ℕ} {ns : Nodes} {w : List ℕ} (s : Split mode held P R at ns w)
        → Modelled d Q (listed s.ns ++ listed s.ms) (texts s.ns ++ texts s.ms)
        → Modelled d Q (listed ns) (texts ns)
    both-model s m =
        let e = events-then s.ns s.ms in
        let f = map-append bare (events s.ns) (events s.ms) in
        rw (s.tree, e, f, texts-then s.ns s.ms) m

    inside-model : (t : ℕ) → Gives (within T (plan T d) t) d (inside t)
    unfolding within
    inside-model t at ns w i =
        let e = attributes-join (T.attributes t) (contents (plan T d) T.row (T.content t)) in
        let s = is-split mode held (model.attributes (T.attributes t) done) (rw e at i) in
        let first = attributes-model d (T.attributes t) _ _ _ s.first in
        both-model s (Model.within first (content-model (T.content t) _ _ _ s.second))

    pub one-model : (name : ℕ) (y : Types) → Gives (element name y (λ t. within T (plan T d) t) done) d (one name y)
    unfolding events texts flag_of
    one-model name y at ns w (an_element {t} {k} {h} {s} {c} {i} x e z g m j) =
        let inner = cast_in y (at + length s) t k (length c) i in
        let listing = cast-listed y (at + length s) t k (length c) i in
        let spelling = cast-texts y (at + length s) t k (length c) i in
        let last = append_assoc (cast_of y t k) (listed i) (bare end ∷ []) in
        rw (done_none mode held j, map-append bare (events inner) (end ∷ []), append-nil (texts inner))
        (rw (listing, spelling, last)
        (Model.element (flag_is x) (codes-chosen e) z (inside-model t _ i _ g)))
    one-model name y at ns w (a_blank v x e z u j) =
        rw (done_none mode held j) (Model.blank (flag_is x) (codes-chosen e) z)

    abbrev others : ℕ → (ℕ → Row) → Plan
    others n g = model.rows (plan T d) n g done

    first-split : (n : ℕ) (g : ℕ → Row) {at : ℕ} {ns : Nodes} {w : List ℕ} → Is mode held (others (suc n) g) at ns w
        → Split mode held (plan T d (g 0) done) (others n (λ i. g (suc i))) at ns w
    unfolding model.rows
    first-split n g i =
        is-split mode held (plan T d (g 0) done) (rw (plan-join T d (g 0) (others n (λ i. g (suc i)))) at i)

    children-model : (n first : ℕ) → Gives (others n (λ i. T.row (first + i))) d (children first n)
    unfolding model.rows events texts
    children-model zero first at ns w i = rw (done_none mode held i) Model.no-child
    children-model (suc n) first at ns w i =
        let zero-on : first + 0 ≡ first = omega arith in
        let one_on : (i : ℕ) → first + suc i ≡ first + 1 + i = λ i. omega arith in
        let shift : others n (λ i. T.row (first + suc i)) ≡ others n (λ i. T.row (first + 1 + i))
        = λ j. others n (λ i. T.row (one_on i j)) in
        let s = first-split n (λ i. T.row (first + i)) i in
        let one = rw zero-on at (ih (T.row (first + 0)) _ _ _ s.first) in
        both-model s (Model.child one (children-model n (first + 1) _ _ _ (rw shift at s.second)))

    repeats-model : (n c : ℕ) → Gives (others n (λ i. T.row c)) d (repeats c n)
    unfolding model.rows events texts
    repeats-model zero c at ns w i = rw (done_none mode held i) Model.no-repeat
    repeats-model (suc n) c at ns w i =
        let s = first-split n (λ i. T.row c) i in
        both-model s (Model.repeat (ih (T.row c) _ _ _ s.first) (repeats-model n c _ _ _ s.second))

  pub row-model : (d : ℕ) (r : Row) → Gives (plan T d r done) d (row r)
  unfolding plan due events texts event_of form_of
  row-model zero r at ns w i = absurd (no-deep mode held i refl)
  row-model (suc d) (Row.element name type r) at ns w i =
      Model.declared (one-model d (row-model d) name (types_of T type r) at ns w i)
  row-model (suc d) (Row.sequence first count) at ns w i =
      Model.sequence (children-model d (row-model d) count first at ns w i)
  row-model (suc d) (Row.choice first count) at ns w (an_item {v} {ts} {r} h j) =
      rw (form-plain h _ refl).1 (Model.choice (picked_value count h) (row-model d (T.row (first + v)) _ r _ j))
  row-model (suc d) (Row.occurs c least most) at ns w (an_item {v} {ts} {w = x} {r} h j) =
      let b = counted-within least most v ts x h in
      let rounds = repeats-model d (row-model d) v c _ r _ j in
      rw (form-plain h _ refl).1
      (Model.occurs {least = least} {most = most} {k = v} (omega arith) (omega arith) b.2 rounds)
