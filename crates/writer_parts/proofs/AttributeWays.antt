-- Each way through the attributes and what else stands before the rows of an element.
use Prim.Native.Nat.{ℕ, zero, suc, ◌+◌, ◌-◌, ◌*◌, ◌<◌, ◌≤◌, min}
use mathlib.Core.Path.{◌≡◌, refl, sym, ap, ◌∙◌}
use mathlib.Core.Bool.{Bool, true, false}
use mathlib.Core.List.{List, []}
use native.Mathlib.Omega.{arith}
use native.Mathlib.Decide.{dec_lt}
use borrow.Author.Tests.{lt-ltb, le-ltb}
use mir.Val.{Fits as FitsIn}
use mir.Syntax.{w32}
use lib.ListN.{length, get_or}
use Rattle.numbers.specs.Refusal.{no_reading}
use Rattle.wire.specs.Res.{got}
use Rattle.wire.specs.declared.Coded.{Coded}
use Rattle.table.specs.First.Verdict.{right}
use Rattle.table.specs.Valid.{verdict}
use Rattle.table.specs.Words.{types_in, attributes_in}
use Rattle.table.specs.Rows.{table_of, attribute_of, attributes_from}
use Rattle.table.specs.Views.{attribute_is, content_is, Spans}
use Rattle.table.specs.Inside.{AttributeInside}
use Rattle.table.proofs.Laws.{span-ok, counts-ok}
use Rattle.table.proofs.Walk.{attributes-walk}
use Rattle.table.proofs.RowsInside.{type-inside, attribute-inside}
use Rattle.table.specs.declared.answers.Attribute as attribute_t
use Rattle.table.specs.declared.answers.Content as content_t
use Rattle.table.specs.declared.answers.Content.TheVariants as ov
use Rattle.table.specs.declared.answers.Span as span_t
use Rattle.value.specs.Code.{choice}
use Rattle.value.specs.Simple.{plain}
use Rattle.value.specs.Answer.{inner_is, code_is}
use Rattle.value.proofs.WriteWays.{width_two}
use Rattle.value.specs.declared.Inner.TheVariants as iv
use Rattle.value.specs.declared.Code.TheVariants as cv
use Rattle.model.specs.Model.{Item, event_of}
use Rattle.model.specs.Model.Item.{required, optional, valued}
use Rattle.model.specs.Write.{Bare, Out, wrote, refused, put, along, word_of, as_item, simple_out, item_out}
use Rattle.model.proofs.OutLaws.{unlike-none, put-none, along-along, along-done}
use Rattle.model.specs.WriteSteps.{item_then}
use Rattle.model.proofs.WriteSteps.{out-required, out-optional}
use Rattle.model.specs.Whole.{event_at}
use Rattle.writer_parts.specs.declared.Spot.{Spot}
use Rattle.writer_parts.specs.declared.judging.Words.{Words}
use Rattle.std.specs.Prelude.{Result, Ok, Err}
use Rattle.numbers.specs.declared.refusal.Refusal.{Refusal}
use Rattle.numbers.specs.declared.refusal.Refusal.TheVariants as why
use Rattle.numbers.specs.declared.refusal.Fault.{Fault}
use Rattle.numbers.specs.Refused.{number_of}
use Rattle.writer_parts.specs.Notes.{keeps}
use Rattle.writer_parts.specs.Walk.{Judgement, events_in, events_at, texts_at, past, Ready, Walked, Walks, wanted, judged, KindJudged, noted, alone}
use Rattle.writer_parts.proofs.NoteLaws.{note-none}
use Rattle.writer_parts.proofs.NoteWays.{inner-choice, note-of-done}
use Rattle.writer_parts.proofs.WalkLaws.{went, walked_as, stays, along-stop, along-go, alone-noted, item-rest, judged-in, judged-is, taken-unlike}
use Rattle.writer_parts.specs.declared.attributes.Slot.{Slot}
use Rattle.writer_parts.specs.declared.attributes.Marked.{Marked}
use Rattle.writer_parts.specs.declared.attributes.Marked.TheVariants as mv
use Rattle.writer_parts.specs.Parts.{present, required·, optional·, attribute·, attributes·, flag_item, own·, values·, attribute_in, bare·, slot·, slot_at·, Slots, Marks}
use Rattle.writer_parts.proofs.Leads.{Leads, leads-start, leads-end, leads-stop, leads-go}
use Rattle.writer_parts.proofs.PutWays.{put-kept}
use Rattle.writer_parts.proofs.JudgingWays.{kind-fine, kind-faulty, unlike-first, unlike-second, like, noted-unlike, noted-got, word-first, word-second, kind-room, place-near, next-near}
use Rattle.writer_parts.proofs.ValueWays.{item-as, item-unlike, coded-go, picked-spelt}

-- after a step, the cursor is ready
pub ready_on : (L X : List ℕ) (o : Out) (c : Spot) (N : List ℕ) (r : Judgement) (M : List ℕ) → Walked L X o c N r M → (e : Spot) → r ≡ Ok e → Ready L X M e
ready_on L X o c N r M h e w = (went h e w).ready

-- an attribute's flag by itself is an event noted
module _ (L X : List ℕ) (c : Spot) (N : List ℕ) (s : Judgement) (M : List ℕ) where
  abbrev T : List ℕ
  T = texts_at X c.used

  abbrev Event : Bare
  Event = event_at L c.event

  required-as : (name : ℕ) → Walked L X (noted (wanted 2 name 1) (got ([], T)) (events_at L c.event)) c N s M → Walks L X (alone (required name)) c N s M
  unfolding event_of word_of
  required-as name h = item-as L X c N s M (required name) (wanted 2 name 1) (got ([], T)) refl (out-required (word_of (required name) Event) T name) h

  optional-as : (name q : ℕ) → q ≡ min (get_or L (4 * c.event + 2) 0) 1
      → Walked L X (noted (wanted 2 name q) (simple_out (plain (code_is (cv.Plain (iv.Choice 2)))) q T) (events_at L c.event)) c N s M → Walks L X (alone (optional name)) c N s M
  unfolding event_of word_of code_is inner_is
  optional-as name q z h = item-as L X c N s M (optional name) (wanted 2 name q) (simple_out (plain (choice 2)) q T) (rw z) (out-optional (word_of (optional name) Event) T name ∙ rw (← z)) h

module _ (L X : List ℕ) (c : Spot) (N : List ℕ) (r : Ready L X N c) where
  pub flag-unlike : (must : Bool) (name : ℕ) (y : Refusal) → KindJudged L c.event 2 (number_of y) → Walks L X (alone (flag_item must name)) c N (Err (record { why = y; at = c.event })) N
  unfolding event_of
  flag-unlike true name y h = item-unlike L X c N r (required name) 2 y refl h
  flag-unlike false name y h = item-unlike L X c N r (optional name) 2 y refl h

pub flag-bits : (L X N : List ℕ) (c : Spot) → Ready L X N c → FitsIn w32 (c.bits + 1)
flag-bits L X N c r = let i = r.inside in let f = r.few in let s = r.small in record { fits = omega arith }

-- note_attribute: the kind is that of an attribute
module _ (L X : List ℕ) (c : Spot) (N : List ℕ) (r : Ready L X N c) (name : ℕ) (j : KindJudged L c.event 2 0) (w : Words) (first : w.p ≡ get_or L (4 * c.event + 1) 0) (second : w.q ≡ get_or L (4 * c.event + 2) 0) where
  abbrev q : ℕ
  q = w.q

  here : c.event < events_in L
  here = j.there refl

  kind-is : 2 ≡ get_or L (4 * c.event) 0
  kind-is = j.same refl

  wrong : (must : Bool) → no_reading ≡ judged L c.event (wanted 2 name 1) → no_reading ≡ judged L c.event (wanted 2 name (min q 1)) → Walks L X (alone (flag_item must name)) c N (Err (record { why = why.NoReading; at = c.event })) N
  wrong true e f = required-as L X c N (Err (record { why = why.NoReading; at = c.event })) N name (noted-unlike L X c N (wanted 2 name 1) _ r why.NoReading e)
  wrong false e f = optional-as L X c N (Err (record { why = why.NoReading; at = c.event })) N name (min q 1) (ap (λ (i : ℕ). min i 1) second) (noted-unlike L X c N (wanted 2 name (min q 1)) _ r why.NoReading f)

  pub flag-name : (must : Bool) → (w.p ≡ name → ⊥) → Walks L X (alone (flag_item must name)) c N (Err (record { why = why.NoReading; at = c.event })) N
  flag-name must e = wrong must (unlike-first L c.event 2 name 1 here kind-is (λ h. e (first ∙ sym h))) (unlike-first L c.event 2 name (min q 1) here kind-is (λ h. e (first ∙ sym h)))

  module _ (e : w.p ≡ name) where
    pub flag-many : (must : Bool) → 1 < q → Walks L X (alone (flag_item must name)) c N (Err (record { why = why.NoReading; at = c.event })) N
    flag-many must h = wrong must (unlike-second L c.event 2 name 1 here kind-is (sym e ∙ first) (λ f. omega arith)) (unlike-second L c.event 2 name (min q 1) here kind-is (sym e ∙ first) (λ f. omega arith))

    module _ (must : Bool) where
      pub flag-absent : must ≡ true → q ≡ 0 → Walks L X (alone (flag_item must name)) c N (Err (record { why = why.NoReading; at = c.event })) N
      flag-absent m h =
          rw m (required-as L X c N (Err (record { why = why.NoReading; at = c.event })) N name (noted-unlike L X c N (wanted 2 name 1) _ r why.NoReading (unlike-second L c.event 2 name 1 here kind-is (sym e ∙ first) (λ f. omega arith))))

      pub flag-must : must ≡ true → q ≤ 1 → (q ≡ 0 → ⊥) → (M : List ℕ) → M ≡ keeps N c.event 0 → Walks L X (alone (flag_item must name)) c N (Ok (past c)) M
      flag-must m h g M k =
          let l : 0 ≡ judged L c.event (wanted 2 name 1) = like L c.event 2 name 1 here kind-is (sym e ∙ first) (omega arith) in
          rw m (required-as L X c N (Ok (past c)) M name
          (noted-got L X c N (wanted 2 name 1) _ r l [] 0 M (past c) refl (note-none X) k refl (omega arith) (omega arith) r.used (omega arith)))

      pub flag-may : must ≡ false → q ≤ 1 → (M : List ℕ) → M ≡ keeps N c.event (2199023255552 + q)
          → Walks L X (alone (flag_item must name)) c N (Ok (record { event = c.event + 1; used = c.used; bits = c.bits + 1 })) M
      flag-may m h M k =
          let n : min q 1 ≡ q = omega arith in
          let l : 0 ≡ judged L c.event (wanted 2 name q) = like L c.event 2 name q here kind-is (sym e ∙ first) second in
          let g : Coded = record { size = 1; bits = q } in
          let s = picked-spelt 2 q (Ok g) (inner-choice (iv.Choice 2) q 2 refl 1 q (omega arith) (omega arith) (sym width_two) refl) in
          rw m (optional-as L X c N (Ok (record { event = c.event + 1; used = c.used; bits = c.bits + 1 })) M name q (sym n ∙ ap (λ (i : ℕ). min i 1) second)
          (coded-go L X c N (wanted 2 name q) r l (cv.Plain (iv.Choice 2)) q (Ok g) s g refl (2199023255552 + q) (note-of-done g (omega arith) (omega arith)) M k))

pub ruleset note_attribute_ways = (put-kept, kind-fine, kind-faulty, flag-unlike, word-first, word-second, place-near, next-near, kind-room, flag-name, flag-many, flag-absent, flag-must, flag-may, flag-bits)

-- an item and then the rest
module _ (L X : List ℕ) (c : Spot) (N : List ℕ) (r : Judgement) (M : List ℕ) (i : Item) (k : ℕ → List Bare → List ℕ → Out) (h : Walks L X (alone i) c N r M) where
  pub item-stop : (f : Fault ℕ) → r ≡ Err f → Walked L X (item_then i (events_at L c.event) (texts_at X c.used) k) c N r M
  item-stop f w = walked_as r (item-rest L c.event i (texts_at X c.used) k) (along-stop L X (alone i (events_at L c.event) (texts_at X c.used)) (λ A U. k (word_of i (event_at L c.event)) A U) c N r M h f w)

  pub item-go : (v : ℕ) → v ≡ word_of i (event_at L c.event) → (e : Spot) → r ≡ Ok e → (s : Judgement) (K : List ℕ) → Walked L X (k v (events_at L e.event) (texts_at X e.used)) e M s K
      → Walked L X (item_then i (events_at L c.event) (texts_at X c.used) k) c N s K
  item-go v z e w s K y =
      walked_as s (item-rest L c.event i (texts_at X c.used) k)
      (along-go L X (alone i (events_at L c.event) (texts_at X c.used)) (λ A U. k (word_of i (event_at L c.event)) A U) c N r M h e w s K (rw (← z) y))

-- an item that was walked is the event's
module _ (L X : List ℕ) (c : Spot) (N : List ℕ) (r : Ready L X N c) (i : Item) (s : Judgement) (M : List ℕ) (h : Walks L X (alone i) c N s M) (e : Spot) (w : s ≡ Ok e) where
  item-judged : judged L c.event (as_item i (event_at L c.event)) ≡ 0
  unfolding noted
  item-judged = elim (dec_lt 0 (judged L c.event f)) [
    | yes p ↦
        let a : noted f (item_out i (word_of i (event_at L c.event)) (texts_at X c.used)) (events_at L c.event) ≡ refused (judged L c.event f) (events_in L - c.event) = taken-unlike L c.event f (λ e. f) _ refl (judged L c.event f) refl p r.inside in
        let b = sym (alone-noted L c.event i (texts_at X c.used)) ∙ (went h e w).out in
        absurd (let z : ◌≡◌ {A = ℕ} 0 1 = cc in omega arith)
    | no p ↦ omega arith
  ]
    where
      f : Bare
      f = as_item i (event_at L c.event)

  pub item-here : c.event < events_in L
  item-here = judged-in L c.event (as_item i (event_at L c.event)) item-judged

  item-same : as_item i (event_at L c.event) ≡ event_at L c.event
  item-same = let f = as_item i (event_at L c.event) in unlike-none f (event_at L c.event) (sym (judged-is L c.event f item-here) ∙ item-judged)

  pub item-words : 4 * c.event + 2 < length L
  item-words = let h = item-here in omega arith

-- before_value: a slot's flag
module _ (L X : List ℕ) (c : Spot) (N : List ℕ) (s : Slot) (ready : Ready L X N c) where
  module _ (f : s.flagged ≡ true) (r : Judgement) (M : List ℕ) (h : Walks L X (alone (flag_item s.must s.name)) c N r M) where
    abbrev there : ℕ
    there = get_or L (4 * c.event + 2) 0

    flagged-is : slot· s (events_at L c.event) (texts_at X c.used) ≡ attribute· (attribute_in s) (events_at L c.event) (texts_at X c.used)
    unfolding slot·
    flagged-is = rw f

    pub before-value-stop : (e : Fault ℕ) → r ≡ Err e → Marks L X s c N (Err e) M
    unfolding attribute· required· optional·
    before-value-stop e w = record { is = walked_as (Err e) flagged-is (rw w at (go s.must refl)) }
      where
        go : (must : Bool) → s.must ≡ must → Walked L X (attribute· (attribute_in s) (events_at L c.event) (texts_at X c.used)) c N r M
        go true m = rw m (item-stop L X c N r M (required s.name) (λ v A U. alone (valued s.simple s.b s.c) A U) (rw m at h) e w)
        go false m = rw m (item-stop L X c N r M (optional s.name) (λ v A U. present v s.simple s.b s.c A U) (rw m at h) e w)

    module _ (e : Spot) (w : r ≡ Ok e) where
      pub before-value-words : 4 * c.event + 2 < length L
      before-value-words = item-words L X c N ready (flag_item s.must s.name) r M h e w

      pub before-value-value : there ≡ 1 → Marks L X s c N (Ok (mv.Value e)) M
      unfolding attribute· required· optional· word_of present
      before-value-value one = record { is = (ready_on L X _ c N r M h e w, λ u K y. walked_as u flagged-is (go s.must refl u K y)) }
        where
          go : (must : Bool) → s.must ≡ must → (u : Judgement) (K : List ℕ) → Walks L X (alone (valued s.simple s.b s.c)) e M u K → Walked L X (attribute· (attribute_in s) (events_at L c.event) (texts_at X c.used)) c N u K
          go true m u K y = rw m (item-go L X c N r M (required s.name) (λ v A U. alone (valued s.simple s.b s.c) A U) (rw m at h) 1 refl e w u K y)
          go false m u K y = rw m (item-go L X c N r M (optional s.name) (λ v A U. present v s.simple s.b s.c A U) (rw m at h) 1 (omega arith) e w u K y)

      pub before-value-nothing : (there ≡ 1 → ⊥) → Marks L X s c N (Ok (mv.Nothing e)) M
      unfolding attribute· required· optional· event_of word_of present
      before-value-nothing none = record { is = walked_as (Ok e) flagged-is (go s.must refl) }
        where
          go : (must : Bool) → s.must ≡ must → Walked L X (attribute· (attribute_in s) (events_at L c.event) (texts_at X c.used)) c N (Ok e) M
          go true m = let same = item-same L X c N ready (required s.name) r M (rw m at h) e w in absurd (none (sym (ap (λ (f : Bare). f.q) same)))
          go false m =
              let same : min there 1 ≡ there = ap (λ (f : Bare). f.q) (item-same L X c N ready (optional s.name) r M (rw m at h) e w) in
              let zero_is : 0 ≡ min there 1 = omega (arith, none) in
              rw m (item-go L X c N r M (optional s.name) (λ v A U. present v s.simple s.b s.c A U) (rw m at h) 0 zero_is e w (Ok e) M (stays L X e M (ready_on L X _ c N r M h e w)))

  module _ (f : s.flagged ≡ false) where
    pub before-value-own : s.valued ≡ true → Marks L X s c N (Ok (mv.Value c)) N
    unfolding slot· bare·
    before-value-own v = record { is = (ready, λ u K y. walked_as u (rw (f, v)) y) }

    pub before-value-none : s.valued ≡ false → Marks L X s c N (Ok (mv.Nothing c)) N
    unfolding slot· bare·
    before-value-none v = record { is = walked_as (Ok c) (rw (f, v)) (stays L X c N ready) }

pub ruleset before_value_ways = (place-near, before-value-stop, before-value-words, before-value-value, before-value-nothing, before-value-own, before-value-none)

-- part
module _ (L X : List ℕ) (c : Spot) (N : List ℕ) (s : Slot) (m : Result Marked (Fault ℕ)) (M : List ℕ) (h : Marks L X s c N m M) where
  pub part-stop : (f : Fault ℕ) → m ≡ Err f → Walks L X (slot· s) c N (Err f) M
  part-stop f w = rw w at h.is

  pub part-nothing : (e : Spot) → m ≡ Ok (mv.Nothing e) → Walks L X (slot· s) c N (Ok e) M
  part-nothing e w = rw w at h.is

  module _ (e : Spot) (w : m ≡ Ok (mv.Value e)) where
    given : (Ready L X M e) × ((r : Judgement) (K : List ℕ) → Walks L X (alone (valued s.simple s.b s.c)) e M r K → Walks L X (slot· s) c N r K)
    given = rw w at h.is

    pub part-ready : Ready L X M e
    part-ready = given.0

    pub part-value : (r : Judgement) (K : List ℕ) → Walks L X (alone (valued s.simple s.b s.c)) e M r K → Walks L X (slot· s) c N r K
    part-value r K y = given.1 r K y

pub ruleset part_ways = (part-stop, part-nothing, part-ready, part-value)

-- slot_at
module _ (t : List ℕ) (ty first n i : ℕ) where
  pub slot_row : i < n → (a : attribute_t.Attribute) → attribute_is a ≡ attribute_of t (first + i) → (s : Slot) → s.flagged ≡ true → attribute_in s ≡ attribute_is a → Slots t ty first n i s
  unfolding slot· slot_at·
  slot_row h a e s f g = record { is = λ M X. rw (f, g, e, lt-ltb i n h) }

  module _ (h : n ≤ i) (o : content_t.Content) (e : content_is o ≡ (table_of t).content ty) where
    pub slot-value : (k b c : ℕ) → o ≡ ov.Simple k b c → (s : Slot) → s.flagged ≡ false → s.valued ≡ true → (s.simple ≡ k) × (s.b ≡ b) × (s.c ≡ c) → Slots t ty first n i s
    unfolding slot· bare· slot_at· own·
    slot-value k b c w s f v g = record { is = λ M X. rw (f, v, g.0, g.1, g.2, le-ltb i n h, ← e, w) }

    module _ (s : Slot) (f : s.flagged ≡ false) (v : s.valued ≡ false) where
      pub slot-empty : o ≡ ov.Empty → Slots t ty first n i s
      unfolding slot· bare· slot_at· own·
      slot-empty w = record { is = λ M X. rw (f, v, le-ltb i n h, ← e, w) }

      pub slot-rows : (row : ℕ) → o ≡ ov.Particles row → Slots t ty first n i s
      unfolding slot· bare· slot_at· own·
      slot-rows row w = record { is = λ M X. rw (f, v, le-ltb i n h, ← e, w) }

module _ (t : List ℕ) (valid : verdict t ≡ right) where
  pub slot-near : (first n i : ℕ) → first + n ≤ attributes_in t → i < n → FitsIn w32 (first + i)
  slot-near first n i f h = let k = (counts-ok t valid).attributes_few in record { fits = omega arith }

  pub slot-inside : (first n i : ℕ) → first + n ≤ attributes_in t → i < n → AttributeInside t (first + i)
  slot-inside first n i f h = attribute-inside t valid (first + i) (omega arith)

pub ruleset slot_ways = (slot_row, slot-value, slot-empty, slot-rows, slot-near, slot-inside, type-inside)

-- before_rows: the slots that are left
module _ (t : List ℕ) (ty first n : ℕ) where
  unfoldable pub rest : (k i : ℕ) → List Bare → List ℕ → Out
  rest zero i M X = wrote [] M X
  rest (suc k) i M X = along (slot_at· t ty first n i M X) (λ N U. rest k (i + 1) N U)

  rest_all : (k i : ℕ) → i + k ≡ n → (M : List Bare) (X : List ℕ) → along (attributes· (attributes_from t k (first + i)) M X) (λ N U. own· ((table_of t).content ty) N U) ≡ rest (suc k) i M X
  unfolding rest attributes· attributes_from slot_at· along put
  rest_all zero i e M X =
      put-none (own· ((table_of t).content ty) M X) ∙ sym (rw (le-ltb i n (omega arith)) (along-done (own· ((table_of t).content ty) M X)))
  rest_all (suc k) i e M X =
      let f : first + i + 1 ≡ first + (i + 1) = omega arith in
      along-along (attribute· (attribute_of t (first + i)) M X) (λ N U. attributes· (attributes_from t k (first + i + 1)) N U) (λ N U. own· ((table_of t).content ty) N U)
      ∙ (λ j. along (attribute· (attribute_of t (first + i)) M X) (λ N U. along (attributes· (attributes_from t k (f j)) N U) (λ A B. own· ((table_of t).content ty) A B)))
      ∙ (λ j. along (attribute· (attribute_of t (first + i)) M X) (λ N U. rest_all k (i + 1) (omega arith) N U j))
      ∙ rw (lt-ltb i n (omega arith))

  module _ (L X : List ℕ) where
    unfoldable pub left : ℕ → Spot → Out
    left i c = rest (n + 1 - i) i (events_at L c.event) (texts_at X c.used)

    pub before-rows-start : (s : span_t.Span) → Spans t ty s → s.first ≡ first → s.count ≡ n → (c : Spot) (N : List ℕ) → Leads L X (values· t ty (events_at L c.event) (texts_at X c.used)) c N (left 0 c) c N
    unfolding values· left
    before-rows-start s h f g c N =
        leads-start L X _ _ c N
        (let a : n + 1 - 0 ≡ suc n = omega arith in
        let b : first + 0 ≡ first = omega arith in
        rw (attributes-walk t ty, ← h.first_is, ← h.count-is, f, g, a) (rw b at (rest_all n 0 (omega arith) (events_at L c.event) (texts_at X c.used))))

    left-none : (i : ℕ) (c : Spot) → n < i → left i c ≡ wrote [] (events_at L c.event) (texts_at X c.used)
    unfolding left rest
    left-none i c h = let a : n + 1 - i ≡ 0 = omega arith in rw a

    left-more : (i : ℕ) (c : Spot) → i ≤ n → left i c ≡ along (slot_at· t ty first n i (events_at L c.event) (texts_at X c.used)) (λ A U. rest (n + 1 - (i + 1)) (i + 1) A U)
    unfolding left rest
    left-more i c h = let a : n + 1 - i ≡ suc (n + 1 - (i + 1)) = omega arith in rw a

    module _ (o₀ : Out) (c₀ : Spot) (N₀ : List ℕ) (i : ℕ) (c : Spot) (N : List ℕ) (l : Leads L X o₀ c₀ N₀ (left i c) c N) where
      pub before-rows-end : n < i → Ready L X N c → Walked L X o₀ c₀ N₀ (Ok c) N
      before-rows-end h r = leads-end L X o₀ c₀ N₀ (left i c) c N l (left-none i c h) r

      module _ (h : i ≤ n) (s : Slot) (m : Slots t ty first n i s) (r : Judgement) (M : List ℕ) (g : Walks L X (slot· s) c N r M) where
        at : Walked L X (slot_at· t ty first n i (events_at L c.event) (texts_at X c.used)) c N r M
        at = walked_as r (sym (m.is (events_at L c.event) (texts_at X c.used))) g

        pub before-rows-stop : (f : Fault ℕ) → r ≡ Err f → Walked L X o₀ c₀ N₀ r M
        before-rows-stop f w = leads-stop L X o₀ c₀ N₀ (left i c) c N l _ _ (left-more i c h) r M at f w

        pub before-rows-again : (e : Spot) → r ≡ Ok e → Leads L X o₀ c₀ N₀ (left (i + 1) e) e M
        unfolding left
        before-rows-again e w = leads-go L X o₀ c₀ N₀ (left i c) c N l _ _ (left-more i c h) r M at e w _ refl

module _ (t : List ℕ) (ty : ℕ) (valid : verdict t ≡ right) (known : ty < types_in t) (s : span_t.Span) (h : Spans t ty s) where
  pub span-inside : s.first + s.count ≤ attributes_in t
  span-inside = let a = span-ok t valid ty known in let f = h.first_is in let g = h.count-is in omega arith

  pub before-rows-near : (i : ℕ) → i ≤ s.count → FitsIn w32 (i + 1)
  before-rows-near i k = let a = span-inside in let b = (counts-ok t valid).attributes_few in record { fits = omega arith }

pub before-rows-turn : (i n : ℕ) → i ≤ n → i + 1 ≤ n + 1
before-rows-turn i n h = omega arith

pub ruleset before_rows_ways = (before-rows-start, before-rows-end, before-rows-stop, before-rows-again, span-inside, before-rows-near, before-rows-turn, type-inside, ready_on)
