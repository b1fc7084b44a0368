-- Each way through the cycle.
use Prim.Native.Nat.{ℕ, zero, suc, ◌+◌, ◌-◌, ◌*◌, ◌<◌, ◌≤◌}
use mathlib.Core.Path.{◌≡◌, refl, sym, ap, subst, ◌∙◌}
use mathlib.Core.Bool.{Bool, true, false, cond, true≢false}
use mathlib.Core.List.{List, [], ◌∷◌, ◌++◌}
use native.Mathlib.Omega.{arith}
use native.Mathlib.Decide.{dec_lt, ℕ_discrete}
use borrow.Author.Tests.{lt-ltb, le-ltb, eq-eqb, ne_eqb}
use mir.Val.{Fits as FitsIn}
use mir.Syntax.{w32}
use lib.ListN.{length, get_or, length-append}
use Rattle.numbers.specs.declared.refusal.Refusal.{Refusal}
use Rattle.numbers.specs.declared.refusal.Refusal.TheVariants as refusal
use Rattle.numbers.specs.declared.refusal.Fault.{Fault}
use Rattle.numbers.specs.Refused.{number_of, answered}
use Rattle.numbers.specs.Kind as kinds
use Rattle.table.specs.First.Verdict.{right}
use Rattle.table.specs.Valid.{verdict}
use Rattle.table.specs.Words.{types_in, particles_in}
use Rattle.table.specs.Rows.{Row, Content, Attribute, Table, table_of, held_of}
use Rattle.table.specs.Keeps.{GroupOk, OccursOk, RowOk, ContentOk}
use Rattle.table.proofs.Laws.{row_ok, content-ok, counts-ok}
use Rattle.table.specs.Views.{content_is, row_is}
use Rattle.table.specs.Inside.{ParticleInside}
use Rattle.table.proofs.RowsInside.{particle-inside}
use Rattle.table.specs.declared.answers.Content as content_t
use Rattle.table.specs.declared.answers.Content.TheVariants as ov
use Rattle.table.specs.declared.answers.Particle as particle_t
use Rattle.table.specs.declared.answers.Particle.TheVariants as pv
use Rattle.model.specs.Model.{Types, codes, sends, only, table_in, value, maybe}
use Rattle.model.specs.Model.Plan.{done}
use Rattle.model.specs.Model.Item.{required, optional, valued, picked, counted}
use Rattle.model.specs.Items.{Lengths}
use Rattle.model.specs.Modes.{lengths_is, types_by, no_row, row_choices}
use Rattle.model.proofs.ModeLaws.{types-by, types-only}
use Rattle.model.specs.declared.Choices.{Choices}
use Rattle.model.specs.declared.Mode.{Mode}
use Rattle.model.specs.Write.{Bare, Out, wrote, put, along, word_of, as_start, flag_in, casts, sealed, too_deep, allowed, element_out, write, as_item, item_out}
use Rattle.model.proofs.OutLaws.{Says, gives, taken-says, coded-says, casts-none, put-none, along-along, along-done}
use Rattle.model.proofs.ItemOut.{item-written, picked_value}
use Rattle.model.specs.WriteSteps as steps
use Rattle.model.proofs.WriteSteps as steps-laws
use Rattle.model.specs.Whole.{event_at}
use Rattle.model.proofs.Named.{item-out-named}
use Rattle.writer_parts.specs.declared.Spot.{Spot}
use Rattle.std.specs.Prelude.{Result, Ok, Err}
use Rattle.writer_parts.specs.Codes as codes_p
use Rattle.writer_parts.specs.Codes.{Rowed, Cast, Casts}
use Rattle.writer_parts.proofs.NoteLaws.{spells-none, spells-by, spells-same}
use Rattle.writer_parts.specs.Walk.{Judgement, events_in, events_at, texts_at, between, past, Ready, Sealing, Walked, Walks, wanted, judged, noted, alone}
use Rattle.writer_parts.proofs.WalkLaws.{went, stopped, walked_as, stays, along-stop, along-go, alone-noted, events-next, events-none, events-count, judged-in, taken-like, taken-unlike}
use Rattle.writer_parts.specs.Parts.{present, required·, optional·, attribute·, attributes·, own·, values·}
use Rattle.writer.specs.Meaning.{Owned, Known, Rounds, Given, RightFor, Within, deep_at, particle·, inside·, element·, choose·, rounds·, occur·, row·, list·}
use Rattle.writer_parts.proofs.JudgingWays.{some}
use Rattle.writer_parts.proofs.Leads.{Leads, leads-start, leads-end, leads-stop, leads-go}
use Rattle.writer_parts.proofs.AttributeWays.{ready_on, item-stop, item-go, item-here}

-- length coding, and the table as a mode has it
abbrev len : Mode → Lengths
len mode = lengths_is mode.lengths

abbrev tab : List ℕ → Mode → Table
tab t mode = table_in mode.choices.derived (table_of t)

-- the attributes' writing, by items alone
module _ (mode : Lengths) (held : ℕ → Bool) (T : Table) where
  maybe-is : (v : ℕ) (a : Attribute) (M : List Bare) (X : List ℕ) → write mode held (maybe v (value a.simple a.b a.c done) done) M X ≡ present v a.simple a.b a.c M X
  unfolding present alone
  maybe-is zero a M X = steps-laws.maybe-absent mode held T M X a
  maybe-is (suc v) a M X = steps-laws.maybe-present mode held T M X v a ∙ steps-laws.value-is mode held T M X a.simple a.b a.c

  attribute-is : (a : Attribute) (M : List Bare) (X : List ℕ) → steps.attribute_out mode held T a M X ≡ attribute· a M X
  unfolding attribute· required· optional· alone
  attribute-is a M X = go a.must refl
    where
      go : (b : Bool) → a.must ≡ b → steps.attribute_out mode held T a M X ≡ cond a.must (steps.item_then (required a.name) M X (λ v N U. steps.item_then (valued a.simple a.b a.c) N U (λ v N U. wrote [] N U))) (steps.item_then (optional a.name) M X (λ v N U. present v a.simple a.b a.c N U))
      go true e = steps-laws.attribute-required mode held T M X a e ∙ (λ j. steps.item_then (required a.name) M X (λ v N U. steps-laws.value-is mode held T N U a.simple a.b a.c j)) ∙ rw e
      go false e = steps-laws.attribute-optional mode held T M X a e ∙ (λ j. steps.item_then (optional a.name) M X (λ v N U. maybe-is v a N U j)) ∙ rw e

  pub attributes-are : (l : List Attribute) (M : List Bare) (X : List ℕ) → steps.attributes_out mode held T l M X ≡ attributes· l M X
  unfolding attributes·
  attributes-are [] M X = steps-laws.attributes-none mode held T M X
  attributes-are (a ∷ l) M X = steps-laws.attributes-more mode held T M X a l ∙ (λ j. along (attribute-is a M X j) (λ N U. attributes-are l N U j))

-- what refuses nothing has no number
none-refused : (b : Result Unit Refusal) → ((e : Refusal) → b ≡ Err e → ⊥) → answered b ≡ 0
none-refused (Ok u) n = refl
none-refused (Err e) n = absurd (n e refl)

-- too_deep
pub deep-here : (L : List ℕ) (i : ℕ) → i < events_in L → ◌≡◌ {A = Fault ℕ} (record { why = refusal.Depth; at = i }) (deep_at L i)
unfolding deep_at
deep-here L i h = rw (lt-ltb i (events_in L) h)

pub deep-past : (L : List ℕ) (i : ℕ) → events_in L ≤ i → ◌≡◌ {A = Fault ℕ} (record { why = refusal.NoReading; at = i }) (deep_at L i)
unfolding deep_at
deep-past L i h = rw (le-ltb i (events_in L) h)

module _ (L X : List ℕ) (c : Spot) (N : List ℕ) where
  pub deep-walked : Ready L X N c → (f : Fault ℕ) → f ≡ deep_at L c.event → Walked L X (too_deep (events_at L c.event)) c N (Err f) N
  unfolding too_deep
  deep-walked r f e = elim (dec_lt c.event (events_in L)) [
    | yes h ↦
        let k : suc (length (events_at L (c.event + 1))) ≡ events_in L - c.event = omega (arith, events-count L (c.event + 1)) in
        rw (e, ← deep-here L c.event h, events-next L c.event h, k) (record { is = record { out = refl; inside = r.inside } })
    | no h ↦
        let i = r.inside in
        let k : events_in L - c.event ≡ 0 = omega arith in
        rw (e, ← deep-past L c.event (omega arith), events-none L c.event (omega arith)) (record { is = record { out = rw k; inside = r.inside } })
  ]

-- choices_of: the root looks for nothing
module _ (c : Choices) (row : ℕ) where
  pub row-chosen : (t : List ℕ) → Owned t row → (c.any ≡ false → (c.substitutes ≡ false) × (c.derived ≡ false)) → Rowed t (row_choices c row) row
  row-chosen t h n = elim (ℕ_discrete row no_row) [
    | yes e ↦ rw (eq-eqb row no_row e) (record { known = λ z. absurd (true≢false (sym z)); neither = λ z. (refl, refl) })
    | no e ↦ rw (ne_eqb row no_row e) (record { known = λ z. h e; neither = n })
  ]

-- row_for
module _ (t : List ℕ) (name ty i : ℕ) where
  pub row-table : (i ≡ no_row → ⊥) → (p : particle_t.Particle) → row_is p ≡ (table_of t).row i → Given t name ty i p
  row-table n p e = record { root = λ z. absurd (n z); row = λ z. e }

pub row_inside : (t : List ℕ) (ty i : ℕ) → verdict t ≡ right → Known t ty i → (i ≡ no_row → ⊥) → ParticleInside t i
row_inside t ty i v k n = particle-inside t v i (k.row n)

-- what was walked past an element's Start, codes and then what is inside it: it may be sealed
module _ (L X : List ℕ) (c : Spot) (N : List ℕ) (t : List ℕ) (y : Types) (ty : ℕ) (f : Spot) (M : List ℕ) (g : codes_p.Went t L X y (past c) N ty f M)
    {p : Out} (s : Judgement) (K : List ℕ) (i : Walked L X p f M s K) (o : Spot) (w : s ≡ Ok o) where
  coded-along : between X K (past c) o ≡ between X M (past c) f ++ between X K f o
  coded-along =
      let k = went i o w in
      let n = g.onward in
      let m = k.onward in
      spells-by X K (c.event + 1) f.event o.event n m
      ∙ ap (λ (l : List ℕ). l ++ between X K f o) (spells-same X M K (c.event + 1) (f.event - (c.event + 1)) (λ j h e. k.before j (omega arith)))

  sealing : Sealing L X K c o
  sealing =
      let k = went i o w in
      let n = g.onward in
      let m = k.onward in
      record { started = omega arith; ready = k.ready; counts = rw coded-along (omega (arith, length-append (between X M (past c) f) (between X K f o), k.counts, g.counts)) }

-- past the codes, or where there are none
pub cast-went : (L X : List ℕ) (c : Spot) (N : List ℕ) (t : List ℕ) (y : Types) (k : Cast) (M : List ℕ) → Casts t L X y (past c) N k M → (ty : ℕ) (f : Spot) → k ≡ Ok (ty, f) → codes_p.Went t L X y (past c) N ty f M
cast-went L X c N t y k M g ty f w = rw w at g.is

pub uncast-went : (L X : List ℕ) (c : Spot) (N : List ℕ) (t : List ℕ) (ch : Choices) (ty row : ℕ) → Rowed t ch row → ch.any ≡ false → ty < types_in t → Ready L X N (past c) → codes_p.Went t L X (types_by t ch ty row) (past c) N ty (past c) N
unfolding codes sends
uncast-went L X c N t ch ty row h a k r =
    let n = h.neither a in
    let y : types_by t ch ty row ≡ only ty = types-only t ch n.0 n.1 ty row in
    let z : c.event + 1 - (c.event + 1) ≡ 0 = omega arith in
    let e : between X N (past c) (past c) ≡ [] = rw z (spells-none X N (c.event + 1)) in
    rw y (record { out = λ f. casts-none (only ty) (events_at L (c.event + 1)) f refl ∙ rw e; known = k; counts = rw e (omega arith); onward = omega arith; texts = refl; ready = r; before = λ j g. refl })

-- past a Start that is like
pub element-ready : (L X : List ℕ) (c : Spot) (N : List ℕ) → Ready L X N c → (f : Bare) (b : Result Unit Refusal) → answered b ≡ judged L c.event f → ((e : Refusal) → b ≡ Err e → ⊥) → Ready L X N (past c)
element-ready L X c N r f b j z =
    let i = judged-in L c.event f (sym j ∙ none-refused b z) in
    record { sized = r.sized; few = r.few; inside = omega arith; used = r.used; short = omega (arith, r.short); small = omega (arith, r.small) }

-- element: behind its Start come its codes, and then what its effective type lets come
module _ (L X : List ℕ) (c : Spot) (N : List ℕ) (r : Ready L X N c) (t : List ℕ) (mode : Mode) (d name : ℕ) (y : Types) (b : Result Unit Refusal)
    (j : answered b ≡ judged L c.event (wanted kinds.start name (flag_in (len mode) (get_or L (4 * c.event + 2) 0)))) where
  abbrev q : ℕ
  q = get_or L (4 * c.event + 2) 0

  abbrev start : Bare
  start = wanted kinds.start name (flag_in (len mode) q)

  pub element-unlike : (e : Refusal) → b ≡ Err e → Walks L X (element· t mode d name y) c N (Err record { why = e; at = c.event }) N
  unfolding element· element_out
  element-unlike e w = record { is = record { out = taken-unlike L c.event start (as_start (len mode) name) _ refl (number_of e) (rw w at j) (some e) r.inside; inside = r.inside } }

  module _ (ok : (e : Refusal) → b ≡ Err e → ⊥) where
    like_is : judged L c.event start ≡ 0
    like_is = sym j ∙ none-refused b ok

    within : c.event < events_in L
    within = judged-in L c.event start like_is

    left_is : suc (length (events_at L (c.event + 1))) ≡ events_in L - c.event
    left_is = let i = within in omega (arith, events-count L (c.event + 1))

    abbrev behind : ℕ → List ℕ → List Bare → Out
    behind ty w K = allowed (held_of t mode.party ty) (suc (length (events_at L (c.event + 1)))) (sealed (len mode) q w (inside· t mode d ty K (texts_at X c.used)))

    element-is : element· t mode d name y (events_at L c.event) (texts_at X c.used) ≡ casts (codes y) y (events_at L (c.event + 1)) behind
    unfolding element· element_out
    element-is = taken-like L c.event start (as_start (len mode) name) _ refl like_is

    pub element-word : 4 * c.event + 2 < length L
    element-word = let i = within in omega arith

    pub element-uncast : (k : Cast) (M : List ℕ) → Casts t L X y (past c) N k M → (e : Fault ℕ) → k ≡ Err e → Walks L X (element· t mode d name y) c N (Err e) M
    element-uncast k M g e w = let s : codes_p.Stopped L y (past c) (number_of e.why) e.at = rw w at g.is in record { is = record { out = element-is ∙ s.out behind; inside = s.inside } }

    module _ (ty : ℕ) (f : Spot) (M : List ℕ) (g : codes_p.Went t L X y (past c) N ty f M) where
      abbrev after : Out
      after = sealed (len mode) q (between X M (past c) f) (inside· t mode d ty (events_at L f.event) (texts_at X f.used))

      typed : element· t mode d name y (events_at L c.event) (texts_at X c.used) ≡ allowed (held_of t mode.party ty) (suc (length (events_at L (c.event + 1)))) after
      typed = element-is ∙ g.out behind ∙ rw g.texts

      module _ (h : Bool) (e : h ≡ held_of t mode.party ty) where
        pub element-unheld : h ≡ false → Walks L X (element· t mode d name y) c N (Err record { why = refusal.NotHeld; at = c.event }) M
        unfolding allowed
        element-unheld f = record { is = record { out = typed ∙ rw (← e, f, left_is); inside = r.inside } }

        module _ (v : h ≡ true) (s : Judgement) (K : List ℕ) (i : Walks L X (inside· t mode d ty) f M s K) where
          held-is : element· t mode d name y (events_at L c.event) (texts_at X c.used) ≡ after
          unfolding allowed
          held-is = typed ∙ rw (← e, v)

          pub element-stop : (x : Fault ℕ) → s ≡ Err x → Walks L X (element· t mode d name y) c N s K
          unfolding sealed
          element-stop x w = let k = stopped i x w in rw w (record { is = record { out = held-is ∙ rw k.out; inside = k.inside } })

          module _ (o : Spot) (m : s ≡ Ok o) where
            pub element-sealing : Sealing L X K c o
            element-sealing = sealing L X c N t y ty f M g s K i o m

            pub element-kept : Ready L X K c
            element-kept = let h = (went i o m).ready in record { sized = h.sized; few = r.few; inside = r.inside; used = r.used; short = r.short; small = r.small }

            pub element-go : (u : Judgement) (P : List ℕ)
                → Walked L X (sealed (len mode) q [] (wrote (between X K (past c) o) (events_at L o.event) (texts_at X o.used))) c K u P → Walks L X (element· t mode d name y) c N u P
            unfolding sealed
            element-go u P x =
                let k = went i o m in
                let whole = coded-along L X c N t y ty f M g s K i o m in
                let same : after ≡ sealed (len mode) q [] (wrote (between X K (past c) o) (events_at L o.event) (texts_at X o.used)) = rw (k.out, whole) in
                walked_as u (held-is ∙ same) (earlier u x)
              where
                earlier : (u : Judgement) → Walked L X (sealed (len mode) q [] (wrote (between X K (past c) o) (events_at L o.event) (texts_at X o.used))) c K u P
                    → Walked L X (sealed (len mode) q [] (wrote (between X K (past c) o) (events_at L o.event) (texts_at X o.used))) c N u P
                earlier (Ok f) x =
                    let a = x.is in
                    let n = g.onward in
                    record { is = record { out = a.out; counts = a.counts; onward = a.onward; ready = a.ready; before = λ j h. a.before j h ∙ (went i o m).before j (omega arith) ∙ g.before j (omega arith) } }
                earlier (Err e) x = record { is = x.is }

-- inside an element: what stands before its rows, and then its content row, where it has one
module _ (L X : List ℕ) (c : Spot) (N : List ℕ) (t : List ℕ) (mode : Mode) (d ty : ℕ) where
  abbrev rows_out : Content → List Bare → List ℕ → Out
  rows_out Content.empty A U = wrote [] A U
  rows_out (Content.simple k x y) A U = wrote [] A U
  rows_out (Content.particles i) A U = particle· t mode d i A U

  content-is : (o : Content) (A : List Bare) (U : List ℕ) → steps.content_out (len mode) (held_of t mode.party) (tab t mode) d o A U ≡ along (own· o A U) (λ B W. rows_out o B W)
  unfolding own· particle· along put alone
  content-is Content.empty A U = steps-laws.content-empty (len mode) (held_of t mode.party) (tab t mode) A U d
  content-is (Content.simple k x y) A U =
      steps-laws.content-simple (len mode) (held_of t mode.party) (tab t mode) A U d k x y
      ∙ steps-laws.value-is (len mode) (held_of t mode.party) (tab t mode) A U k x y
      ∙ sym (along-done (steps.item_then (valued k x y) A U (λ v N U. wrote [] N U)))
  content-is (Content.particles i) A U = steps-laws.content-particles (len mode) (held_of t mode.party) (tab t mode) A U d i ∙ sym (put-none (steps.particle_out (len mode) (held_of t mode.party) (tab t mode) d ((table_of t).row i) A U))

  inside-as : inside· t mode d ty (events_at L c.event) (texts_at X c.used) ≡ along (values· t ty (events_at L c.event) (texts_at X c.used)) (λ A U. rows_out ((table_of t).content ty) A U)
  unfolding inside· values·
  inside-as =
      steps-laws.inside_is (len mode) (held_of t mode.party) (tab t mode) (events_at L c.event) (texts_at X c.used) d ty
      ∙ (λ j. along (attributes-are (len mode) (held_of t mode.party) (tab t mode) ((table_of t).attributes ty) (events_at L c.event) (texts_at X c.used) j) (λ A U. content-is ((table_of t).content ty) A U j))
      ∙ sym (along-along (attributes· ((table_of t).attributes ty) (events_at L c.event) (texts_at X c.used)) (λ A U. own· ((table_of t).content ty) A U) (λ A U. rows_out ((table_of t).content ty) A U))

  module _ (r : Judgement) (M : List ℕ) (h : Walks L X (values· t ty) c N r M) where
    pub inside-stop : (x : Fault ℕ) → r ≡ Err x → Walks L X (inside· t mode d ty) c N r M
    inside-stop x w = walked_as r inside-as (along-stop L X _ _ c N r M h x w)

    module _ (f : Spot) (w : r ≡ Ok f) (o : content_t.Content) (e : content_is o ≡ (table_of t).content ty) where
      inside-go : (u : Judgement) (K : List ℕ) → Walks L X (rows_out (content_is o)) f M u K → Walks L X (inside· t mode d ty) c N u K
      inside-go u K y = walked_as u inside-as (along-go L X _ (λ A U. rows_out ((table_of t).content ty) A U) c N r M h f w u K (rw (← e) y))

      pub inside-rows : (i : ℕ) → o ≡ ov.Particles i → (u : Judgement) (K : List ℕ) → Walks L X (particle· t mode d i) f M u K → Walks L X (inside· t mode d ty) c N u K
      inside-rows i z u K y = inside-go u K (rw z y)

      pub inside-none : ((i : ℕ) → o ≡ ov.Particles i → ⊥) → Walks L X (inside· t mode d ty) c N (Ok f) M
      inside-none z = inside-go (Ok f) M (go o z)
        where
          on : Ready L X M f
          on = ready_on L X _ c N r M h f w

          go : (o : content_t.Content) → ((i : ℕ) → o ≡ ov.Particles i → ⊥) → Walks L X (rows_out (content_is o)) f M (Ok f) M
          go ov.Empty z = stays L X f M on
          go (ov.Simple k x y) z = stays L X f M on
          go (ov.Particles i) z = absurd (z i refl)

pub content-row : (t : List ℕ) (mode : Mode) (ty : ℕ) → RightFor t mode → ty < types_in t → (o : content_t.Content) → content_is o ≡ (table_of t).content ty → (i : ℕ) → o ≡ ov.Particles i → i < particles_in t
content-row t mode ty r h o e i w = let k : ContentOk (particles_in t) (content_is o) = rw e (content-ok t r.is ty h) in rw w at k

-- the row that was read is within the table
module _ (t : List ℕ) (mode : Mode) (i : ℕ) (p : particle_t.Particle) (e : row_is p ≡ (table_of t).row i) (r : RightFor t mode) (h : i < particles_in t) where
  row_fine : RowOk (types_in t) (particles_in t) i (row_is p)
  row_fine = rw e (row_ok t r.is i h)

  pub row_type : (name ty row : ℕ) → p ≡ pv.Element name ty row → ty < types_in t
  row_type name ty row w = (rw w at row_fine).type_known

  pub row_known : (name ty row : ℕ) → p ≡ pv.Element name ty row → row < particles_in t
  row_known name ty row w = (rw w at row_fine).row_known

  pub row-sequence : (first count : ℕ) → p ≡ pv.Sequence first count → Within t first 1 count
  row-sequence first count w = let g : GroupOk (particles_in t) i 1 first count = rw w at row_fine in let k = g.within in record { each = λ j m. omega arith; short = omega arith }

  row-choice : (first count : ℕ) → p ≡ pv.Choice first count → first + count ≤ particles_in t
  row-choice first count w = let g : GroupOk (particles_in t) i 2 first count = rw w at row_fine in g.within

  row-child : (child least most : ℕ) → p ≡ pv.Occurs child least most → child < particles_in t
  row-child child least most w = let g : OccursOk (particles_in t) i child least most = rw w at row_fine in g.within

-- a row of the table that was given: one that is no element is not the root's
abbrev Elements : particle_t.Particle → Type 0
Elements (pv.Element x y z) = Unit {0}
Elements (pv.Sequence x y) = ⊥
Elements (pv.Choice x y) = ⊥
Elements (pv.Occurs x y z) = ⊥

given-row : (t : List ℕ) (name ty i : ℕ) (p : particle_t.Particle) → Given t name ty i p → (Elements p → ⊥) → i ≡ no_row → ⊥
given-row t name ty i p g n e = n (subst (λ (x : particle_t.Particle). Elements x) (sym (g.root e)) tt)

-- one_row
module _ (L X : List ℕ) (c : Spot) (N : List ℕ) (t : List ℕ) (mode : Mode) (d name ty i : ℕ) where
  pub one-row-deep : d ≡ 0 → Ready L X N c → (f : Fault ℕ) → f ≡ deep_at L c.event → Walks L X (row· t mode d name ty i) c N (Err f) N
  unfolding row·
  one-row-deep z r f e = rw z (deep-walked L X c N r f e)

  module _ (z : d ≡ 0 → ⊥) (p : particle_t.Particle) (g : Given t name ty i p) where
    here : suc (d - 1) ≡ d
    here = omega arith

    row_is_lem : (i ≡ no_row → ⊥) → row· t mode d name ty i (events_at L c.event) (texts_at X c.used) ≡ particle· t mode (suc (d - 1)) i (events_at L c.event) (texts_at X c.used)
    unfolding row·
    row_is_lem n = ap (λ (x : ℕ). row· t mode x name ty i (events_at L c.event) (texts_at X c.used)) (sym here) ∙ rw (ne_eqb i no_row n)

    root_is : i ≡ no_row → row· t mode d name ty i (events_at L c.event) (texts_at X c.used) ≡ element· t mode (d - 1) name (types_by t (row_choices mode.choices no_row) ty no_row) (events_at L c.event) (texts_at X c.used)
    unfolding row·
    root_is e = ap (λ (x : ℕ). row· t mode x name ty i (events_at L c.event) (texts_at X c.used)) (sym here) ∙ rw (eq-eqb i no_row e)

    one-row-as : (i ≡ no_row → ⊥) → (x : Row) → row_is p ≡ x → row· t mode d name ty i (events_at L c.event) (texts_at X c.used) ≡ steps.particle_out (len mode) (held_of t mode.party) (tab t mode) (suc (d - 1)) x (events_at L c.event) (texts_at X c.used)
    unfolding particle·
    one-row-as n x f = row_is_lem n ∙ rw (← g.row n, f)

    module _ (s : Judgement) (M : List ℕ) where
      pub one-row-element : RightFor t mode → Known t ty i → (x y row : ℕ) → p ≡ pv.Element x y row
          → Walks L X (element· t mode (d - 1) x (types_by t (row_choices mode.choices row) y row)) c N s M → Walks L X (row· t mode d name ty i) c N s M
      unfolding element· inside·
      one-row-element r k x y row w h = elim (ℕ_discrete i no_row) [
        | yes e ↦
            let a : pv.Element x y row ≡ pv.Element name ty no_row = sym w ∙ g.root e in
            let b : x ≡ name = cc in
            let f : y ≡ ty = cc in
            let o : row ≡ no_row = cc in
            walked_as s (root_is e) (rw (b, f, o) at h)
        | no n ↦
            let m = row_known t mode i p (g.row n) r (k.row n) x y row w in
            let few = (counts-ok t r.is).particles_few in
            let own : row ≡ no_row → ⊥ = λ e. absurd (omega arith) in
            let b : row_choices mode.choices row ≡ mode.choices = rw (ne_eqb row no_row own) in
            walked_as s (one-row-as n (Row.element x y row) (rw w) ∙ steps-laws.particle-element (len mode) (held_of t mode.party) (tab t mode) (events_at L c.event) (texts_at X c.used) (d - 1) x y row)
            (rw (b, types-by t mode.choices r.is r.choosing y row m) at h)
      ]

      pub one-row-sequence : (first count : ℕ) → p ≡ pv.Sequence first count → Walks L X (rounds· t mode (d - 1) first 1 count) c N s M → Walks L X (row· t mode d name ty i) c N s M
      unfolding rounds·
      one-row-sequence first count w h =
          let one : (a : ℕ) → first + a ≡ first + 1 * a = λ a. omega arith in
          let n = given-row t name ty i p g (λ y. rw w at y) in
          walked_as s (one-row-as n (Row.sequence first count) (rw w) ∙ steps-laws.particle-sequence (len mode) (held_of t mode.party) (tab t mode) (events_at L c.event) (texts_at X c.used) (d - 1) first count
          ∙ (λ j. steps.rounds_out (len mode) (held_of t mode.party) (tab t mode) (d - 1) count (λ a. (table_of t).row (one a j)) (events_at L c.event) (texts_at X c.used))) h

      pub one-row-choice : (first count : ℕ) → p ≡ pv.Choice first count → Walks L X (choose· t mode (d - 1) first count) c N s M → Walks L X (row· t mode d name ty i) c N s M
      unfolding choose· particle·
      one-row-choice first count w h =
          let n = given-row t name ty i p g (λ y. rw w at y) in
          walked_as s (one-row-as n (Row.choice first count) (rw w) ∙ steps-laws.particle-choice (len mode) (held_of t mode.party) (tab t mode) (events_at L c.event) (texts_at X c.used) (d - 1) first count) h

      pub one-row-occurs : (child least most : ℕ) → p ≡ pv.Occurs child least most → Walks L X (occur· t mode (d - 1) child least most) c N s M → Walks L X (row· t mode d name ty i) c N s M
      unfolding occur· rounds·
      one-row-occurs child least most w h =
          let none : (a : ℕ) → child ≡ child + 0 * a = λ a. omega arith in
          let n = given-row t name ty i p g (λ y. rw w at y) in
          walked_as s (one-row-as n (Row.occurs child least most) (rw w) ∙ steps-laws.particle-occurs (len mode) (held_of t mode.party) (tab t mode) (events_at L c.event) (texts_at X c.used) (d - 1) child least most
          ∙ (λ j. steps.item_then (counted least most) (events_at L c.event) (texts_at X c.used) (λ v A U. steps.rounds_out (len mode) (held_of t mode.party) (tab t mode) (d - 1) v (λ a. (table_of t).row (none a j)) A U))) h

-- what the rows of a given row are
module _ (t : List ℕ) (mode : Mode) (name ty i : ℕ) (p : particle_t.Particle) (g : Given t name ty i p) (r : RightFor t mode) (k : Known t ty i) where
  pub given-type : (x y row : ℕ) → p ≡ pv.Element x y row → y < types_in t
  given-type x y row w = elim (ℕ_discrete i no_row) [
    | yes e ↦
        let a : pv.Element x y row ≡ pv.Element name ty no_row = sym w ∙ g.root e in
        let f : y ≡ ty = cc in
        rw f (k.root e)
    | no n ↦ row_type t mode i p (g.row n) r (k.row n) x y row w
  ]

  pub given-owned : (x y row : ℕ) → p ≡ pv.Element x y row → Owned t row
  given-owned x y row w own = elim (ℕ_discrete i no_row) [
    | yes e ↦
        let a : pv.Element x y row ≡ pv.Element name ty no_row = sym w ∙ g.root e in
        let f : row ≡ no_row = cc in
        absurd (own f)
    | no n ↦ row_known t mode i p (g.row n) r (k.row n) x y row w
  ]

  pub given-sequence : (first count : ℕ) → p ≡ pv.Sequence first count → Within t first 1 count
  given-sequence first count w = let n = given-row t name ty i p g (λ y. rw w at y) in row-sequence t mode i p (g.row n) r (k.row n) first count w

  pub given-choice : (first count : ℕ) → p ≡ pv.Choice first count → first + count ≤ particles_in t
  given-choice first count w = let n = given-row t name ty i p g (λ y. rw w at y) in row-choice t mode i p (g.row n) r (k.row n) first count w

  pub given-child : (child least most : ℕ) → p ≡ pv.Occurs child least most → child < particles_in t
  given-child child least most w = let n = given-row t name ty i p g (λ y. rw w at y) in row-child t mode i p (g.row n) r (k.row n) child least most w

pub ruleset one-row-ways = (one-row-deep, row_inside)

-- choose and occur: the event's word, then the rest
pub picked-below : (L X : List ℕ) (c : Spot) (N : List ℕ) (n v : ℕ) → v ≡ get_or L (4 * c.event + 1) 0 → (r : Judgement) (M : List ℕ) → Walks L X (alone (picked n)) c N r M → (e : Spot) → r ≡ Ok e → v < n
unfolding noted word_of
picked-below L X c N n v z r M h e w =
    let E = event_at L c.event in
    let T = texts_at X c.used in
    let says : Says (λ w A U. v < n) (noted (as_item (picked n) E) (item_out (picked n) (word_of (picked n) E) T) (events_at L c.event)) =
    taken-says (λ e. as_item (picked n) E) (events_at L c.event) _ (λ f A m g. coded-says (item_out (picked n) (word_of (picked n) E) T) (suc (length A)) _ (item-written (picked n) E T) (item-out-named (picked n) (word_of (picked n) E) T) (λ a p. gives (rw z (picked_value n p.is)))) in
    says.says _ _ _ (sym (alone-noted L c.event (picked n) T) ∙ (went h e w).out)

-- rounds by the table's steps: none, one, one more
module _ (t : List ℕ) (mode : Mode) (d : ℕ) where
  pub rounds-none : (i step : ℕ) (M : List Bare) (X : List ℕ) → rounds· t mode d i step 0 M X ≡ wrote [] M X
  unfolding rounds·
  rounds-none i step M X = steps-laws.rounds-none (len mode) (held_of t mode.party) (tab t mode) M X d (λ a. (table_of t).row (i + step * a))

  rounds-more : (i step n : ℕ) (M : List Bare) (X : List ℕ) → rounds· t mode d i step (suc n) M X ≡ along (particle· t mode d i M X) (λ A U. rounds· t mode d (i + step) step n A U)
  unfolding rounds· particle·
  rounds-more i step n M X =
      let none : i + step * 0 ≡ i = omega arith in
      let on : (a : ℕ) → i + step * suc a ≡ i + step + step * a = λ a. omega arith in
      steps-laws.rounds-more (len mode) (held_of t mode.party) (tab t mode) M X d n (λ a. (table_of t).row (i + step * a))
      ∙ (λ x. along (steps.particle_out (len mode) (held_of t mode.party) (tab t mode) d ((table_of t).row (none x)) M X) (λ A U. steps.rounds_out (len mode) (held_of t mode.party) (tab t mode) d n (λ a. (table_of t).row (on a x)) A U))

  rounds-one : (i : ℕ) (M : List Bare) (X : List ℕ) → rounds· t mode d i 0 1 M X ≡ particle· t mode d i M X
  rounds-one i M X = rounds-more i 0 0 M X ∙ (λ j. along (particle· t mode d i M X) (λ A U. rounds-none (i + 0) 0 A U j)) ∙ along-done (particle· t mode d i M X)

module _ (L X : List ℕ) (c : Spot) (N : List ℕ) (t : List ℕ) (mode : Mode) (d : ℕ) (ready : Ready L X N c) (r : Judgement) (M : List ℕ) where
  abbrev word : ℕ
  word = get_or L (4 * c.event + 1) 0

  module _ (first count : ℕ) (h : Walks L X (alone (picked count)) c N r M) where
    pub choose-stop : (x : Fault ℕ) → r ≡ Err x → Walks L X (choose· t mode d first count) c N r M
    unfolding choose·
    choose-stop x w = item-stop L X c N r M (picked count) (λ v A U. particle· t mode d (first + v) A U) h x w

    module _ (e : Spot) (w : r ≡ Ok e) where
      pub choose-go : (s : Judgement) (K : List ℕ) → Walks L X (rounds· t mode d (first + word) 0 1) e M s K → Walks L X (choose· t mode d first count) c N s K
      unfolding choose· word_of
      choose-go s K y =
          item-go L X c N r M (picked count) (λ v A U. particle· t mode d (first + v) A U) h word refl e w s K
          (walked_as s (sym (rounds-one t mode d (first + word) (events_at L e.event) (texts_at X e.used))) y)

  module _ (child least most : ℕ) (h : Walks L X (alone (counted least most)) c N r M) where
    pub occur-stop : (x : Fault ℕ) → r ≡ Err x → Walks L X (occur· t mode d child least most) c N r M
    unfolding occur·
    occur-stop x w = item-stop L X c N r M (counted least most) (λ v A U. rounds· t mode d child 0 v A U) h x w

    module _ (e : Spot) (w : r ≡ Ok e) where
      pub occur-go : (s : Judgement) (K : List ℕ) → Walks L X (rounds· t mode d child 0 word) e M s K → Walks L X (occur· t mode d child least most) c N s K
      unfolding occur· word_of
      occur-go s K y = item-go L X c N r M (counted least most) (λ v A U. rounds· t mode d child 0 v A U) h word refl e w s K y

pub occur-within : (t : List ℕ) (child n : ℕ) → child < particles_in t → Within t child 0 n
occur-within t child n h = record { each = λ j m. omega arith; short = omega arith }

-- content and rows_in: no row of the table is the root's
module _ (t : List ℕ) (mode : Mode) (right : RightFor t mode) where
  pub row_plain : (d name ty i : ℕ) → i < particles_in t → (M : List Bare) (X : List ℕ) → row· t mode d name ty i M X ≡ particle· t mode d i M X
  unfolding row· particle·
  row_plain zero name ty i h M X = sym (steps-laws.particle-deep (len mode) (held_of t mode.party) (tab t mode) M X ((table_of t).row i))
  row_plain (suc d) name ty i h M X = let few = (counts-ok t right.is).particles_few in let n : i ≡ no_row → ⊥ = λ e. absurd (omega arith) in rw (ne_eqb i no_row n)

  pub list-is : (d name ty step n i : ℕ) → Within t i step n → (M : List Bare) (X : List ℕ) → list· t mode d name ty i step n M X ≡ rounds· t mode d i step n M X
  unfolding list·
  list-is d name ty step zero i w M X = sym (rounds-none t mode d i step M X)
  list-is d name ty step (suc n) i w M X =
      let first = w.each 0 (omega arith) in
      let on : Within t (i + step) step n = record { each = λ j h. let a = w.each (suc j) (omega arith) in let b : i + step * suc j ≡ i + step + step * j = omega arith in rw b at a; short = w.short } in
      (λ x. along (row_plain d name ty i (omega arith) M X x) (λ A U. list-is d name ty step n (i + step) on A U x)) ∙ sym (rounds-more t mode d i step n M X)

  pub known-row : (ty i : ℕ) → i < particles_in t → Known t ty i
  known-row ty i h = let few = (counts-ok t right.is).particles_few in record { root = λ e. absurd (omega arith); row = λ n. h }

  pub rows-known : (first step n : ℕ) → Within t first step n → Rounds t 0 first step n
  rows-known first step n w =
      let few = (counts-ok t right.is).particles_few in
      let s = w.short in
      record { each = λ j h. known-row 0 (first + step * j) (w.each j h); next = λ j h. let a = w.each j h in omega arith }

  pub content-known : (i : ℕ) → i < particles_in t → Rounds t 0 i 0 1
  content-known i h = rows-known i 0 1 (occur-within t i 1 h)

  module _ (L X : List ℕ) (c : Spot) (N : List ℕ) (s : Judgement) (M : List ℕ) (d : ℕ) where
    pub rows_walked : (first step n : ℕ) → Within t first step n → Walks L X (list· t mode d 0 0 first step n) c N s M → Walks L X (rounds· t mode d first step n) c N s M
    rows_walked first step n w h = walked_as s (sym (list-is d 0 0 step n first w (events_at L c.event) (texts_at X c.used))) h

    pub content-walked : (i : ℕ) → i < particles_in t → Walks L X (list· t mode d 0 0 i 0 1) c N s M → Walks L X (particle· t mode d i) c N s M
    content-walked i k h = walked_as s (sym (rounds-one t mode d i (events_at L c.event) (texts_at X c.used))) (rows_walked i 0 1 (occur-within t i 1 k) h)

pub ruleset content-ways = (content-known, content-walked)

pub ruleset rows-ways = (rows-known, rows_walked)

-- particle: what is left
module _ (L X : List ℕ) (t : List ℕ) (mode : Mode) (d name ty n step : ℕ) where
  abbrev pub left_r : ℕ → ℕ → Spot → Out
  left_r j i c = list· t mode d name ty i step (n - j) (events_at L c.event) (texts_at X c.used)

  pub particle-start : (first : ℕ) (c : Spot) (N : List ℕ) → Leads L X (list· t mode d name ty first step n (events_at L c.event) (texts_at X c.used)) c N (left_r 0 first c) c N
  particle-start first c N = leads-start L X _ _ c N (let a : n - 0 ≡ n = omega arith in rw a)

  particle-over : (j i : ℕ) (c : Spot) → n ≤ j → left_r j i c ≡ wrote [] (events_at L c.event) (texts_at X c.used)
  unfolding list·
  particle-over j i c h = let m : n - j ≡ 0 = omega arith in rw m

  particle-next : (j i : ℕ) (c : Spot) → j < n → left_r j i c ≡ along (row· t mode d name ty i (events_at L c.event) (texts_at X c.used)) (λ A U. list· t mode d name ty (i + step) step (n - (j + 1)) A U)
  unfolding list·
  particle-next j i c h = let m : n - j ≡ suc (n - (j + 1)) = omega arith in rw m

  module _ (o₀ : Out) (c₀ : Spot) (N₀ : List ℕ) (j i : ℕ) (c : Spot) (N : List ℕ) (l : Leads L X o₀ c₀ N₀ (left_r j i c) c N) where
    pub particle-end : n ≤ j → Ready L X N c → Walked L X o₀ c₀ N₀ (Ok c) N
    particle-end h r = leads-end L X o₀ c₀ N₀ (left_r j i c) c N l (particle-over j i c h) r

    module _ (h : j < n) (r : Judgement) (M : List ℕ) (g : Walks L X (row· t mode d name ty i) c N r M) where
      pub particle-stop : (x : Fault ℕ) → r ≡ Err x → Walked L X o₀ c₀ N₀ r M
      particle-stop x w = leads-stop L X o₀ c₀ N₀ (left_r j i c) c N l _ _ (particle-next j i c h) r M g x w

      pub particle-again : (e : Spot) → r ≡ Ok e → Leads L X o₀ c₀ N₀ (left_r (j + 1) (i + step) e) e M
      particle-again e w = leads-go L X o₀ c₀ N₀ (left_r j i c) c N l _ _ (particle-next j i c h) r M g e w _ refl

module _ (t : List ℕ) (ty first step n : ℕ) (w : Rounds t ty first step n) (j i : ℕ) (e : i ≡ first + step * j) where
  pub particle-row : j < n → Known t ty i
  particle-row h = rw e (w.each j h)

  pub particle-fits : j < n → FitsIn w32 (i + step)
  particle-fits h = let g = w.next j h in record { fits = omega arith }

  pub particle-place : i + step ≡ first + step * (j + 1)
  particle-place = omega arith

pub ruleset particle-ways = (particle-start, particle-end, particle-stop, particle-again, particle-row, particle-fits, particle-place, ready_on)
