-- Each way to what a row comes to, and on from there.
use Prim.Native.Nat.{ℕ, ◌+◌, ◌-◌, ◌*◌, ◌<◌, ◌≤◌}
use mathlib.Core.Path.{◌≡◌, refl, sym, ap, ◌∙◌}
use mathlib.Core.List.{List}
use native.Mathlib.Omega.{arith}
use lib.ListN.{length, get_or}
use mir.Val.{Fits as FitsIn}
use mir.Syntax.{w32}
use Rattle.table.specs.First.Verdict.{right}
use Rattle.table.specs.Valid.{verdict}
use Rattle.table.specs.Words.{types_in, particles_in}
use Rattle.table.specs.Rows.{table_of}
use Rattle.table.specs.Views.{row_is}
use Rattle.table.specs.Inside.{ParticleInside}
use Rattle.table.proofs.Laws.{counts-ok}
use Rattle.table.proofs.RowsInside.{particle-inside}
use Rattle.table.specs.declared.answers.Particle as particle_t
use Rattle.table.specs.declared.answers.Particle.TheVariants as pv
use Rattle.model.specs.Model.Item.{picked, counted}
use Rattle.model.specs.Modes.{types_by, no_row, row_choices}
use Rattle.model.specs.declared.Mode.{Mode}
use Rattle.model.specs.Write.{Bare, Out}
use Rattle.model.proofs.OutLaws.{along-done}
use Rattle.writer_parts.specs.declared.Spot.{Spot}
use Rattle.numbers.specs.declared.refusal.Fault.{Fault}
use Rattle.std.specs.Prelude.{Result, Ok, Err}
use Rattle.writer_parts.specs.Walk.{Judgement, events_at, texts_at, Ready, Walks, alone}
use Rattle.writer_parts.proofs.WalkLaws.{walked_as, stays}
use Rattle.writer_parts.proofs.AttributeWays.{ready_on, item-here}
use Rattle.writer.specs.Meaning.{Owned, Known, Given, RightFor, Within, particle·, element·, rounds·, row·, list·}
use Rattle.writer.specs.Groups.{Fits, given·, target·, run·, Aimed, Narrows, Aims}
use Rattle.writer.specs.declared.groups.Aim as aim_t
use Rattle.writer.specs.declared.groups.Aim.TheVariants as aim
use Rattle.writer.specs.declared.groups.Run.{Run}
use Rattle.writer.specs.declared.groups.Target.{Target}
use Rattle.writer.proofs.CycleWays.{picked-below, row-table, row_type, row_known, one-row-element, one-row-sequence, one-row-choice, one-row-occurs, given-type, given-owned, given-sequence, given-choice, given-child, choose-stop, choose-go, occur-stop, occur-go, rounds-none, row_plain, list-is, known-row}

-- rows, case by case
module _ (t : List ℕ) (d : ℕ) (x : Run) (valid : verdict t ≡ right) (lies : Within t x.first x.step x.count) where
  pub narrow-rows : Narrows t d x (aim.Rows x)
  narrow-rows = record { is = λ mode r L X N ready. (lies, record { ready = ready; on = λ s K h. h }) }

  module _ (e : x.count ≡ 1) where
    first-in : x.first < particles_in t
    first-in = let a = lies.each 0 (omega (arith, e)) in omega (arith, a)

    pub first-inside : ParticleInside t x.first
    first-inside = particle-inside t valid x.first first-in

    -- one row of a run is a row of the table
    single : (mode : Mode) → RightFor t mode → (A : List Bare) (U : List ℕ) → run· t mode d x A U ≡ row· t mode d 0 0 x.first A U
    unfolding run· list·
    single mode r A U =
        let one : Within t x.first x.step 1 = rw e at lies in
        ap (λ (n : ℕ). rounds· t mode d x.first x.step n A U) e
        ∙ sym (list-is t mode r d 0 0 x.step 1 x.first one A U)
        ∙ along-done (row· t mode d 0 0 x.first A U)

    module _ (deep : 0 < d) (p : particle_t.Particle) (g : row_is p ≡ (table_of t).row x.first) (name ty row : ℕ) (f : p ≡ pv.Element name ty row) where
      pub narrow-element : Narrows t d x (aim.Element record { cursor = x.cursor; name = name; t = ty; row = row; depth = d - 1 })
      unfolding target·
      narrow-element = record {
        is = λ mode r L X N ready.
            let few = (counts-ok t valid).particles_few in
            let no-root : x.first ≡ no_row → ⊥ = λ z. absurd (omega (arith, few, first-in, z)) in
            let z : d ≡ 0 → ⊥ = λ z. absurd (omega (arith, z, deep)) in (
              row_type t mode x.first p g r first-in name ty row f,
              (λ n. row_known t mode x.first p g r first-in name ty row f),
              omega arith,
              record {
                ready = ready;
                on = λ s K h.
                    walked_as s (single mode r (events_at L x.cursor.event) (texts_at X x.cursor.used))
                    (one-row-element L X x.cursor N t mode d 0 0 x.first z p (row-table t 0 0 x.first no-root p g) s K r (known-row t mode r 0 x.first first-in) name ty row f h);
              },
            );
      }

pub ruleset narrow-ways = (narrow-rows, first-inside, narrow-element)

-- past the event of a branch or of a count
module _ (L X : List ℕ) (c : Spot) (N : List ℕ) (ready : Ready L X N c) (j : Judgement) (M : List ℕ) (e : Spot) (z : j ≡ Ok e) where
  pub counted-word : (least most : ℕ) → Walks L X (alone (counted least most)) c N j M → 4 * c.event + 1 < length L
  counted-word least most h = let i = item-here L X c N ready (counted least most) j M h e z in omega arith

  module _ (n : ℕ) (h : Walks L X (alone (picked n)) c N j M) where
    pub picked-word : 4 * c.event + 1 < length L
    picked-word = let i = item-here L X c N ready (picked n) j M h e z in omega arith

    module _ (t : List ℕ) (first : ℕ) (k : first + n ≤ particles_in t) where
      pub picked-row : Within t (first + get_or L (4 * c.event + 1) 0) 0 1
      picked-row = let b = picked-below L X c N n (get_or L (4 * c.event + 1) 0) refl j M h e z in record { each = λ i m. omega arith; short = omega arith }

      pub picked_fits : verdict t ≡ right → FitsIn w32 (first + get_or L (4 * c.event + 1) 0)
      picked_fits u = let b = picked-below L X c N n (get_or L (4 * c.event + 1) 0) refl j M h e z in let f = (counts-ok t u).particles_few in record { fits = omega arith }

pub choice-fits : (t : List ℕ) (row : particle_t.Particle) (first n : ℕ) → row ≡ pv.Choice first n → Fits t row → first + n ≤ particles_in t
choice-fits t row first n w fit = rw w at fit

pub child_fits : (t : List ℕ) (row : particle_t.Particle) (child least most : ℕ) → row ≡ pv.Occurs child least most → Fits t row → child < particles_in t
child_fits t row child least most w fit = rw w at fit

-- from what is left of a part to what is left of the whole
further : (t : List ℕ) (mode : Mode) (L X : List ℕ) (d : ℕ) (f g : List Bare → List ℕ → Out) (c : Spot) (N : List ℕ) (e : Spot) (M : List ℕ) → ((s : Judgement) (K : List ℕ) → Walks L X g e M s K → Walks L X f c N s K)
    → (a : aim_t.Aim) → Aimed t mode L X d g e M a M → Aimed t mode L X d f c N a M
further t mode L X d f g c N e M j (aim.Element x) (a, b, i, o) = (a, b, i, record { ready = o.ready; on = λ s K h. j s K (o.on s K h) })
further t mode L X d f g c N e M j (aim.Rows x) (a, o) = (a, record { ready = o.ready; on = λ s K h. j s K (o.on s K h) })

-- a row, case by case
module _ (t L X : List ℕ) (d : ℕ) (c : Spot) (N : List ℕ) (ready : Ready L X N c) (row : particle_t.Particle) where
  pub reach-element : (name ty own : ℕ) → row ≡ pv.Element name ty own → Fits t row → Aims t L X d row c N (Ok (aim.Element record { cursor = c; name = name; t = ty; row = own; depth = d })) N
  unfolding given· target·
  reach-element name ty own w fit =
      let k : Fits t (pv.Element name ty own) = rw w at fit in
      record { is = λ mode r. rw w (k.0, k.1, omega arith, record { ready = ready; on = λ s K h. h }) }

  pub reach-sequence : (first n : ℕ) → row ≡ pv.Sequence first n → Fits t row → Aims t L X d row c N (Ok (aim.Rows record { cursor = c; first = first; step = 1; count = n })) N
  unfolding given· run·
  reach-sequence first n w fit =
      let k : Fits t (pv.Sequence first n) = rw w at fit in
      record { is = λ mode r. rw w (k, record { ready = ready; on = λ s K h. h }) }

  abbrev word : ℕ
  word = get_or L (4 * c.event + 1) 0

  module _ (j : Judgement) (M : List ℕ) where
    module _ (first n : ℕ) (w : row ≡ pv.Choice first n) (h : Walks L X (alone (picked n)) c N j M) where
      pub reach-unpicked : (x : Fault ℕ) → j ≡ Err x → Aims t L X d row c N (Err x) M
      unfolding given·
      reach-unpicked x z = record { is = λ mode r. rw w (rw z at (choose-stop L X c N t mode d ready j M first n h x z)) }

      pub reach-picked : (e : Spot) → j ≡ Ok e → (a : aim_t.Aim) → Narrows t d (record { cursor = e; first = first + word; step = 0; count = 1 }) a → Aims t L X d row c N (Ok a) M
      unfolding given· run·
      reach-picked e z a k = record {
        is = λ mode r. rw w
            (further t mode L X d (given· t mode d (pv.Choice first n)) (run· t mode d (record { cursor = e; first = first + word; step = 0; count = 1 })) c N e M
            (λ s K i. choose-go L X c N t mode d ready j M first n h e z s K i) a (k.is mode r L X M (ready_on L X _ c N j M h e z)));
      }

    module _ (child least most : ℕ) (w : row ≡ pv.Occurs child least most) (h : Walks L X (alone (counted least most)) c N j M) where
      pub reach-uncounted : (x : Fault ℕ) → j ≡ Err x → Aims t L X d row c N (Err x) M
      unfolding given·
      reach-uncounted x z = record { is = λ mode r. rw w (rw z at (occur-stop L X c N t mode d ready j M child least most h x z)) }

      pub reach-counted : (e : Spot) → j ≡ Ok e → (a : aim_t.Aim) → Narrows t d (record { cursor = e; first = child; step = 0; count = word }) a → Aims t L X d row c N (Ok a) M
      unfolding given· run·
      reach-counted e z a k = record {
        is = λ mode r. rw w
            (further t mode L X d (given· t mode d (pv.Occurs child least most)) (run· t mode d (record { cursor = e; first = child; step = 0; count = word })) c N e M
            (λ s K i. occur-go L X c N t mode d ready j M child least most h e z s K i) a (k.is mode r L X M (ready_on L X _ c N j M h e z)));
      }

-- what a given row names
pub given-fits : (t : List ℕ) (mode : Mode) (name ty i : ℕ) → RightFor t mode → Known t ty i → (p : particle_t.Particle) → Given t name ty i p → Fits t p
given-fits t mode name ty i r k (pv.Element x y row) g = (given-type t mode name ty i _ g r k x y row refl, given-owned t mode name ty i _ g r k x y row refl)
given-fits t mode name ty i r k (pv.Sequence first n) g = given-sequence t mode name ty i _ g r k first n refl
given-fits t mode name ty i r k (pv.Choice first n) g = given-choice t mode name ty i _ g r k first n refl
given-fits t mode name ty i r k (pv.Occurs child least most) g = given-child t mode name ty i _ g r k child least most refl

-- a row of a number, by the row that was given
module _ (L X : List ℕ) (c : Spot) (N : List ℕ) (t : List ℕ) (mode : Mode) (d name ty i : ℕ) (z : d ≡ 0 → ⊥) (r : RightFor t mode) (k : Known t ty i) where
  given-walked : (p : particle_t.Particle) → Given t name ty i p → (s : Judgement) (M : List ℕ) → Walks L X (given· t mode (d - 1) p) c N s M → Walks L X (row· t mode d name ty i) c N s M
  unfolding given·
  given-walked (pv.Element x y row) g s M h = one-row-element L X c N t mode d name ty i z _ g s M r k x y row refl h
  given-walked (pv.Sequence first n) g s M h = one-row-sequence L X c N t mode d name ty i z _ g s M first n refl h
  given-walked (pv.Choice first n) g s M h = one-row-choice L X c N t mode d name ty i z _ g s M first n refl h
  given-walked (pv.Occurs child least most) g s M h = one-row-occurs L X c N t mode d name ty i z _ g s M child least most refl h

  module _ (p : particle_t.Particle) (g : Given t name ty i p) (a : Result aim_t.Aim (Fault ℕ)) (M : List ℕ) (h : Aims t L X (d - 1) p c N a M) where
    pub aim-refused : (x : Fault ℕ) → a ≡ Err x → Walks L X (row· t mode d name ty i) c N (Err x) M
    aim-refused x w = given-walked p g (Err x) M (rw w at (h.is mode r))

    module _ (x : Target) (w : a ≡ Ok (aim.Element x)) where
      aimed : Aimed t mode L X (d - 1) (given· t mode (d - 1) p) c N (aim.Element x) M
      aimed = rw w at (h.is mode r)

      pub target-type : x.t < types_in t
      target-type = aimed.0

      pub target-owned : Owned t x.row
      target-owned = aimed.1

      pub target-depth : x.depth ≤ d - 1
      target-depth = aimed.2

      pub target-ready : Ready L X M x.cursor
      target-ready = aimed.3.ready

      pub target-walked : (s : Judgement) (K : List ℕ) → Walks L X (element· t mode x.depth x.name (types_by t (row_choices mode.choices x.row) x.t x.row)) x.cursor M s K
          → Walks L X (row· t mode d name ty i) c N s K
      unfolding target·
      target-walked s K u = given-walked p g s K (aimed.3.on s K u)

    module _ (x : Run) (w : a ≡ Ok (aim.Rows x)) where
      run-aimed : Aimed t mode L X (d - 1) (given· t mode (d - 1) p) c N (aim.Rows x) M
      run-aimed = rw w at (h.is mode r)

      pub run-within : Within t x.first x.step x.count
      run-within = run-aimed.0

      pub run-ready : Ready L X M x.cursor
      run-ready = run-aimed.1.ready

      pub run-walked : (s : Judgement) (K : List ℕ) → Walks L X (rounds· t mode (d - 1) x.first x.step x.count) x.cursor M s K → Walks L X (row· t mode d name ty i) c N s K
      unfolding run·
      run-walked s K u = given-walked p g s K (run-aimed.1.on s K u)

      pub run_none : x.count ≡ 0 → Walks L X (row· t mode d name ty i) c N (Ok x.cursor) M
      run_none e =
          run-walked (Ok x.cursor) M
          (walked_as (Ok x.cursor) (rw e (rounds-none t mode (d - 1) x.first x.step (events_at L x.cursor.event) (texts_at X x.cursor.used))) (stays L X x.cursor M run-ready))

-- a content row that is a sequence
module _ (t : List ℕ) (mode : Mode) (i : ℕ) (r : RightFor t mode) (inside : i < particles_in t) (p : particle_t.Particle) (g : row_is p ≡ (table_of t).row i) (first n : ℕ) (w : p ≡ pv.Sequence first n) where
  no-root : i ≡ no_row → ⊥
  no-root z = let few = (counts-ok t r.is).particles_few in absurd (omega (arith, few, inside, z))

  pub opened-within : Within t first 1 n
  opened-within = given-sequence t mode 0 0 i p (row-table t 0 0 i no-root p g) r (known-row t mode r 0 i inside) first n w

  pub opened-walked : (L X : List ℕ) (c : Spot) (N : List ℕ) (d : ℕ) → 0 < d → (s : Judgement) (M : List ℕ) → Walks L X (list· t mode (d - 1) 0 0 first 1 n) c N s M → Walks L X (particle· t mode d i) c N s M
  opened-walked L X c N d deep s M h =
      let z : d ≡ 0 → ⊥ = λ z. absurd (omega (arith, z, deep)) in
      walked_as s (sym (row_plain t mode r d 0 0 i inside (events_at L c.event) (texts_at X c.used)))
      (one-row-sequence L X c N t mode d 0 0 i z p (row-table t 0 0 i no-root p g) s M first n w
      (walked_as s (sym (list-is t mode r (d - 1) 0 0 1 n first opened-within (events_at L c.event) (texts_at X c.used))) h))
