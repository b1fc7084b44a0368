-- Each way through an element behind its head: Start, a Blank, a refusal; and its codes before that.
use Prim.Native.Nat.{ℕ, ◌-◌, ◌<◌, ◌≤◌}
use mathlib.Core.Path.{◌≡◌, refl, sym, ap, ◌∙◌, subst}
use mathlib.Core.List.{List, [], ◌∷◌}
use mathlib.Core.Bool.{Bool, true, false, cond}
use native.Mathlib.Omega.{arith}
use mir.Val.{bool_byte}
use borrow.Author.Tests.{ltb-true, ltb-false, eq-eqb, ne_eqb}
use lib.Dec.{ltb, eqb}
use Rattle.numbers.specs.Refusal.{event_room}
use Rattle.numbers.specs.Kind as kinds
use Rattle.wire.specs.Res.{got, fault}
use Rattle.wire.specs.declared.Bits.{Bits}
use Rattle.table.specs.Rows.{held_of}
use Rattle.model.specs.Model.{Event, event, start, flag_of, Types, sends, codes, Mark, Nodes}
use Rattle.model.specs.Model.Nodes.{none, leaf}
use Rattle.model.specs.Model.Answer.{given, refused}
use Rattle.model.specs.Items.{codes_at}
use Rattle.model.specs.Modes.{types_by, Choosing, no_row, row_choices}
use Rattle.model.specs.Read.{Room, Into, after, code, stored, cast_at, entered, mark, bare, sized}
use Rattle.model.specs.declared.Choices.{Choices}
use Rattle.model.proofs.Join.{after_none, after-after}
use Rattle.model.proofs.ModeLaws.{types-only}
use Rattle.reader_parts.specs.declared.Cast.{Cast}
use Rattle.reader_parts.specs.declared.Cursor.{Cursor}
use Rattle.reader_parts.specs.declared.Inner.{Inner}
use Rattle.std.specs.Prelude.{Ok, Err}
use Rattle.numbers.specs.Refused.{number_of}
use Rattle.numbers.specs.declared.refusal.Refusal.{Refusal}
use Rattle.numbers.specs.declared.refusal.Refusal.TheVariants as refusal
use Rattle.numbers.specs.declared.refusal.Fault.{Fault}
use Rattle.reader_parts.specs.declared.Opened.{Opened}
use Rattle.reader_parts.specs.declared.Opened.TheVariants.{Refuse, Blank, Full, In}
use Rattle.reader_parts.specs.Out.{Step, room_of, step_view, outcome, ending, Stores}
use Rattle.reader_parts.specs.Codes.{Coded, coded_is, Sent, Says, Tells}
use Rattle.reader_parts.specs.Opening.{becomes, behind_head, rest_of, opened_view, from_codes, Placed, Below, Begins, Opens, OpensPlain}
use Rattle.reader_parts.proofs.CodeWays.{codes-none, codes-past}
use Rattle.reader_parts.proofs.EndsLaws.{entered-left}
use Rattle.reader_parts.proofs.StoreWays.{stored-full, stored-in}
use Rattle.reader_parts.proofs.Laws.{did-go, did-stop, after-go}

-- what an element of a row has to choose from
module _ (c : Choices) (row : ℕ) where
  pub choices-row : (row ≡ no_row → ⊥) → c ≡ row_choices c row
  choices-row e = rw (ne_eqb row no_row e) refl

  -- who looks for substitutes is of a row
  pub row-owned : (P : ℕ) → ((row ≡ no_row → ⊥) → row < P) → (row_choices c row).substitutes ≡ true → row < P
  row-owned P h e = h (λ z. let f = rw (eq-eqb row no_row z) at e in let y : ◌≡◌ {A = ℕ} 0 1 = cc in absurd (omega arith))

-- flag
pub flag_is : (coded : Bool) → bool_byte coded ≡ flag_of coded
unfolding flag_of
flag_is true = refl
flag_is false = refl

-- an event without text is refused for lack of room alone, at its place; else it goes on where it says
module _ (r : Room) (π : List ℕ) (at : ℕ) (e : Event) (q : ℕ) where
  stored-when : (u : Bool) → ltb 0 r.slots ≡ u → stored r π at e [] q ≡ cond u (given (leaf at e [] none) q) (refused event_room at π)
  stored-when false f = stored-full r π at e [] q (omega arith) (omega (arith, ltb-false 0 r.slots f))
  stored-when true f = stored-in r π at e [] q (omega arith) (ltb-true 0 r.slots f)

  no_slot : (n p : ℕ) (ρ : List ℕ) → stored r π at e [] q ≡ refused n p ρ → ltb 0 r.slots ≡ false
  no_slot n p ρ h = go (ltb 0 r.slots) refl
    where
      go : (u : Bool) → ltb 0 r.slots ≡ u → ltb 0 r.slots ≡ false
      go false f = f
      go true f = let k = sym (stored-when true f) ∙ h in let z : ◌≡◌ {A = ℕ} 0 1 = cc in absurd (omega arith)

  no_room_lem : (n p : ℕ) (ρ : List ℕ) → stored r π at e [] q ≡ refused n p ρ → stored r π at e [] q ≡ refused event_room at π
  no_room_lem n p ρ h = stored-when false (no_slot n p ρ h)

  stored-to : (ns : Nodes) (p : ℕ) → stored r π at e [] q ≡ given ns p → p ≡ q
  stored-to ns p h = go (ltb 0 r.slots) refl
    where
      go : (u : Bool) → ltb 0 r.slots ≡ u → p ≡ q
      go false f = let k = sym (stored-when false f) ∙ h in let z : ◌≡◌ {A = ℕ} 0 1 = cc in absurd (omega arith)
      go true f = let k = sym (stored-when true f) ∙ h in cc

-- begin
module _ (name t : ℕ) (coded : Bool) (body wall : Bits) (held : Bool) (c : Cursor) (E : List ℕ) where
  abbrev B : Opened → List ℕ → Type 0
  B r E' = Begins name coded body.0 wall.0 t held c E r E'

  abbrev m : ℕ → Mark
  m at = mark name t coded at body.0

  -- a held element, with a length or without
  held-is : held ≡ true → (sent : Bool) (f : Into) (k p : ℕ) (r : Room) (π : List ℕ) (at : ℕ)
      → becomes name coded body.0 wall.0 held sent f t k p r π at ≡ entered (ltb 0 r.slots) sent f (m at) k r π wall.0 body.0 p
  unfolding becomes bare sized
  held-is e sent f k p r π at = go coded
    where
      go : (u : Bool) → becomes name u body.0 wall.0 held sent f t k p r π at ≡ entered (ltb 0 r.slots) sent f (mark name t u at body.0) k r π wall.0 body.0 p
      go false = rw e
      go true = rw e

  -- Start
  module _ (e : held ≡ true) (flag : ℕ) (i : flag ≡ flag_of coded) (s : Step) (E' : List ℕ) (h : Stores kinds.start name flag body.0 c E s E') where
    start_is : (T π : List ℕ) → step_view s π E' T ≡ outcome (stored (room_of E T c) π c.at.0 (start (m c.at.0)) [] body.0) c π E T
    start_is T π = rw i at (h.says T π)

    pub begin-full : (n : Fault Bits) → s ≡ Err n → B (Refuse n) E'
    unfolding opened_view outcome entered
    begin-full n g =
        record {
          says = λ sent f k q T π.
              let stop = did-stop s π E' T _ c π E T (start_is T π) n g in
              let none_left = no_slot _ π _ _ _ _ _ π stop in
              ap (λ a. outcome a c π E T) (sym stop ∙ no_room_lem _ π _ _ _ _ _ π stop)
              ∙ sym (rw (held-is e sent f k q (room_of E T c) π c.at.0, none_left) refl);
          placed = tt;
        }

    pub begin-open : (d : Cursor) → s ≡ Ok d → B (In record { cursor = d; effective = t }) E'
    unfolding opened_view from_codes rest_of
    begin-open d g =
        record {
          says = λ sent f k p T π.
              after-go s π E' T _ c π E T (start_is T π) d g π (λ u ρ q. from_codes name coded body.0 wall.0 sent f k p t u π q)
              ∙ (λ j. outcome (after (room_of E T c) (stored (room_of E T c) π c.at.0 (start (m c.at.0)) [] body.0)
              (λ u q. sym (after-after u (cast_at sent t k u (name ∷ π) q p) (λ v a. f t v (name ∷ π) wall.0 a) (λ v a. ending coded body.0 wall.0 v (name ∷ π) a)) j)) c π E T)
              ∙ sym (ap (λ a. outcome a c π E T) (held-is e sent f k p (room_of E T c) π c.at.0) ∙ entered-left (m c.at.0) f (room_of E T c) π wall.0 body.0 c E T sent k p);
          placed = (refl, stored-to _ [] _ _ _ _ _ (did-go s [] E' [] _ c [] E [] (start_is [] []) d g).gave);
        }

  -- not held
  module _ (e : held ≡ false) where
    pub begin-nine : coded ≡ false → B (Refuse (record { why = refusal.NotHeld; at = c.at })) E
    unfolding opened_view outcome becomes bare
    begin-nine u = record { says = λ sent f k p T π. rw (u, e) refl; placed = tt }

    module _ (u : coded ≡ true) (s : Step) (E' : List ℕ) (h : Stores kinds.blank name t wall.0 c E s E') where
      blank-is : (sent : Bool) (f : Into) (k p : ℕ) (r : Room) (π : List ℕ) (at : ℕ)
          → becomes name coded body.0 wall.0 held sent f t k p r π at ≡ stored r π at (event kinds.blank name t (wall.0 - at)) [] wall.0
      unfolding becomes sized
      blank-is sent f k p r π at = rw (u, e) refl

      pub begin-no-blank : (n : Fault Bits) → s ≡ Err n → B (Refuse n) E'
      unfolding opened_view outcome
      begin-no-blank n g =
          record {
            says = λ sent f k q T π.
                sym (rw (blank-is sent f k q (room_of E T c) π c.at.0, did-stop s π E' T _ c π E T (h.says T π) n g) refl);
            placed = tt;
          }

      pub begin-blank : (d : Cursor) → s ≡ Ok d → B (Blank d) E'
      unfolding opened_view step_view
      begin-blank d g =
          record { says = λ sent f k p T π. rw (blank-is sent f k p (room_of E T c) π c.at.0) (rw g at (h.says T π)); placed = tt }

pub ruleset begin-ways = (begin-full, begin-open, begin-nine, begin-no-blank, begin-blank)

-- open_plain
module _ (name t : ℕ) (coded : Bool) (body wall : Bits) (held : Bool) (c : Cursor) (E : List ℕ) where
  pub plain-past : wall.0 < body.0 → OpensPlain name coded body.0 wall.0 t held c E (Refuse (record { why = refusal.PastEnd; at = body })) E
  unfolding opened_view outcome behind_head code
  plain-past h = record { says = λ b H e. record { says = λ f T π. rw (codes-past b wall.0 body.0 t h) refl; below = λ n k. tt } }

  pub plain_in : body.0 ≤ wall.0 → (r : Opened) (E' : List ℕ) → Begins name coded body.0 wall.0 t held c E r E' → OpensPlain name coded body.0 wall.0 t held c E r E'
  unfolding behind_head code codes sends opened_view from_codes cast_at
  plain_in h r E' g =
      record {
        says = λ b H e.
            record {
              says = λ f T π. nothing-told f T π r g.placed ∙ rw (codes-none b wall.0 body.0 t h) (rw e at (g.says false f 0 body.0 T π));
              below = λ n k. go n r g.placed (k.says (t, 0, body.0) (codes-none b wall.0 body.0 t h));
            };
      }
    where
      nothing-told : (f : Into) (T π : List ℕ) (o : Opened) → Placed name coded body.0 wall.0 t o
          → opened_view name coded body.0 wall.0 (rest_of name coded body.0 wall.0 f) o π E' T
          ≡ opened_view name coded body.0 wall.0 (from_codes name coded body.0 wall.0 false f 0 body.0) o π E' T
      nothing-told f T π (In x) p =
          (λ i. outcome (rest_of name coded body.0 wall.0 f x.effective (room_of E' T x.cursor) π (p.1 i)) x.cursor π E' T)
          ∙ sym (ap (λ a. outcome a x.cursor π E' T) (after_none (room_of E' T x.cursor) body.0 (λ u q. rest_of name coded body.0 wall.0 f x.effective u π q)))
      nothing-told f T π (Refuse e) p = refl
      nothing-told f T π (Blank d) p = refl
      nothing-told f T π (Full e) p = refl

      go : (n : ℕ) (o : Opened) → Placed name coded body.0 wall.0 t o → t < n → Below name coded body.0 wall.0 n o
      go n (In x) p k = rw p.0 k
      go n (Refuse e) p k = tt
      go n (Blank d) p k = tt
      go n (Full e) p k = tt

pub ruleset plain-ways = (plain-past, plain_in)

-- open_cast
module _ (l : List ℕ) (party : ℕ) (choices : Choices) (t row : ℕ) (b : ℕ → ℕ) (name : ℕ) (coded : Bool) (body wall : Bits) (c : Cursor) (E : List ℕ)
    (own : Choices) (w : own ≡ row_choices choices row) (k : Coded) (q : Says (types_by l own t row) b wall.0 body.0 k) where
  abbrev y : Types
  y = types_by l (row_choices choices row) t row

  abbrev O : Opened → List ℕ → Type 0
  O r E' = Opens name coded body.0 wall.0 y b (held_of l party) c E r E'

  say : Says y b wall.0 body.0 k
  say = rw (← w) q

  pub cast-wrong : (n : Refusal) → k ≡ Err n → O (Refuse (record { why = n; at = body })) E
  unfolding opened_view outcome behind_head code coded_is
  cast-wrong n e =
      let bad : codes_at y b wall.0 body.0 ≡ fault (number_of n) = sym say.says ∙ rw e in
      record { says = λ f T π. rw bad refl; below = λ m h. tt }

  module _ (x : Cast) (i : k ≡ Ok x) (held : Bool) (j : held ≡ held_of l party x.effective) (o : Opened) (E₁ : List ℕ)
      (h : Begins name coded body.0 wall.0 x.effective held c E o E₁) where
    coded-is : codes_at y b wall.0 body.0 ≡ got (x.effective, x.substitute, x.next.0)
    unfolding coded_is
    coded-is = sym say.says ∙ rw i

    sent_is : x.sent ≡ codes y
    sent_is = subst (λ (a : Coded). Sent y a) i say.sent

    -- with the codes' event still to be told
    begun : (f : Into) (T π : List ℕ) → opened_view name coded body.0 wall.0 (from_codes name coded body.0 wall.0 x.sent f x.substitute x.next.0) o π E₁ T
        ≡ outcome (behind_head name coded body.0 wall.0 y b (held_of l party) f (room_of E T c) π c.at.0) c π E T
    unfolding behind_head code
    begun f T π = rw (coded-is, ← j, ← sent_is) (h.says x.sent f x.substitute x.next.0 T π)

    -- it is not open
    pub cast-shut : ((z : Inner) → o ≡ In z → ⊥) → O o E₁
    unfolding opened_view
    cast-shut e = go o refl
      where
        go : (u : Opened) → o ≡ u → O u E₁
        go (In z) g = absurd (e z g)
        go (Refuse a) g = record { says = λ f T π. rw g at (begun f T π); below = λ m g. tt }
        go (Blank d) g = record { says = λ f T π. rw g at (begun f T π); below = λ m g. tt }
        go (Full a) g = record { says = λ f T π. rw g at (begun f T π); below = λ m g. tt }

    module _ (z : Inner) (p : o ≡ In z) (s : Step) (E₂ : List ℕ) (g : Tells x z.cursor E₁ s E₂) where
      type_is : z.effective ≡ x.effective
      type_is = (subst (λ (a : Opened). Placed name coded body.0 wall.0 x.effective a) p h.placed).0

      opened-is : (f : Into) (T π : List ℕ)
          → outcome (from_codes name coded body.0 wall.0 x.sent f x.substitute x.next.0 x.effective (room_of E₁ T z.cursor) π z.cursor.at.0) z.cursor π E₁ T
          ≡ outcome (behind_head name coded body.0 wall.0 y b (held_of l party) f (room_of E T c) π c.at.0) c π E T
      unfolding opened_view
      opened-is f T π = rw (p, type_is) at (begun f T π)

      pub cast-untold : (n : Fault Bits) → s ≡ Err n → O (Full n) E₂
      unfolding opened_view outcome from_codes after
      cast-untold n e =
          record {
            says = λ f T π.
                let full : cast_at x.sent x.effective x.substitute (room_of E₁ T z.cursor) (name ∷ π) z.cursor.at.0 x.next.0 ≡ refused (number_of n.why) n.at.0 (name ∷ π) =
                did-stop s (name ∷ π) E₂ T _ z.cursor (name ∷ π) E₁ T (g.says T (name ∷ π)) n e in
                rw full at (opened-is f T π);
            below = λ m a. tt;
          }

      pub cast-open : (d : Cursor) → s ≡ Ok d → O (In record { effective = x.effective; cursor = d }) E₂
      unfolding opened_view from_codes
      cast-open d e =
          record {
            says = λ f T π.
                after-go s (name ∷ π) E₂ T _ z.cursor (name ∷ π) E₁ T (g.says T (name ∷ π)) d e π (λ u ρ a. rest_of name coded body.0 wall.0 f x.effective u π a)
                ∙ opened-is f T π;
            below = λ m a. a.says (x.effective, x.substitute, x.next.0) coded-is;
          }

pub ruleset cast-ways = (cast-wrong, cast-shut, cast-untold, cast-open)

-- open: where there is nothing to choose from, the root or not
pub open-plainly : (l : List ℕ) (party : ℕ) (choices : Choices) (t row : ℕ) (b : ℕ → ℕ) (name : ℕ) (coded : Bool) (body wall : ℕ) (c : Cursor) (E : List ℕ) (held : Bool) (r : Opened) (E' : List ℕ)
    → choices.any ≡ false → Choosing l choices → held ≡ held_of l party t → OpensPlain name coded body wall t held c E r E'
    → Opens name coded body wall (types_by l (row_choices choices row) t row) b (held_of l party) c E r E'
open-plainly l party choices t row b name coded body wall c E held r E' e k h g =
    rw (types-only l (row_choices choices row) go.0 go.1 t row) (g.says b (held_of l party) h)
  where
    go : ((row_choices choices row).substitutes ≡ false) × ((row_choices choices row).derived ≡ false)
    go = by (eqb row no_row)
      where
        by : (u : Bool) → ((cond u (record { any = false; substitutes = false; derived = false }) choices).substitutes ≡ false) × ((cond u (record { any = false; substitutes = false; derived = false }) choices).derived ≡ false)
        by true = (refl, refl)
        by false = k.neither e
