-- The laws of a walk: one part after another, an event taken or refused, an item by itself and then the rest.
use Prim.Native.Nat.{ℕ, zero, suc, ◌+◌, ◌-◌, ◌<◌, ◌≤◌}
use mathlib.Core.Path.{◌≡◌, refl, sym, ap, ◌∙◌}
use mathlib.Core.List.{List, [], ◌∷◌, ◌++◌, append-nil}
use native.Mathlib.Omega.{arith}
use native.Mathlib.Decide.{dec_lt}
use borrow.Author.Tests.{lt-ltb, le-ltb}
use lib.ListN.{length, length-append}
use Rattle.wire.specs.Res.{Res, got, fault}
use Rattle.model.specs.Model.{Item}
use Rattle.model.specs.Write.{Bare, Out, wrote, refused, put, along, unlike, matched, taken, coded, word_of, as_item, item_out}
use Rattle.model.proofs.OutLaws.{along_then, put_then}
use Rattle.model.specs.WriteSteps.{item_then}
use Rattle.model.specs.Whole.{event_at, events_from}
use Rattle.writer_parts.specs.declared.Spot.{Spot}
use Rattle.std.specs.Prelude.{Ok, Err}
use Rattle.numbers.specs.declared.refusal.Fault.{Fault}
use Rattle.numbers.specs.Refused.{number_of}
use Rattle.writer_parts.specs.Notes.{spells}
use Rattle.writer_parts.proofs.NoteLaws.{spells-none, spells-by, spells-same}
use Rattle.writer_parts.specs.Walk.{Judgement, events_in, events_at, texts_at, Ready, between, Went, Stopped, Walked, judged, noted, alone}

-- an answer that goes on, or stops
module _ {L X : List ℕ} {o : Out} {c : Spot} {N : List ℕ} {r : Judgement} {M : List ℕ} (h : Walked L X o c N r M) where
  pub went : (e : Spot) → r ≡ Ok e → Went L X o c N e M
  went e w = rw w at h.is

  pub stopped : (f : Fault ℕ) → r ≡ Err f → Stopped L o (number_of f.why) f.at
  stopped f w = rw w at h.is

-- the same meaning in other words
pub walked_as : {L X : List ℕ} {o p : Out} {c : Spot} {N : List ℕ} (r : Judgement) {M : List ℕ} → o ≡ p → Walked L X p c N r M → Walked L X o c N r M
walked_as r e h = rw e h

-- nothing is walked
pub stays : (L X : List ℕ) (c : Spot) (N : List ℕ) → Ready L X N c → Walked L X (wrote [] (events_at L c.event) (texts_at X c.used)) c N (Ok c) N
stays L X c N r =
    let z : c.event - c.event ≡ 0 = omega arith in
    let e : between X N c c ≡ [] = rw z (spells-none X N c.event) in
    record { is = record { out = rw e; counts = rw e (omega arith); onward = omega arith; ready = r; before = λ j h. refl } }

-- one part after another
module _ (L X : List ℕ) (o : Out) (k : List Bare → List ℕ → Out) (c : Spot) (N : List ℕ) (r : Judgement) (M : List ℕ) (h : Walked L X o c N r M) where
  pub along-stop : (f : Fault ℕ) → r ≡ Err f → Walked L X (along o k) c N r M
  unfolding along
  along-stop f w = let s = stopped h f w in rw w (record { is = record { out = rw s.out; inside = s.inside } })

  pub along-go : (e : Spot) → r ≡ Ok e → (s : Judgement) (K : List ℕ) → Walked L X (k (events_at L e.event) (texts_at X e.used)) e M s K → Walked L X (along o k) c N s K
  unfolding put
  along-go e w (Ok f) K y =
      let b = y.is in
      let a = went h e w in
      let same : spells X K c.event (e.event - c.event) ≡ spells X M c.event (e.event - c.event) = spells-same X M K c.event (e.event - c.event) (λ j g i. b.before j (omega arith)) in
      let whole : between X K c f ≡ between X M c e ++ between X K e f = spells-by X K c.event e.event f.event a.onward b.onward ∙ ap (λ (l : List ℕ). l ++ between X K e f) same in
      record {
        is = record {
          out = along_then k a.out (put_then (between X M c e) b.out) ∙ ap (λ (l : List ℕ). wrote l (events_at L f.event) (texts_at X f.used)) (sym whole);
          counts = rw whole (omega (arith, length-append (between X M c e) (between X K e f), a.counts, b.counts));
          onward = omega (arith, a.onward, b.onward);
          ready = b.ready;
          before = λ j g. b.before j (omega (arith, a.onward)) ∙ a.before j g;
        };
      }
  along-go e w (Err f) K y =
      let a = went h e w in
      let b = y.is in
      record { is = record { out = along_then k a.out (rw b.out); inside = b.inside } }

-- the events from one on
module _ (L : List ℕ) (i : ℕ) where
  pub events-next : i < events_in L → events_at L i ≡ event_at L i ∷ events_at L (i + 1)
  unfolding events_at events_from
  events-next h =
      let e : events_in L - i ≡ suc (events_in L - (i + 1)) = omega arith in
      rw e

  pub events-none : events_in L ≤ i → events_at L i ≡ []
  unfolding events_at events_from
  events-none h = let e : events_in L - i ≡ 0 = omega arith in rw e

pub events-count : (L : List ℕ) (i : ℕ) → length (events_at L i) ≡ events_in L - i
unfolding events_at events_from
events-count L i = go (events_in L - i) i
  where
    go : (n i : ℕ) → length (events_from L i n) ≡ n
    go zero i = refl
    go (suc n) i = ap suc (go n (i + 1))

-- an event taken, or refused
module _ (L : List ℕ) (i : ℕ) (f : Bare) where
  pub judged-in : judged L i f ≡ 0 → i < events_in L
  unfolding judged
  judged-in h = elim (dec_lt i (events_in L)) [
    | yes k ↦ k
    | no k ↦ absurd (let z : ◌≡◌ {A = ℕ} 18 0 = sym (rw (le-ltb i (events_in L) (omega arith))) ∙ h in omega arith)
  ]

  pub judged-is : i < events_in L → judged L i f ≡ unlike f (event_at L i)
  unfolding judged
  judged-is h = rw (lt-ltb i (events_in L) h)

  judged-none : events_in L ≤ i → judged L i f ≡ 18
  unfolding judged
  judged-none h = rw (le-ltb i (events_in L) h)

  module _ (g : Bare → Bare) (k : Bare → List Bare → Out) (e : g (event_at L i) ≡ f) where
    pub taken-like : judged L i f ≡ 0 → taken g (events_at L i) k ≡ k (event_at L i) (events_at L (i + 1))
    unfolding taken matched
    taken-like h =
        let in· = judged-in h in
        let z : unlike f (event_at L i) ≡ 0 = sym (judged-is in·) ∙ h in
        rw (events-next L i in·, e, z)

    pub taken-unlike : (b : ℕ) → b ≡ judged L i f → 0 < b → i ≤ events_in L → taken g (events_at L i) k ≡ refused b (events_in L - i)
    unfolding taken matched
    taken-unlike b h p q = elim (dec_lt i (events_in L)) [
      | yes in· ↦
          let z : unlike f (event_at L i) ≡ suc (b - 1) = sym (judged-is in·) ∙ sym h ∙ omega arith in
          let n : suc (length (events_at L (i + 1))) ≡ events_in L - i = omega (arith, events-count L (i + 1)) in
          let s : suc (b - 1) ≡ b = omega arith in
          rw (events-next L i in·, e, z) (rw n (ap (λ (x : ℕ). refused x (events_in L - i)) s))
      | no out ↦
          let z : b ≡ 18 = h ∙ judged-none (omega arith) in
          let n : events_in L - i ≡ 0 = omega arith in
          rw (events-none L i (omega arith), z, n)
    ]

-- an item by itself, as one event noted; and an item and then the rest
module _ (L : List ℕ) (at : ℕ) (i : Item) (T : List ℕ) where
  abbrev E : Bare
  E = event_at L at

  alone-none : item_then i [] T (λ v N U. wrote [] N U) ≡ taken (λ e. as_item i E) [] (λ e N. coded (item_out i (word_of i E) T) (suc (length N)) (λ (w, U). wrote w N U))
  unfolding taken
  alone-none = refl

  alone-some : (M : List Bare) → item_then i (E ∷ M) T (λ v N U. wrote [] N U) ≡ taken (λ e. as_item i E) (E ∷ M) (λ e N. coded (item_out i (word_of i E) T) (suc (length N)) (λ (w, U). wrote w N U))
  unfolding taken put
  alone-some M = λ j. matched (unlike (as_item i E) E) (suc (length M)) (coded (item_out i (word_of i E) T) (suc (length M)) (λ (w, U). wrote (append-nil w j) M U))

  pub alone-noted : alone i (events_at L at) T ≡ noted (as_item i E) (item_out i (word_of i E) T) (events_at L at)
  unfolding alone noted
  alone-noted = elim (dec_lt at (events_in L)) [
    | yes in· ↦ rw (events-next L at in·) (alone-some (events_at L (at + 1)))
    | no out ↦ rw (events-none L at (omega arith)) alone-none
  ]

  module _ (k : ℕ → List Bare → List ℕ → Out) where
    rest-none : item_then i [] T k ≡ along (item_then i [] T (λ v N U. wrote [] N U)) (λ N U. k (word_of i E) N U)
    unfolding taken along
    rest-none = refl

    rest-by : (M : List Bare) (n : ℕ) (m : Res (List ℕ × List ℕ)) → matched n (suc (length M)) (coded m (suc (length M)) (λ (w, U). put w (k (word_of i E) M U)))
        ≡ along (matched n (suc (length M)) (coded m (suc (length M)) (λ (w, U). put w (wrote [] M U)))) (λ N U. k (word_of i E) N U)
    unfolding matched coded along put
    rest-by M (suc n) m = refl
    rest-by M zero (fault e) = refl
    rest-by M zero (got (w, U)) = ap (λ (l : List ℕ). put l (k (word_of i E) M U)) (sym (append-nil w))

    rest_some : (M : List Bare) → item_then i (E ∷ M) T k ≡ along (item_then i (E ∷ M) T (λ v N U. wrote [] N U)) (λ N U. k (word_of i E) N U)
    unfolding taken
    rest_some M = rest-by M (unlike (as_item i E) E) (item_out i (word_of i E) T)

    pub item-rest : item_then i (events_at L at) T k ≡ along (alone i (events_at L at) T) (λ N U. k (word_of i E) N U)
    unfolding alone
    item-rest = elim (dec_lt at (events_in L)) [
      | yes in· ↦ rw (events-next L at in·) (rest_some (events_at L (at + 1)))
      | no out ↦ rw (events-none L at (omega arith)) rest-none
    ]
