-- Each way through the judging of one event, and what its note comes to.
use Prim.Native.Nat.{ℕ, suc, ◌+◌, ◌-◌, ◌*◌, ◌<◌, ◌≤◌}
use mathlib.Core.Path.{◌≡◌, refl, sym, ap, ◌∙◌}
use mathlib.Core.List.{List}
use native.Mathlib.Omega.{arith}
use borrow.Author.Tests.{lt-ltb, le-ltb, eq-eqb, ne_eqb}
use mir.Val.{Fits as FitsIn}
use mir.Syntax.{w64}
use lib.ListN.{length, get_or}
use Rattle.numbers.specs.Refusal as refusal
use Rattle.numbers.specs.Refusal.{no_reading}
use Rattle.numbers.specs.Kind as kinds
use Rattle.numbers.specs.Limit.{most_events, most_text}
use Rattle.wire.specs.Res.{Res, got, fault}
use Rattle.model.specs.Write.{Bare, wrote, unlike, coded}
use Rattle.writer_parts.specs.declared.Spot.{Spot}
use Rattle.writer_parts.specs.declared.judging.Words.{Words}
use Rattle.std.specs.Prelude.{Result, Ok, Err}
use Rattle.numbers.specs.declared.refusal.Refusal.{Refusal}
use Rattle.numbers.specs.declared.refusal.Refusal.TheVariants as why
use Rattle.numbers.specs.Refused.{number_of, answered}
use Rattle.writer_parts.specs.Notes.{note_bits, keeps}
use Rattle.writer_parts.proofs.NoteLaws.{spells_one, kept-other, kept-note, kept-length}
use Rattle.writer_parts.specs.Walk.{events_in, events_at, texts_at, Ready, between, Walked, wanted, judged, KindJudged, WordsOf, noted}
use Rattle.writer_parts.proofs.WalkLaws.{events-count, judged-in, taken-like, taken-unlike}

-- unlike
module _ (L : List ℕ) (at kind p q : ℕ) where
  abbrev is : ℕ → Type 0
  is n = n ≡ judged L at (wanted kind p q)

  pub unlike-none : events_in L ≤ at → is no_reading
  unfolding judged
  unlike-none h = rw (le-ltb at (events_in L) h)

  module _ (h : at < events_in L) where
    pub unlike-blank : (kind ≡ get_or L (4 * at) 0 → ⊥) → get_or L (4 * at) 0 ≡ kinds.blank → is refusal.blank
    unfolding judged unlike
    unlike-blank k e = rw (lt-ltb at (events_in L) h, ne_eqb kind (get_or L (4 * at) 0) k, eq-eqb (get_or L (4 * at) 0) kinds.blank e)

    pub unlike-kind : (kind ≡ get_or L (4 * at) 0 → ⊥) → (get_or L (4 * at) 0 ≡ kinds.blank → ⊥) → is no_reading
    unfolding judged unlike
    unlike-kind k e = rw (lt-ltb at (events_in L) h, ne_eqb kind (get_or L (4 * at) 0) k, ne_eqb (get_or L (4 * at) 0) kinds.blank e)

    module _ (k : kind ≡ get_or L (4 * at) 0) where
      pub unlike-first : (p ≡ get_or L (4 * at + 1) 0 → ⊥) → is no_reading
      unfolding judged unlike
      unlike-first e = rw (lt-ltb at (events_in L) h, eq-eqb kind (get_or L (4 * at) 0) k, ne_eqb p (get_or L (4 * at + 1) 0) e)

      module _ (f : p ≡ get_or L (4 * at + 1) 0) where
        pub unlike-second : (q ≡ get_or L (4 * at + 2) 0 → ⊥) → is no_reading
        unfolding judged unlike
        unlike-second e = rw (lt-ltb at (events_in L) h, eq-eqb kind (get_or L (4 * at) 0) k, eq-eqb p (get_or L (4 * at + 1) 0) f, ne_eqb q (get_or L (4 * at + 2) 0) e)

        pub like : q ≡ get_or L (4 * at + 2) 0 → is 0
        unfolding judged unlike
        like e = rw (lt-ltb at (events_in L) h, eq-eqb kind (get_or L (4 * at) 0) k, eq-eqb p (get_or L (4 * at + 1) 0) f, eq-eqb q (get_or L (4 * at + 2) 0) e)

-- unlike_kind
module _ (L : List ℕ) (at kind : ℕ) where
  kind-wrong : (b : ℕ) → 0 < b → ((p q : ℕ) → b ≡ judged L at (wanted kind p q)) → KindJudged L at kind b
  kind-wrong b h e = record { wrong = λ z p q. e p q; there = λ z. absurd (omega arith); same = λ z. absurd (omega arith) }

  pub kind-none : events_in L ≤ at → KindJudged L at kind no_reading
  kind-none h = kind-wrong no_reading (omega arith) (λ p q. unlike-none L at kind p q h)

  module _ (h : at < events_in L) where
    pub kind-blank : (kind ≡ get_or L (4 * at) 0 → ⊥) → get_or L (4 * at) 0 ≡ kinds.blank → KindJudged L at kind refusal.blank
    kind-blank k e = kind-wrong refusal.blank (omega arith) (λ p q. unlike-blank L at kind p q h k e)

    pub kind-other : (kind ≡ get_or L (4 * at) 0 → ⊥) → (get_or L (4 * at) 0 ≡ kinds.blank → ⊥) → KindJudged L at kind no_reading
    kind-other k e = kind-wrong no_reading (omega arith) (λ p q. unlike-kind L at kind p q h k e)

    pub kind-like : kind ≡ get_or L (4 * at) 0 → KindJudged L at kind 0
    kind-like k = record { wrong = λ z p q. absurd (omega arith); there = λ z. h; same = λ z. k }

pub ruleset kind_ways = (kind-none, kind-blank, kind-other, kind-like)

-- a refusal's number is not 0
pub some : (e : Refusal) → 0 < number_of e
some why.Table = omega arith
some why.Root = omega arith
some why.PayloadSize = omega arith
some why.ModeByte = omega arith
some why.PastEnd = omega arith
some why.Depth = omega arith
some why.EventRoom = omega arith
some why.TextRoom = omega arith
some why.NotHeld = omega arith
some why.Length = omega arith
some why.ContentShort = omega arith
some why.NotShortest = omega arith
some why.TooLarge = omega arith
some why.NoSuchCode = omega arith
some why.MinusZero = omega arith
some why.NotUtf8 = omega arith
some why.LeftOver = omega arith
some why.NoReading = omega arith
some why.Blank = omega arith
some why.OutsideRow = omega arith
some why.PayloadRoom = omega arith
some why.WriteMode = omega arith
some why.TextBytes = omega arith
some why.AreaSize = omega arith
some why.Control = omega arith
some why.Party = omega arith
some why.ReservedBits = omega arith
some why.NoSchemas = omega arith
some why.ManySchemas = omega arith
some why.BlockCheck = omega arith
some why.BlockTurn = omega arith
some why.BlockLayout = omega arith
some why.AdvancedFlag = omega arith

-- what the two ways of a test tell
module _ {T : Type 0} {u : Result T Refusal} where
  pub fine : {n : ℕ} → answered u ≡ n → (x : T) → u ≡ Ok x → 0 ≡ n
  fine e x w = sym (ap answered w) ∙ e

  pub faulty : {n : ℕ} → answered u ≡ n → (e : Refusal) → u ≡ Err e → number_of e ≡ n
  faulty j e w = sym (ap answered w) ∙ j

  pub kind-fine : {L : List ℕ} {at k : ℕ} → KindJudged L at k (answered u) → (x : T) → u ≡ Ok x → KindJudged L at k 0
  kind-fine j x w = rw w at j

  pub kind-faulty : {L : List ℕ} {at k : ℕ} → KindJudged L at k (answered u) → (e : Refusal) → u ≡ Err e → KindJudged L at k (number_of e)
  kind-faulty j e w = rw w at j

module _ {L : List ℕ} {at : ℕ} {r : Result Words Refusal} (h : WordsOf L at r) (e : Words) (w : r ≡ Ok e) where
  words-of : (e.p ≡ get_or L (4 * at + 1) 0) × (e.q ≡ get_or L (4 * at + 2) 0)
  words-of = rw w at h.is

  pub word-first : e.p ≡ get_or L (4 * at + 1) 0
  word-first = words-of.0

  pub word-second : e.q ≡ get_or L (4 * at + 2) 0
  word-second = words-of.1

module _ (L : List ℕ) (at kind p q : ℕ) (h : KindJudged L at kind 0) (e : Words) (x : e.p ≡ get_or L (4 * at + 1) 0) (y : e.q ≡ get_or L (4 * at + 2) 0) where
  pub unlike-p : (p ≡ e.p → ⊥) → no_reading ≡ judged L at (wanted kind p q)
  unlike-p f = unlike-first L at kind p q (h.there refl) (h.same refl) (λ g. f (g ∙ sym x))

  pub unlike-q : p ≡ e.p → (q ≡ e.q → ⊥) → no_reading ≡ judged L at (wanted kind p q)
  unlike-q g f = unlike-second L at kind p q (h.there refl) (h.same refl) (g ∙ x) (λ k. f (k ∙ sym y))

  pub like-both : p ≡ e.p → q ≡ e.q → 0 ≡ judged L at (wanted kind p q)
  like-both f g = like L at kind p q (h.there refl) (h.same refl) (f ∙ x) (g ∙ y)

pub unlike-any : (L : List ℕ) (at kind p q : ℕ) (e : Refusal) → KindJudged L at kind (number_of e) → number_of e ≡ judged L at (wanted kind p q)
unlike-any L at kind p q e h = h.wrong (some e) p q

pub ruleset unlike_ways = (unlike-any, unlike-p, unlike-q, like-both, word-first, word-second, kind-fine, kind-faulty)

-- an event that was judged is one of the list
pub judged-few : (L X N : List ℕ) (c : Spot) (f : Bare) → Ready L X N c → 0 ≡ judged L c.event f → c.event < most_events
judged-few L X N c f r z = let h = judged-in L c.event f (sym z) in let g = r.few in omega arith

-- and has room for its note
pub judged-room : (L X N : List ℕ) (c : Spot) (f : Bare) → Ready L X N c → 0 ≡ judged L c.event f → c.event < length N
judged-room L X N c f r z = let h = judged-in L c.event f (sym z) in let g = r.sized in omega arith

-- one event noted
module _ (L X : List ℕ) (c : Spot) (N : List ℕ) (f : Bare) (m : Res (List ℕ × List ℕ)) (r : Ready L X N c) where
  pub noted-unlike : (e : Refusal) → number_of e ≡ judged L c.event f → Walked L X (noted f m (events_at L c.event)) c N (Err (record { why = e; at = c.event })) N
  unfolding noted
  noted-unlike e j = record { is = record { out = taken-unlike L c.event f (λ e. f) _ refl (number_of e) j (some e) r.inside; inside = r.inside } }

  module _ (z : 0 ≡ judged L c.event f) where
    noted-like : noted f m (events_at L c.event) ≡ coded m (suc (length (events_at L (c.event + 1)))) (λ (w, U). wrote w (events_at L (c.event + 1)) U)
    unfolding noted
    noted-like = taken-like L c.event f (λ e. f) _ refl (sym z)

    within : c.event < events_in L
    within = judged-in L c.event f (sym z)

    pub noted-fault : (e : Refusal) → m ≡ fault (number_of e) → Walked L X (noted f m (events_at L c.event)) c N (Err (record { why = e; at = c.event })) N
    unfolding coded
    noted-fault n e =
        let g = within in
        let k : suc (length (events_at L (c.event + 1))) ≡ events_in L - c.event = omega (arith, events-count L (c.event + 1)) in
        record { is = record { out = rw (noted-like, e, k); inside = r.inside } }

    pub noted-spelt : (w : List ℕ) (n : ℕ) (M : List ℕ) (e : Spot) → note_bits X n ≡ w → M ≡ keeps N c.event n → e.event ≡ c.event + 1 → between X M c e ≡ w
    noted-spelt w n M e is k next =
        let i = within in
        let len = r.sized in
        let one : e.event - c.event ≡ 1 = omega arith in
        rw (one, k) (spells_one X (keeps N c.event n) c.event ∙ kept-note N c.event n X (omega arith) ∙ is)

    pub noted-got : (w : List ℕ) (n : ℕ) (M : List ℕ) (e : Spot) → m ≡ got (w, texts_at X e.used) → note_bits X n ≡ w → M ≡ keeps N c.event n
        → e.event ≡ c.event + 1 → e.bits ≡ c.bits + length w → length w ≤ 40000 → e.used ≤ length X → e.used ≤ c.used + most_text → Walked L X (noted f m (events_at L c.event)) c N (Ok e) M
    unfolding coded
    noted-got w n M e g is k next bits small used short =
        let i = within in
        let few = r.few in
        let len = r.sized in
        let spelt : between X M c e ≡ w = noted-spelt w n M e is k next in
        record {
          is = record {
            out = noted-like ∙ rw (g, spelt, next);
            counts = rw spelt bits;
            onward = omega arith;
            ready = record { sized = omega (arith, ap length k, kept-length N c.event n); few = few; inside = omega arith; used = used; short = omega (arith, r.short); small = omega (arith, r.small) };
            before = λ x h. ap (λ (l : List ℕ). get_or l x 0) k ∙ kept-other N c.event n x (λ y. omega arith);
          };
        }

-- an event of a kind has room for its note
pub kind-room : (L X N : List ℕ) (c : Spot) (k : ℕ) → Ready L X N c → KindJudged L c.event k 0 → c.event < length N
kind-room L X N c k r h = let i = h.there refl in let s = r.sized in omega arith

-- a place that is ready is near
module _ (L X : List ℕ) (c : Spot) (N : List ℕ) (r : Ready L X N c) where
  pub place-near : FitsIn w64 (4 * c.event + 2)
  place-near = let i = r.inside in let f = r.few in record { fits = omega arith }

  pub next-near : FitsIn w64 (c.event + 1)
  next-near = let i = r.inside in let f = r.few in record { fits = omega arith }
