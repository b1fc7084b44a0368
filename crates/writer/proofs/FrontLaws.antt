-- What is judged before the walk and after it, and each way through it.
use Prim.Native.Nat.{ℕ, zero, suc, ◌+◌, ◌-◌, ◌*◌, ◌/◌, ◌%◌, ◌<◌, ◌≤◌, min}
use mathlib.Core.Path.{◌≡◌, refl, sym, ◌∙◌}
use mathlib.Core.Bool.{Bool, true, false, cond}
use mathlib.Core.List.{List}
use native.Mathlib.Omega.{arith}
use borrow.Author.Tests.{le-leb, lt-leb, leb-true, leb-false, eq-eqb, ne_eqb, ltb-false}
use lib.Dec.{eqb, ltb, leb}
use lib.ListN.{length, get_or}
use lib.Seq.{drop-length, drop-cons}
use Rattle.numbers.specs.Refusal.{write_mode, payload_room}
use Rattle.numbers.specs.declared.refusal.Refusal.{Refusal}
use Rattle.numbers.specs.declared.refusal.Refusal.TheVariants as refusal
use Rattle.numbers.specs.declared.refusal.Fault.{Fault}
use Rattle.numbers.specs.Refused.{number_of}
use Rattle.std.specs.Prelude.{Result, Ok, Err}
use Rattle.numbers.specs.Limit.{most_events, most_name, most_payload, parties}
use Rattle.wire.specs.Res.{got, fault}
use Rattle.table.specs.First.Verdict.{right, wrong}
use Rattle.table.specs.Valid.{verdict}
use Rattle.table.specs.Views.{Checked, verdict_is}
use Rattle.table.specs.Words.{substitutes_in}
use Rattle.table.specs.Rows.{table_of}
use Rattle.model.specs.Items.{Mode}
use Rattle.model.specs.Modes.{lengths_is, offers}
use Rattle.model.specs.declared.Choices.{Choices}
use Rattle.model.specs.declared.Lengths as lengths_t
use Rattle.model.specs.declared.Lengths.TheVariants as lv
use Rattle.model.specs.declared.Mode as mode_t
use Rattle.model.proofs.ModeLaws.{offers-neither}
use Rattle.model.proofs.EntryWays.{asked-type, asked-name, asked-party}
use Rattle.model.proofs.Entries.{asked-then, mode-asked}
use Rattle.model.specs.Whole.{mode, lengths_number, mode_number, modes_for, mode_by, unmade, asked, mode_asked, roomed, spent, shaped, or_unmade, verdict_made, writing}
use Rattle.writer_parts.specs.declared.Spot.{Spot}
use Rattle.writer_parts.specs.Walk.{events_in, events_at, texts_at}
use Rattle.writer_parts.proofs.WalkLaws.{events-next, events-none, events-count}
use Rattle.writer.specs.Front.{Way, Moded, Fronted, ends, Settled}

-- mode_of
pub never_number : 0 ≡ lengths_number (lengths_is lv.Never)
unfolding lengths_number lengths_is
never_number = refl

pub optional_number : 1 ≡ lengths_number (lengths_is lv.Optional)
unfolding lengths_number lengths_is
optional_number = refl

pub always_number : 2 ≡ lengths_number (lengths_is lv.Always)
unfolding lengths_number lengths_is
always_number = refl

-- a number that is none of theirs; the last three are none where there are no derivations
mode-other : (D n : ℕ) → 2 < n → (0 < D → (n ≡ 4 → ⊥) × (n ≡ 5 → ⊥) × (n ≡ 6 → ⊥)) → mode_asked D n ≡ fault write_mode
unfolding mode_asked mode_by modes_for mode_number lengths_number
mode-other D n a = go D
  where
    go : (D : ℕ) → (0 < D → (n ≡ 4 → ⊥) × (n ≡ 5 → ⊥) × (n ≡ 6 → ⊥)) → mode_by mode_number (modes_for D) n write_mode ≡ fault write_mode
    go zero h = rw (ne_eqb n 0 (λ e. omega arith), ne_eqb n 1 (λ e. omega arith), ne_eqb n 2 (λ e. omega arith))
    go (suc D) h =
        let k = h (omega arith) in
        rw (ne_eqb n 0 (λ e. omega arith), ne_eqb n 1 (λ e. omega arith), ne_eqb n 2 (λ e. omega arith), ne_eqb n 4 k.0, ne_eqb n 5 k.1, ne_eqb n 6 k.2)

module _ (t : List ℕ) (party n : ℕ) where
  abbrev refused : Type 0
  refused = Moded t party n (Err refusal.WriteMode)

  pub moded-none : 4 ≤ n → (d : ℕ) → d ≡ (table_of t).derivations → d ≡ 0 → refused
  moded-none h d e z = record { is = mode-other _ n (omega arith) (λ p. absurd (omega arith)) }

  pub moded_over : 6 < n → refused
  moded_over h = record { is = mode-other _ n (omega arith) (λ p. (λ e. omega arith, λ e. omega arith, λ e. omega arith)) }

  pub moded-three : 2 < n % 4 → n ≤ 6 → refused
  moded-three h k = record { is = mode-other _ n (omega arith) (λ p. (λ e. omega arith, λ e. omega arith, λ e. omega arith)) }

  -- the way of a number, by what it is
  pub moded-way : (l : lengths_t.Lengths) → n % 4 ≡ lengths_number (lengths_is l) → n ≤ 6 → (4 ≤ n → 0 < (table_of t).derivations) → (s : ℕ) (c : Choices) → s ≡ substitutes_in t → c ≡ offers (ltb 0 s) (leb 4 n)
      → Moded t party n (Ok record { lengths = l; choices = c; party = party })
  unfolding mode_number
  moded-way l e k d s c s-is c-is = rw c-is (record { is = record { is = go (leb 4 n) refl; choosing = record { none = λ f. let z = ltb-false 0 s f in omega arith; neither = offers-neither (ltb 0 s) (leb 4 n) }; party_is = refl } })
    where
      go : (b : Bool) → leb 4 n ≡ b → mode_asked (table_of t).derivations n ≡ got (mode (lengths_is l) b)
      go b f = rw (number b f) (mode-asked (table_of t).derivations (mode (lengths_is l) b) (λ y. d (leb-true 4 n (f ∙ y))))
        where
          number : (b : Bool) → leb 4 n ≡ b → n ≡ mode_number (mode (lengths_is l) b)
          number true f = let h = leb-true 4 n f in omega arith
          number false f = let h = leb-false 4 n f in omega arith

module _ (t : List ℕ) (party name ty number : ℕ) (L : List ℕ) where
  abbrev fronted : Result mode_t.Mode (Fault ℕ) → Type 0
  fronted r = Fronted t party name ty number L r

  pub front-wrong : (v : Checked) → verdict_is v ≡ verdict t → (i : ℕ) → v ≡ Err record { 0 = i } → fronted (Err record { why = refusal.Table; at = i })
  unfolding writing verdict_made
  front-wrong v e i w = record { is = λ X room. let z : verdict t ≡ wrong i = sym e ∙ rw w in rw z }

  pub front-right : (v : Checked) → verdict_is v ≡ verdict t → (u : Unit) → v ≡ Ok u → verdict t ≡ right
  front-right v e u w = sym e ∙ rw w

  module _ (v : verdict t ≡ right) (k : ℕ) (e : k ≡ (table_of t).types) where
    pub front-type : k ≤ ty → fronted (Err record { why = refusal.Root; at = 0 })
    unfolding writing verdict_made or_unmade
    front-type h = record { is = λ X room. rw (v, asked-type (table_of t).types party name ty (rw e at h)) }

    module _ (h : ty < k) where
      pub front-name : most_name < name → fronted (Err record { why = refusal.Root; at = 0 })
      unfolding writing verdict_made or_unmade
      front-name g = record { is = λ X room. rw (v, asked-name (table_of t).types party name ty (rw e at h) g) }

      module _ (g : name ≤ most_name) where
        pub front-party : parties ≤ party → fronted (Err record { why = refusal.Party; at = 0 })
        unfolding writing verdict_made or_unmade
        front-party i = record { is = λ X room. rw (v, asked-party (table_of t).types party name ty (rw e at h) g (omega arith)) }

        module _ (i : party < parties) where
          ok : asked (table_of t).types party name ty ≡ got tt
          ok = asked-then (table_of t).types party name ty (rw e at h) g i

          pub front-mode : (r : Result mode_t.Mode Refusal) → Moded t party number r → (why : Refusal) → r ≡ Err why → fronted (Err record { why = why; at = 0 })
          unfolding writing verdict_made or_unmade
          front-mode r m why w = let z : mode_asked (table_of t).derivations number ≡ fault (number_of why) = rw w at m.is in record { is = λ X room. rw (v, ok, z) }

          module _ (r : Result mode_t.Mode Refusal) (q : Moded t party number r) (m : mode_t.Mode) (w : r ≡ Ok m) where
            way : Way t party number m
            way = rw w at q.is

            pub front-parts : 0 < length L % 4 → fronted (Err record { why = refusal.NoReading; at = length L / 4 })
            unfolding writing verdict_made or_unmade shaped
            front-parts p = record { is = λ X room. rw (v, ok, way.is, ne_eqb (length L % 4) 0 (λ q. omega arith)) }

            module _ (p : length L % 4 ≤ 0) where
              pub front-many : most_events < length L / 4 → fronted (Err record { why = refusal.NoReading; at = length L / 4 })
              unfolding writing verdict_made or_unmade shaped
              front-many q = record { is = λ X room. rw (v, ok, way.is, eq-eqb (length L % 4) 0 (omega arith), lt-leb (length L / 4) most_events (omega arith)) }

              pub front-fine : length L / 4 ≤ most_events → fronted (Ok m)
              front-fine q = record { is = record { enters = record { table_right = v; type_known = rw e at h; name-small = g; party_known = i }; way = way; shape = record { whole = omega arith; few = omega arith } } }

pub ruleset checked-ways = (front-type, front-name, front-party, front-mode, front-parts, front-many, front-fine)

pub ruleset asked-ways = (front-wrong, front-right)

module _ (L X : List ℕ) (c : Spot) (room : ℕ) where
  module _ (h : c.event < events_in L) (k : ℕ) (e : k ≡ get_or L (4 * c.event) 0) where
    left_one : (w : List ℕ) (m : Mode) → ends L X c room m w ≡ unmade (cond (eqb k 7) 19 18) c.event
    unfolding spent
    left_one w m =
        let n : events_in L - suc (length (events_at L (c.event + 1))) ≡ c.event = omega (arith, events-count L (c.event + 1)) in
        rw (events-next L c.event h, e, n)

    pub left-blank : k ≡ 7 → Settled L X c room (Err record { why = refusal.Blank; at = c.event })
    left-blank z = record { is = λ w m b. left_one w m ∙ rw (eq-eqb k 7 z) }

    pub left-event : (k ≡ 7 → ⊥) → Settled L X c room (Err record { why = refusal.NoReading; at = c.event })
    left-event z = record { is = λ w m b. left_one w m ∙ rw (ne_eqb k 7 z) }

  module _ (h : events_in L ≤ c.event) (i : c.event ≤ events_in L) where
    pub left-text : c.used < length X → Settled L X c room (Err record { why = refusal.TextBytes; at = c.event })
    unfolding spent texts_at
    left-text g = record { is = λ w m b. let z : c.event ≡ events_in L = omega arith in rw (events-none L c.event h, drop-cons X c.used 0 g, z) }

    module _ (g : length X ≤ c.used) (u : c.used ≤ length X) (s : ℕ) (e : s ≡ 1 + (c.bits + 7) / 8) where
      all-spent : (w : List ℕ) (m : Mode) → ends L X c room m w ≡ roomed room m w
      unfolding spent texts_at
      all-spent w m = let z : c.used ≡ length X = omega arith in rw (events-none L c.event h, z, drop-length X)

      too_long : min room most_payload < s → (w : List ℕ) (m : Mode) → c.bits ≡ length w → ends L X c room m w ≡ unmade payload_room 0
      unfolding roomed
      too_long k w m b = all-spent w m ∙ rw (lt-leb (1 + (length w + 7) / 8) (min room most_payload) (rw (e, b) at k))

      module _ (least : ℕ) (f : least ≡ min room most_payload) where
        pub left-large : least < s → Settled L X c room (Err record { why = refusal.PayloadRoom; at = 0 })
        left-large k = record { is = too_long (omega arith) }

        pub left-none : s ≤ least → Settled L X c room (Ok tt)
        unfolding roomed
        left-none k = record {
          is = record {
            over = omega arith;
            spent_all = omega arith;
            fits = small;
            gives = λ w m b.
                let f : 1 + (length w + 7) / 8 ≤ min room most_payload = rw b at small in
                all-spent w m ∙ rw (le-leb (1 + (length w + 7) / 8) (min room most_payload) f);
          };
        }
          where
            small : 1 + (c.bits + 7) / 8 ≤ min room most_payload
            small = omega arith

pub ruleset settled-ways = (left-blank, left-event, left-text, left-large, left-none)
