-- The entries taken apart: a table that is right, a root that is known, then the payload; and for the writing the mode, the list's shape,
-- then the walk and the room.
use Prim.Native.Nat.{ℕ, zero, suc, ◌+◌, ◌*◌, ◌/◌, ◌%◌, ◌<◌, ◌≤◌, min}
use mathlib.Core.Path.{◌≡◌, refl, sym, ap, ◌∙◌}
use mathlib.Core.Bool.{Bool, true, false, cond, true≢false}
use mathlib.Core.List.{List, [], ◌∷◌, ◌++◌, map}
use native.Mathlib.Omega.{arith}
use borrow.Author.Tests.{le-leb, leb-true, eq-eqb, eqb-true}
use lib.Dec.{eqb, leb}
use lib.ListN.{length, get_or}
use Rattle.numbers.specs.Refusal as refusal
use Rattle.numbers.specs.Refusal.{no_reading, payload_room, write_mode}
use Rattle.numbers.specs.Limit.{most_events, most_name, most_payload, parties}
use Rattle.wire.specs.Res.{Res, got, fault, guard, at_most, Ensures}
use Rattle.wire.proofs.Res.{gives, stops, under, under-then}
use Rattle.table.specs.First.{Verdict}
use Rattle.table.specs.First.Verdict.{right, wrong}
use Rattle.table.specs.Valid.{verdict}
use Rattle.table.specs.Rows.{table_of, held_of}
use Rattle.model.specs.Model.{Event, Plan, Nodes}
use Rattle.model.specs.Items.{Lengths, Mode}
use Rattle.model.specs.Write.{Bare, bare, Out, write}
use Rattle.model.specs.Pack.{pack}
use Rattle.model.specs.Whole.{mode, lengths_number, mode_byte, mode_number, plain_modes, cast_modes, modes_for, mode_by, accepted, payload, asked, room_of, after_asked, after_verdict, reading, event_words, Made, made, unmade, event_at, events_from, roomed, spent, mode_asked, shaped, written, or_unmade, verdict_made, writing}
use Rattle.model.specs.Entries.{Entered, plan_of, Shaped, list_of}

-- of each of a list
abbrev Each : (Mode → Type 0) → List Mode → Type 0
Each Q [] = Unit
Each Q (m ∷ l) = Q m × Each Q l

guarded : (t : Bool) (e : ℕ) → Ensures (guard t e) (λ u. t ≡ true)
unfolding guard
guarded true e = gives refl
guarded false e = stops

at-most : (a b e : ℕ) → Ensures (at_most a b e) (λ u. a ≤ b)
unfolding at_most
at-most a b e = record { says = λ u z. leb-true a b ((guarded (leb a b) e).says u z) }

at-most-then : (a b e : ℕ) → a ≤ b → at_most a b e ≡ got tt
unfolding at_most guard
at-most-then a b e h = rw (le-leb a b h)

asked-found : (types party name type : ℕ) → Ensures (asked types party name type) (λ u. (type < types) × (name ≤ most_name) × (party < parties))
unfolding asked
asked-found types party name type =
    under refusal.root λ h. under refusal.root λ k. record { says = λ u e. (h, k, (at-most (suc party) parties refusal.party).says u e) }

pub asked-then : (types party name type : ℕ) → type < types → name ≤ most_name → party < parties → asked types party name type ≡ got tt
unfolding asked
asked-then types party name type h k i = under-then refusal.root h (under-then refusal.root k (at-most-then (suc party) parties refusal.party i))

module _ (l : List ℕ) (party name type : ℕ) where
  module _ (s : List ℕ) (words bytes : ℕ) where
    pub reading-entered : Entered l party name type → reading l party name type s words bytes ≡ payload (held_of l party) (plan_of l name type) (table_of l).derivations s (room_of words bytes)
    unfolding reading after_verdict after_asked
    reading-entered h = rw (h.table_right, asked-then (table_of l).types party name type h.type_known h.name-small h.party_known)

    -- what is accepted has entered
    pub record Accepted (mode : Mode) (ns : Nodes) (q : ℕ) : Type 0 where
      pub enters : Entered l party name type
      pub reads : payload (held_of l party) (plan_of l name type) (table_of l).derivations s (room_of words bytes) ≡ accepted mode ns q

    pub reading-found : (mode : Mode) (ns : Nodes) (q : ℕ) → reading l party name type s words bytes ≡ accepted mode ns q → Accepted mode ns q
    unfolding reading after_verdict after_asked
    reading-found mode ns q e = go (verdict l) (asked (table_of l).types party name type) refl (asked-found (table_of l).types party name type) e
      where
        go : (v : Verdict) (a : Res Unit) → verdict l ≡ v → Ensures a (λ u. (type < (table_of l).types) × (name ≤ most_name) × (party < parties))
            → after_verdict v (after_asked a (payload (held_of l party) (plan_of l name type) (table_of l).derivations s (room_of words bytes))) ≡ accepted mode ns q → Accepted mode ns q
        go right (got u) r h e = let k = h.says u refl in record { enters = record { table_right = r; type_known = k.0; name-small = k.1; party_known = k.2 }; reads = e }
        go right (fault n) r h e = absurd (let z : ◌≡◌ {A = ℕ} 0 1 = cc in omega arith)
        go (wrong i) a r h e = absurd (let z : ◌≡◌ {A = ℕ} 0 1 = cc in omega arith)

-- a mode, by its number or its byte; type codes only where the table has derivations
pub record Known (f : Mode → ℕ) (D x : ℕ) (m : Mode) : Type 0 where
  pub is : x ≡ f m
  pub casts : m.casting ≡ true → 0 < D

by-found : (f : Mode → ℕ) (Q : Mode → Type 0) (l : List Mode) (x e : ℕ) → Each Q l → Ensures (mode_by f l x e) (λ m. (x ≡ f m) × Q m)
unfolding mode_by
by-found f Q [] x e h = stops
by-found f Q (m ∷ l) x e h = go (eqb x (f m)) refl (by-found f Q l x e h.1)
  where
    go : (t : Bool) → eqb x (f m) ≡ t → Ensures (mode_by f l x e) (λ m. (x ≡ f m) × Q m) → Ensures (cond t (got m) (mode_by f l x e)) (λ m. (x ≡ f m) × Q m)
    go true z r = gives (eqb-true x (f m) z, h.0)
    go false z r = r

pub mode-known : (f : Mode → ℕ) (D x e : ℕ) → Ensures (mode_by f (modes_for D) x e) (Known f D x)
unfolding modes_for
mode-known f zero x e = record {
  says = λ m z. let h = (by-found f (λ m. m.casting ≡ true → 0 < 0) plain_modes x e (plain, (plain, (plain, tt)))).says m z in record { is = h.0; casts = h.1 };
}
  where
    plain : false ≡ true → 0 < 0
    plain z = absurd (true≢false (sym z))
mode-known f (suc D) x e = record {
  says = λ m z. let h = (by-found f (λ m. m.casting ≡ true → 0 < suc D) (plain_modes ++ cast_modes) x e (some, (some, (some, (some, (some, (some, tt))))))).says m z in record { is = h.0; casts = h.1 };
}
  where
    some : {u : Bool} → u ≡ true → 0 < suc D
    some z = omega arith

pub mode-asked : (D : ℕ) (m : Mode) → (m.casting ≡ true → 0 < D) → mode_asked D (mode_number m) ≡ got m
unfolding mode_asked mode_number mode_by modes_for lengths_number
mode-asked D m h = go D m.lengths m.casting h
  where
    go : (D : ℕ) (k : Lengths) (c : Bool) → (c ≡ true → 0 < D) → mode_asked D (mode_number (mode k c)) ≡ got (mode k c)
    go zero Lengths.never false h = refl
    go zero Lengths.optional false h = refl
    go zero Lengths.always false h = refl
    go (suc D) Lengths.never false h = refl
    go (suc D) Lengths.optional false h = refl
    go (suc D) Lengths.always false h = refl
    go (suc D) Lengths.never true h = refl
    go (suc D) Lengths.optional true h = refl
    go (suc D) Lengths.always true h = refl
    go zero k true h = absurd (let z = h refl in omega arith)

pub asked-mode : (D n : ℕ) → Ensures (mode_asked D n) (Known mode_number D n)
unfolding mode_asked
asked-mode D n = mode-known mode_number D n write_mode

shaped-then : (L : List ℕ) (m : Made) → Shaped L → shaped L m ≡ m
unfolding shaped
shaped-then L m h = rw (eq-eqb (length L % 4) 0 h.whole, le-leb (length L / 4) most_events h.few)

shaped-found : (L : List ℕ) (m : Made) (s : List ℕ) (n : ℕ) → shaped L m ≡ made s n → Shaped L × (m ≡ made s n)
unfolding shaped
shaped-found L m s n e = go (eqb (length L % 4) 0) (leb (length L / 4) most_events) refl refl e
  where
    go : (t u : Bool) → eqb (length L % 4) 0 ≡ t → leb (length L / 4) most_events ≡ u
        → cond t (cond u m (unmade no_reading (length L / 4))) (unmade no_reading (length L / 4)) ≡ made s n → Shaped L × (m ≡ made s n)
    go true true x y e = (record { whole = eqb-true (length L % 4) 0 x; few = leb-true (length L / 4) most_events y }, e)
    go true false x y e = absurd (let z : ◌≡◌ {A = ℕ} 0 1 = cc in omega arith)
    go false u x y e = absurd (let z : ◌≡◌ {A = ℕ} 0 1 = cc in omega arith)

module _ (held : ℕ → Bool) (P : Plan) (mode : Mode) (M : List Bare) (T : List ℕ) (room : ℕ) where
  -- what is made: the walk's bits, nothing left over, within the room
  pub record Writing (s : List ℕ) (n : ℕ) : Type 0 where
    pub bits : List ℕ
    pub writes : write mode.lengths held P M T ≡ Out.wrote bits [] []
    pub bytes : s ≡ mode_byte mode ∷ pack bits
    pub used : n ≡ 8 + length bits
    pub fits : 1 + (length bits + 7) / 8 ≤ min room most_payload

  pub written-found : (s : List ℕ) (n : ℕ) → written held P mode M T room ≡ made s n → Writing s n
  unfolding written spent roomed
  written-found s n e = go (write mode.lengths held P M T) refl e
    where
      roomy : (w : List ℕ) (t : Bool) → write mode.lengths held P M T ≡ Out.wrote w [] [] → leb (1 + (length w + 7) / 8) (min room most_payload) ≡ t
          → cond t (made (mode_byte mode ∷ pack w) (8 + length w)) (unmade payload_room 0) ≡ made s n → Writing s n
      roomy w true h x e = record { bits = w; writes = h; bytes = cc; used = cc; fits = leb-true _ _ x }
      roomy w false h x e = absurd (let z : ◌≡◌ {A = ℕ} 0 1 = cc in omega arith)

      go : (o : Out) → write mode.lengths held P M T ≡ o → spent (length M) o (roomed room mode) ≡ made s n → Writing s n
      go (Out.wrote w [] []) h e = roomy w (leb (1 + (length w + 7) / 8) (min room most_payload)) h refl e
      go (Out.wrote w [] (x ∷ U)) h e = absurd (let z : ◌≡◌ {A = ℕ} 0 1 = cc in omega arith)
      go (Out.wrote w (x ∷ N) U) h e = absurd (let z : ◌≡◌ {A = ℕ} 0 1 = cc in omega arith)
      go (Out.refused k left) h e = absurd (let z : ◌≡◌ {A = ℕ} 0 1 = cc in omega arith)

  pub written_then : (s : List ℕ) (n : ℕ) → Writing s n → written held P mode M T room ≡ made s n
  unfolding written spent roomed
  written_then s n h = rw (h.writes, le-leb _ _ h.fits, h.bytes, h.used)

module _ (l : List ℕ) (party name type mode : ℕ) (L X : List ℕ) (room : ℕ) where
  pub writing-entered : (m : Mode) → Entered l party name type → mode_asked (table_of l).derivations mode ≡ got m → Shaped L
      → writing l party name type mode L X room ≡ written (held_of l party) (plan_of l name type m.casting) m (list_of L) X room
  unfolding writing verdict_made or_unmade
  writing-entered m h e k = rw (h.table_right, asked-then (table_of l).types party name type h.type_known h.name-small h.party_known, e, shaped-then L (written (held_of l party) (plan_of l name type m.casting) m (list_of L) X room) k)

  pub record Wrote (s : List ℕ) (n : ℕ) : Type 0 where
    pub enters : Entered l party name type
    pub way : Mode
    pub mode_is_lem : mode_asked (table_of l).derivations mode ≡ got way
    pub shape : Shaped L
    pub writes : Writing (held_of l party) (plan_of l name type way.casting) way (list_of L) X room s n

  pub writing-found : (s : List ℕ) (n : ℕ) → writing l party name type mode L X room ≡ made s n → Wrote s n
  unfolding writing verdict_made or_unmade
  writing-found s n e = go (verdict l) (asked (table_of l).types party name type) (mode_asked (table_of l).derivations mode) refl (asked-found (table_of l).types party name type) refl e
    where
      go : (v : Verdict) (a : Res Unit) (m : Res Mode) → verdict l ≡ v → Ensures a (λ u. (type < (table_of l).types) × (name ≤ most_name) × (party < parties)) → mode_asked (table_of l).derivations mode ≡ m
          → verdict_made v (or_unmade a (λ u. or_unmade m (λ m. shaped L (written (held_of l party) (plan_of l name type m.casting) m (list_of L) X room)))) ≡ made s n → Wrote s n
      go right (got u) (got m) r h y e =
          let k = h.says u refl in
          let f = shaped-found L _ s n e in
          record {
            enters = record { table_right = r; type_known = k.0; name-small = k.1; party_known = k.2 };
            way = m;
            mode_is_lem = y;
            shape = f.0;
            writes = written-found (held_of l party) (plan_of l name type m.casting) m (list_of L) X room s n f.1;
          }
      go right (got u) (fault k) r h y e = absurd (let z : ◌≡◌ {A = ℕ} 0 1 = cc in omega arith)
      go right (fault k) m r h y e = absurd (let z : ◌≡◌ {A = ℕ} 0 1 = cc in omega arith)
      go (wrong i) a m r h y e = absurd (let z : ◌≡◌ {A = ℕ} 0 1 = cc in omega arith)

-- a list of events as words, and back without the fourth words
pub words-length : (E : List Event) → length (event_words E) ≡ 4 * length E
unfolding event_words
words-length [] = refl
words-length (e ∷ E) = let h = words-length E in omega arith

event-shift : (a b c d : ℕ) (L : List ℕ) (i : ℕ) → event_at (a ∷ b ∷ c ∷ d ∷ L) (i + 1) ≡ event_at L i
event-shift a b c d L i =
    let x : 4 * (i + 1) ≡ suc (suc (suc (suc (4 * i)))) = omega arith in
    let y : 4 * (i + 1) + 1 ≡ suc (suc (suc (suc (4 * i + 1)))) = omega arith in
    let z : 4 * (i + 1) + 2 ≡ suc (suc (suc (suc (4 * i + 2)))) = omega arith in
    λ j. record {
      kind = get_or (a ∷ b ∷ c ∷ d ∷ L) (x j) 0;
      p = get_or (a ∷ b ∷ c ∷ d ∷ L) (y j) 0;
      q = get_or (a ∷ b ∷ c ∷ d ∷ L) (z j) 0;
    }

events-shift : (a b c d : ℕ) (L : List ℕ) (i n : ℕ) → events_from (a ∷ b ∷ c ∷ d ∷ L) (i + 1) n ≡ events_from L i n
unfolding events_from
events-shift a b c d L i zero = refl
events-shift a b c d L i (suc n) = rw (event-shift a b c d L i, events-shift a b c d L (i + 1) n)

pub words_back : (E : List Event) → events_from (event_words E) 0 (length E) ≡ map bare E
unfolding event_words events_from
words_back [] = refl
words_back (e ∷ E) = ap (λ (l : List Bare). bare e ∷ l) (events-shift e.kind e.p e.q e.bits (event_words E) 0 (length E) ∙ words_back E)

pub list_back : (E : List Event) → list_of (event_words E) ≡ map bare E
list_back E = let n : length (event_words E) / 4 ≡ length E = omega (arith, words-length E) in rw n (words_back E)

pub events-length : (L : List ℕ) (i n : ℕ) → length (events_from L i n) ≡ n
unfolding events_from
events-length L i zero = refl
events-length L i (suc n) = ap suc (events-length L (i + 1) n)
