-- DEMAND 3, of the entry `reading`, over words and bytes: what one who holds less may say. One payload, root and output room; two valid tables alike
-- but for held marks, the second holding all that the first holds.
use Prim.Native.Nat.{ℕ, ◌*◌, ◌/◌, ◌%◌, ◌^◌}
use mathlib.Core.Path.{◌≡◌, refl, sym, ap, ◌∙◌}
use mathlib.Core.List.{List, [], ◌∷◌, reverse}
use mathlib.Core.Bool.{Bool, true, false, cond}
use mathlib.Core.Option.{Option, none, some}
use native.Mathlib.Omega.{arith}
use native.Mathlib.Decide.{dec_lt}
use lib.Dec.{eqb}
use lib.ListN.{length}
use Rattle.wire.specs.Bits.{bit_at}
use Rattle.wire.proofs.BitLaws.{bit-lt}
use Rattle.table.specs.Words.{type_at, word_at}
use Rattle.table.specs.Rows.{Table, table_of, held_of}
use Rattle.table.proofs.Held.{table_same}
use Rattle.model.specs.Model.{Mark, Nodes, Path, Plan, Answer, table_in, rooted}
use Rattle.model.specs.Model.Answer.{given, refused}
use Rattle.model.specs.Items.{Mode}
use Rattle.model.specs.Read.{Room, read}
use Rattle.theorems.specs.Less.{outermost, replaced, first_bare, said}
use Rattle.theorems.proofs.Walk.{walk-said}
use Rattle.theorems.proofs.Complete.{is-shown}
use Rattle.theorems.specs.Open.{Excuse}
use Rattle.theorems.proofs.Follow.{Follows, is-followed}
use Rattle.theorems.proofs.Payload.{payload-found, moded-then, padded-then}
use Rattle.model.specs.Whole.{padding, accepted, declined, padded, replied, root_in, in_mode, payload, room_of, reading}
use Rattle.model.specs.Entries.{Entered, plan_of}
use Rattle.model.proofs.Entries.{reading-entered, reading-found}
use Rattle.theorems.specs.Demand3.{Pair, new_of, says_less, Lengths, FirstIs}

module _ (l l' : List ℕ) (party : ℕ) (pair : Pair l l' party) where
  -- a number that is no type has no mark
  holds-all : (t : ℕ) → held_of l party t ≡ true → held_of l' party t ≡ true
  unfolding held_of table_of
  holds-all t h = elim (dec_lt t (word_at l 1)) [
    | yes k ↦ pair.holds t k h
    | no k ↦ ap (λ (w : ℕ). eqb (w / 2 ^ party % 2) 1) (sym (pair.alike.same (type_at t) (λ x. let e = x.2 in let f = x.1 in omega arith))) ∙ h
  ]

  module _ (name type : ℕ) (s : List ℕ) (words bytes : ℕ) where
    abbrev room : Room
    room = room_of words bytes

    abbrev P : Bool → Plan
    P = plan_of l name type

    abbrev D : ℕ
    D = (table_of l).derivations

    enters-first : Entered l' party name type → Entered l party name type
    enters-first h = record {
      table_right = pair.first_right;
      type_known = rw (← (ap (λ (T : Table). T.types) (table_same l l' pair.alike))) at h.type_known;
      name-small = h.name-small;
      party_known = h.party_known;
    }

    enters-second : Entered l party name type → Entered l' party name type
    enters-second h = record {
      table_right = pair.second_right;
      type_known = rw (ap (λ (T : Table). T.types) (table_same l l' pair.alike)) at h.type_known;
      name-small = h.name-small;
      party_known = h.party_known;
    }

    -- by either table the same is due, and the same modes are there
    same-payload : payload (held_of l' party) (plan_of l' name type) (table_of l').derivations s room ≡ payload (held_of l' party) P D s room
    same-payload = ap (λ (T : Table). payload (held_of l' party) (λ casting. rooted (table_in casting T) name type) T.derivations s room) (sym (table_same l l' pair.alike))

    said-reply : (pads : ℕ → Bool) (mode : Mode) (o : Option (Mark × Path)) (ns : Nodes) (q : ℕ) → pads q ≡ true → replied pads mode (said o ns q) ≡ says_less mode o ns q
    unfolding replied padded said says_less
    said-reply pads mode none ns q e = rw e
    said-reply pads mode (some (m, π)) ns q e = refl

    -- (a) If the second accepts: what the first says
    pub second_accepts : (mode : Mode) (ns : Nodes) (q : ℕ) → reading l' party name type s words bytes ≡ accepted mode ns q
        → reading l party name type s words bytes ≡ says_less mode (first_bare (outermost (new_of l l' party) [] ns)) (replaced (new_of l l' party) ns) q
    unfolding payload in_mode root_in
    second_accepts mode ns q e =
        let a = reading-found l' party name type s words bytes mode ns q e in
        let e' : payload (held_of l' party) P D s room ≡ accepted mode ns q = sym same-payload ∙ a.reads in
        let i = payload-found (held_of l' party) P D s room mode ns q e' in
        let f = i.found in
        let shown = is-shown (bit_at s) mode.lengths (held_of l party) (held_of l' party) holds-all f.is room [] (8 * length s) q f.stands f.within f.slots f.bytes ∙ walk-said (new_of l l' party) [] ns q in
        reading-entered l party name type s words bytes (enters-first a.enters)
        ∙ rw (moded-then D s mode i.mode-byte, shown) (said-reply (padding s) mode (first_bare (outermost (new_of l l' party) [] ns)) (replaced (new_of l l' party) ns) q (padded-then s q f.within i.pads))

    -- (b) If only the first accepts: the second refuses while an element that the first shows as a Blank is still open, or for lack of output room
    pub only_first_accepts : (mode : Mode) (ns : Nodes) (q n p : ℕ) (ρ : Path) → reading l party name type s words bytes ≡ accepted mode ns q → reading l' party name type s words bytes ≡ declined n p ρ
        → Excuse (new_of l l' party) [] ns n p ρ
    unfolding payload in_mode root_in replied padded
    only_first_accepts mode ns q n p ρ e e' =
        let a = reading-found l party name type s words bytes mode ns q e in
        let i = payload-found (held_of l party) P D s room mode ns q a.reads in
        let f = i.found in
        let read-on : payload (held_of l' party) P D s room ≡ declined n p ρ =
        sym same-payload ∙ sym (reading-entered l' party name type s words bytes (enters-second a.enters)) ∙ e' in
        go (read (bit_at s) mode.lengths (held_of l' party) (P mode.casting) room [] (8 * length s) 8)
        (is-followed (bit_at s) (bit-lt s) mode.lengths (held_of l party) (held_of l' party) holds-all f.is room [] (8 * length s) q f.stands f.within)
        (padded-then s q f.within i.pads) (rw (moded-then D s mode i.mode-byte) at read-on)
      where
        go : (o : Answer) → Follows (new_of l l' party) [] ns q o → padding s q ≡ true → replied (padding s) mode o ≡ declined n p ρ → Excuse (new_of l l' party) [] ns n p ρ
        go (given ms k) f h e = absurd (let y = rw (f, h) at e in let z : ◌≡◌ {A = ℕ} 0 1 = cc in omega arith)
        go (refused m k π) f h e =
            let x : m ≡ n = cc in
            let y : k ≡ p = cc in
            let z : reverse π ≡ ρ = cc in
            rw (x, y, z) at f

pub first-none : (L : List (Mark × Path)) → first_bare L ≡ none → Lengths L
unfolding first_bare
first-none [] e = tt
first-none ((m, π) ∷ L) e = go m.coded refl e (first-none L)
  where
    go : (c : Bool) → m.coded ≡ c → cond c (first_bare L) (some (m, π)) ≡ none → (first_bare L ≡ none → Lengths L) → Lengths ((m, π) ∷ L)
    go true x e h = (x, h e)
    go false x e h = absurd (let z : ◌≡◌ {A = ℕ} 0 1 = cc in omega arith)

pub none_first : (L : List (Mark × Path)) → Lengths L → first_bare L ≡ none
unfolding first_bare
none_first [] h = refl
none_first ((m, π) ∷ L) h = rw h.0 (none_first L h.1)

pub first_some : (L : List (Mark × Path)) (m : Mark) (π : Path) → first_bare L ≡ some (m, π) → FirstIs L m π
unfolding first_bare
first_some [] m π e = absurd (let z : ◌≡◌ {A = ℕ} 0 1 = cc in omega arith)
first_some ((k, ρ) ∷ L) m π e = go k.coded refl e (first_some L m π)
  where
    go : (c : Bool) → k.coded ≡ c → cond c (first_bare L) (some (k, ρ)) ≡ some (m, π) → (first_bare L ≡ some (m, π) → FirstIs L m π) → FirstIs ((k, ρ) ∷ L) m π
    go true x e h =
        let f = h e in
        record { before = (k, ρ) ∷ f.before; later = f.later; splits = ap (λ (Y : List (Mark × Path)). (k, ρ) ∷ Y) f.splits; lengths = (x, f.lengths); bare = f.bare }
    go false x e h =
        let y : ◌≡◌ {A = Mark × Path} (k, ρ) (m, π) = cc in
        let z : k ≡ m = ap (λ (r : Mark × Path). r.0) y in
        record { before = []; later = L; splits = ap (λ (r : Mark × Path). r ∷ L) y; lengths = tt; bare = rw z at x }
