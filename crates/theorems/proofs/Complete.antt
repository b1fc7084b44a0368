-- READER COMPLETE (`is_read`): what is so by the grammar and stands there is read, where wall and room suffice; and one who holds room_less reads
-- what the walk shows of it (`is-shown`).
use Prim.Native.Nat.{ℕ, ◌+◌, ◌-◌, ◌≤◌}
use mathlib.Core.Path.{◌≡◌, refl, ◌∙◌}
use mathlib.Core.Bool.{Bool, true, false, not}
use mathlib.Core.List.{List, [], ◌∷◌, ◌++◌}
use native.Mathlib.Omega.{arith}
use borrow.Author.Tests.{eq-eqb}
use lib.ListN.{length, length-append}
use Rattle.wire.specs.Res.{got}
use Rattle.wire.specs.At.{At}
use Rattle.wire.proofs.BitLaws.{at_left, at_right}
use Rattle.model.specs.Model.{event, Item, event_of, Types, Plan, Nodes, Path, tree_slots, tree_bytes, tree_bits}
use Rattle.model.specs.Model.Plan.{item, element}
use Rattle.model.specs.Model.Nodes.{none, leaf, node}
use Rattle.model.specs.Model.Answer.{given}
use Rattle.model.specs.Items.{Lengths, Length, free, long, coded, Measures, item_at, head_at, codes_at}
use Rattle.model.proofs.ItemLaws.{item-reads, head_of, stop_of, stop-in, head-reads, codes-reads}
use Rattle.model.specs.Grammar as grammar
use Rattle.model.specs.Grammar.{opens, cast_in, Is}
use Rattle.model.specs.Read.{Room, room_less, less_one, met, read}
use Rattle.model.proofs.Readings.{cast-then, cast_slots, cast-slots, cast-bytes, Opens, one, Goes, an_item, an_element, a_blank, nothing, more, Refuses, here, unheld, inside, later, Reads, reads-read}
use Rattle.theorems.specs.Less.{newly}
use Rattle.theorems.proofs.Walk.{Walk, shown, lacking, both, enclosed, shown_as, walk, answer, ShowsNoMore, shown_as-fits, walk-fits, walk-cast, walk_none}
use Rattle.model.proofs.Sums.{cast-sum, is_sum}

meets : (h : Length) (k body wall q : ℕ) → Measures h k → body + k ≡ q → met (coded h) q (stop_of h body wall) ≡ true
unfolding met
meets free k body wall q m e = refl
meets (long n) k body wall q m e = let z = eq-eqb q (body + n) (omega arith) in cc

module _ (b : ℕ → ℕ) (mode : Lengths) (held : ℕ → Bool) (r : Room) (π : Path) (wall at : ℕ) where
  -- a part as the walk shows it, after which Q is due
  abbrev Starts : Plan → Plan → Walk → ℕ → Type 0
  Starts P Q (shown ns) q = Goes b mode held one P r wall at ns q Q
  Starts P Q (lacking p ρ) q = Refuses b mode held P r π wall at 9 p ρ

  item-goes : (i : Item) (k : ℕ → Plan) (v n q : ℕ) (ts : List ℕ) → item_at i b wall at ≡ got (v, ts, q) → q - at ≡ n
      → length ts ≤ r.bytes → 1 ≤ r.slots
      → Goes b mode held one (item i k) r wall at (leaf at (event_of i v n) ts none) q (k v)
  item-goes i k v n q ts e d h l = rw (← d) (an_item e h l)

  blank-goes : (name : ℕ) {y : Types} (x : Opens b mode held y wall at) (a n q : ℕ) (f : ℕ → Plan) (P : Plan)
      → x.h ≡ long a → x.body + a ≡ q → q - at ≡ n → held x.t ≡ false
      → 1 ≤ r.slots
      → Goes b mode held one (element name y f P) r wall at (leaf at (event 7 name x.t n) [] none) q P
  blank-goes name x a n q f P h y d z l = rw (← d, ← y) (a_blank a x h z l)

  -- `ns` is what the walk was over
  both-reads : (P Q : Plan) (ns : Nodes) (v u : Walk) (q p : ℕ) → ShowsNoMore v ns → Starts P Q v q
      → ((ms : Nodes) → tree_slots ms ≤ tree_slots ns → tree_bytes ms ≤ tree_bytes ns
      → Reads b mode held Q (room_less r ms) π wall q (answer u p)) → Reads b mode held P r π wall at (answer (both v u) p)
  unfolding answer both
  both-reads P Q ns (lacking n ρ) u q p h d f = d
  both-reads P Q ns (shown ms) (shown ks) q p h d f = more d (f ms h.0 h.1)
  both-reads P Q ns (shown ms) (lacking n ρ) q p h d f = later d (f ms h.0 h.1)

  -- an element whose head is n bits and whose codes are j, with k bits after the head
  module _ (name t k : ℕ) (y : Types) (f : ℕ → Plan) (P : Plan) (body past : ℕ) (i : Nodes) (q : ℕ) (room : 2 + cast_slots y + tree_slots i ≤ r.slots) where
    module _ (n j l : ℕ) (d : body - at ≡ n) (u : past - body ≡ j) (p : body + l ≡ q) (c : q - at ≡ n + tree_bits (cast_in y body t k j i)) where
      element-starts : (h : Length) (new : Bool) (v : Walk) → ShowsNoMore v i
          → head_at mode b wall at ≡ got (head_of h body) → codes_at y b (stop_of h body wall) body ≡ got (t, k, past) → Measures h l
          → held t ≡ not new
          → (held t ≡ true → Reads b mode held (f t) (room_less (less_one r) (cast_in y body t k j none)) (name ∷ π) (stop_of h body wall) past (answer v q))
          → Starts (element name y f P) P (shown_as new (coded h) (opens name t h at n) π (cast_in y body t k j i) (both (shown (cast_in y body t k j none)) v)) q
      unfolding shown_as enclosed answer both
      element-starts h false (shown ms) s e o m z g =
          let w = cast-slots y body t k (past - body) ms in
          rw (cast-then y body t k j ms, ← d, ← u)
          (an_element (record { h = h; t = t; k = k; body = body; past = past; head = e; coding = o }) z (rw (← u) at (g z)) (meets h l body wall q m p) (omega arith))
      element-starts h false (lacking a ρ) s e o m z g =
          inside {r = r} (record { h = h; t = t; k = k; body = body; past = past; head = e; coding = o }) z (omega arith) (rw (← u) at (g z))
      element-starts free true v s e o m z g = here (unheld (record { h = free; t = t; k = k; body = body; past = past; head = e; coding = o }) refl z)
      element-starts (long a) true v s e o m z g =
          blank-goes name (record { h = long a; t = t; k = k; body = body; past = past; head = e; coding = o }) a _ q f P refl (omega arith) c z (omega arith)

module _ (b : ℕ → ℕ) (mode : Lengths) where
  module _ (held held' : ℕ → Bool) (all : (t : ℕ) → held t ≡ true → held' t ≡ true) where
    not-held : (t : ℕ) (u : Bool) → held t ≡ u → held' t ≡ false → held t ≡ false
    not-held t true e f = absurd (let z : ◌≡◌ {A = ℕ} 0 1 = cc (all t e) in omega arith)
    not-held t false e f = e

    -- of an element that the second holds
    not_new : (t : ℕ) (u : Bool) → held t ≡ u → held' t ≡ true → held t ≡ not (newly held held' t)
    unfolding newly
    not_new t true e f = rw e
    not_new t false e f = rw (e, f)

    abbrev new : ℕ → Bool
    new t = newly held held' t

    shows : {P : Plan} {at : ℕ} {ns : Nodes} {w : List ℕ} → Is mode held' P at ns w → (r : Room) (π : Path) (wall q : ℕ)
        → At b at w q → q ≤ wall → tree_slots ns ≤ r.slots → tree_bytes ns ≤ r.bytes
        → Reads b mode held P r π wall at (answer (walk new π ns) q)
    unfolding walk answer tree_slots tree_bytes
    shows {at} grammar.nothing r π wall q f k m n = let z : q ≡ at = omega (arith, f.next) in rw z nothing
    shows {at} (grammar.an_item {i} {k = c} {v} {ts} {w} {x} {r = ns} h j) r π wall q f k m n =
        let l = length-append w x in
        let y = f.next in
        let first : Nodes = leaf at (event_of i v (length w)) ts none in
        both-reads b mode held r π wall at (item i c) (c v) first (shown first) (walk new π ns) (at + length w) q (omega arith)
        (item-goes b mode held r π wall at i c v (length w) (at + length w) ts
        (item-reads b i h (at_left w x f) (omega arith)) (omega arith) (omega arith) (omega arith))
        (λ ms s t. shows j (room_less r ms) π wall q (at_right w x f) k (omega arith) (omega arith))
    shows {at} (grammar.an_element {name} {t} {k = sub} {y} {f = c} {P} {h} {s} {c = o} {w} {x} {i} {r = ns} hd cd z g me j) r π wall q f k m n =
        let l = length-append (s ++ (o ++ w)) x in
        let l' = length-append s (o ++ w) in
        let l'' = length-append o w in
        let so = length-append s o in
        let fn = f.next in
        let u = at_left (s ++ (o ++ w)) x f in
        let body = at + length s in
        let past = at + length s + length o in
        let tree = cast_in y body t sub (length o) i in
        let a = opens name t h at (length s) in
        let v = walk new (name ∷ π) i in
        let e = stop-in h (length (o ++ w)) body wall me (omega arith) in
        let end = at + length (s ++ (o ++ w)) in
        let ow = at_right s (o ++ w) u in
        let slots = cast-slots y body t sub (length o) i in
        let slots' = cast-slots y body t sub (length o) none in
        let bytes = cast-bytes y body t sub (length o) i in
        let bytes' = cast-bytes y body t sub (length o) none in
        let walked = walk-cast new (name ∷ π) y body t sub (length o) i in
        let fits = walk-fits new (name ∷ π) tree in
        let into : past ≡ at + length (s ++ o) = omega arith in
        rw walked
        (both-reads b mode held r π wall at (element name y c P) P (node a tree none) (shown_as (new t) (coded h) a π tree (both (shown (cast_in y body t sub (length o) none)) v))
        (walk new π ns) end q (shown_as-fits (new t) (coded h) a π tree _ (rw walked at fits))
        (element-starts b mode held r π wall at name t sub y c P body past i end (omega arith) (length s) (length o) (length (o ++ w)) (omega arith) (omega arith) (omega arith)
        (omega (arith, cast-sum y body t sub o i cd, is_sum mode held' g)) h (new t) v (walk-fits new (name ∷ π) i)
        (head-reads b wall hd (at_left s (o ++ w) u) (omega arith) e.0)
        (codes-reads b (stop_of h body wall) cd (at_left o w ow) (omega arith)) me (not_new t (held t) refl z)
        (λ p. rw into (shows g (room_less (less_one r) (cast_in y body t sub (length o) none)) (name ∷ π) (stop_of h body wall) end (rw into at (at_right o w ow)) (omega arith) (omega arith) (omega arith))))
        (λ ms a e. shows j (room_less r ms) π wall q (at_right (s ++ (o ++ w)) x f) k (omega arith) (omega arith)))
    shows {at} (grammar.a_blank {name} {t} {k = sub} {y} {f = c} {P} {s} {c = o} {x} {r = ns} w h cd z u j) r π wall q f k m n =
        let l = length-append (s ++ (o ++ w)) x in
        let l' = length-append s (o ++ w) in
        let l'' = length-append o w in
        let fn = f.next in
        let a = at_left (s ++ (o ++ w)) x f in
        let ow = at_right s (o ++ w) a in
        let first : Nodes = leaf at (event 7 name t (length (s ++ (o ++ w)))) [] none in
        let e = head-reads b wall h (at_left s (o ++ w) a) (omega arith) (omega arith) in
        let d = codes-reads b (at + length s + length (o ++ w)) cd (at_left o w ow) (omega arith) in
        both-reads b mode held r π wall at (element name y c P) P first (shown first) (walk new π ns) (at + length (s ++ (o ++ w))) q (omega arith)
        (blank-goes b mode held r π wall at name (record { h = long (length (o ++ w)); t = t; k = sub; body = at + length s; past = at + length s + length o; head = e; coding = d }) (length (o ++ w)) _ _ c P
        refl (omega arith) (omega arith)
        (not-held t (held t) refl z) (omega arith))
        (λ ms a e. shows j (room_less r ms) π wall q (at_right (s ++ (o ++ w)) x f) k (omega arith) (omega arith))

    pub is-shown : {P : Plan} {at : ℕ} {ns : Nodes} {w : List ℕ} → Is mode held' P at ns w
        → (r : Room) (π : Path) (wall q : ℕ)
        → At b at w q → q ≤ wall → tree_slots ns ≤ r.slots → tree_bytes ns ≤ r.bytes
        → read b mode held P r π wall at ≡ answer (walk new π ns) q
    is-shown {P} {at} i r π wall q f k m n = reads-read b mode held P r π wall at _ (shows i r π wall q f k m n)

  -- nothing is newly held where both hold the same
  module _ (held : ℕ → Bool) where
    same_new : (t : ℕ) (u : Bool) → held t ≡ u → newly held held t ≡ false
    unfolding newly
    same_new t true e = rw e
    same_new t false e = rw e

    pub is_read : {P : Plan} {at : ℕ} {ns : Nodes} {w : List ℕ} → Is mode held P at ns w
        → (r : Room) (π : Path) (wall q : ℕ)
        → At b at w q → q ≤ wall → tree_slots ns ≤ r.slots → tree_bytes ns ≤ r.bytes
        → read b mode held P r π wall at ≡ given ns q
    unfolding answer
    is_read {ns} i r π wall q f k m n =
        is-shown held held (λ t h. h) i r π wall q f k m n ∙ rw (walk_none (newly held held) (λ t. same_new t (held t) refl) π ns)
