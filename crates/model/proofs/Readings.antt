-- HOW A READING GOES, as a relation: part after part (`Goes`) until all is given (`Gives`), or until it is refused
-- (`Refuses`, `Stop`). Every reading goes so (`read-reads`), and what goes so is the reading (`reads-read`): a law of
-- every reading is an induction over these cases, and this file alone looks at Read's helpers for it.
use Prim.Native.Nat.{ℕ, zero, suc, ◌+◌, ◌-◌, ◌≤◌, ◌<◌}
use mathlib.Core.Path.{◌≡◌, refl}
use mathlib.Core.Bool.{Bool, true, false, cond}
use mathlib.Core.List.{List, [], ◌∷◌}
use native.Mathlib.Omega.{arith}
use native.Mathlib.Decide.{dec_le, dec_lt}
use borrow.Author.Tests.{le-leb, lt-leb, lt-ltb, le-ltb}
use lib.ListN.{length}
use Rattle.numbers.specs.Kind as kinds
use Rattle.wire.specs.Res.{Res, got, fault, Ensures}
use Rattle.wire.proofs.Res.{gives, bind, under, itself}
use Rattle.model.specs.Model.{Item, event, event_of, Types, codes, Plan, Mark, Nodes, ◌then◌, tree_slots, tree_bytes, Path, Answer}
use Rattle.model.specs.Model.Plan.{done, deep, item, element}
use Rattle.model.specs.Model.Nodes.{none, leaf, node}
use Rattle.model.specs.Model.Answer.{given, refused}
use Rattle.model.specs.Items.{Lengths, never, optional, always, item_at, Length, free, long, coded, Head, length_at, head_at, codes_at}
use Rattle.model.specs.Grammar.{cast_in}
use Rattle.model.proofs.ItemLaws.{head_of, stop_of}
use Rattle.model.specs.Read.{Room, room_less, less_one, onto, after, code, kept, stored, met, ended, closed, Into, cast_at, entered, mark, bare, sized, opened, element_at, read}

-- the codes' event by itself, before what is inside; how many slots it takes
abbrev pub cast_of : Types → ℕ → ℕ → ℕ → ℕ → Nodes
cast_of y at type substitute n = cast_in y at type substitute n none

pub cast-then : (y : Types) (at t k n : ℕ) (ns : Nodes) → (cast_of y at t k n then ns) ≡ cast_in y at t k n ns
unfolding cast_in ◌then◌
cast-then y at t k n ns = go (codes y)
  where
    go : (u : Bool) → (cond u (leaf at (event kinds.cast t k n) [] none) none then ns) ≡ cond u (leaf at (event kinds.cast t k n) [] ns) ns
    go true = refl
    go false = refl

unfoldable pub cast_slots : Types → ℕ
cast_slots y = cond (codes y) 1 0

pub cast-slots : (y : Types) (at t k n : ℕ) (ns : Nodes) → tree_slots (cast_in y at t k n ns) ≡ cast_slots y + tree_slots ns
unfolding cast_in cast_slots tree_slots
cast-slots y at t k n ns = go (codes y)
  where
    go : (u : Bool) → tree_slots (cond u (leaf at (event kinds.cast t k n) [] ns) ns) ≡ cond u 1 0 + tree_slots ns
    go true = omega arith
    go false = omega arith

pub cast-bytes : (y : Types) (at t k n : ℕ) (ns : Nodes) → tree_bytes (cast_in y at t k n ns) ≡ tree_bytes ns
unfolding cast_in tree_bytes
cast-bytes y at t k n ns = go (codes y)
  where
    go : (u : Bool) → tree_bytes (cond u (leaf at (event kinds.cast t k n) [] ns) ns) ≡ tree_bytes ns
    go true = omega arith
    go false = refl

-- one part, or all of them
pub data Extent : Type 0 where
  one all : Extent

module _ (b : ℕ → ℕ) (mode : Lengths) (held : ℕ → Bool) where
  -- a head and the codes behind it, below the element's own end: length, effective type, substitute, the places after both
  pub record Opens (y : Types) (wall at : ℕ) : Type 0 where
    pub h : Length
    pub t : ℕ
    pub k : ℕ
    pub body : ℕ
    pub past : ℕ
    pub head : head_at mode b wall at ≡ got (head_of h body)
    pub coding : codes_at y b (stop_of h body wall) body ≡ got (t, k, past)

  -- how far an element may go, its Start and its codes' event, what room they leave, and whether it may end at q
  module _ {y : Types} {wall at : ℕ} (x : Opens y wall at) where
    abbrev pub wall_in : ℕ
    wall_in = stop_of x.h x.body wall

    abbrev pub cast_node : Nodes → Nodes
    cast_node ns = cast_in y x.body x.t x.k (x.past - x.body) ns

    abbrev pub room_in : Room → Room
    room_in r = room_less (less_one r) (cast_node none)

    abbrev pub mark_in : ℕ → Mark
    mark_in name = mark name x.t (coded x.h) at x.body

    abbrev pub met_at : ℕ → Bool
    met_at q = met (coded x.h) q wall_in

  -- why a reading stops where it stands
  pub data Stop (r : Room) (wall at : ℕ) : Plan → ℕ → Type 0 where
    too-deep : Stop r wall at deep 6
    no_item : {i : Item} {k : ℕ → Plan} {n : ℕ} → item_at i b wall at ≡ fault n → Stop r wall at (item i k) n
    no_bytes : {i : Item} {k : ℕ → Plan} {v q : ℕ} {ts : List ℕ} → item_at i b wall at ≡ got (v, ts, q)
        → r.bytes < length ts → Stop r wall at (item i k) 8
    no_slot : {i : Item} {k : ℕ → Plan} {v q : ℕ} {ts : List ℕ} → item_at i b wall at ≡ got (v, ts, q)
        → length ts ≤ r.bytes → r.slots ≡ 0 → Stop r wall at (item i k) 7
    no_head : {name n : ℕ} {y : Types} {f : ℕ → Plan} {P : Plan} → head_at mode b wall at ≡ fault n
        → Stop r wall at (element name y f P) n
    unheld : {name : ℕ} {y : Types} {f : ℕ → Plan} {P : Plan} (x : Opens y wall at) → x.h ≡ free
        → held x.t ≡ false → Stop r wall at (element name y f P) 9
    no_start : {name : ℕ} {y : Types} {f : ℕ → Plan} {P : Plan} (x : Opens y wall at) → held x.t ≡ true → r.slots ≡ 0
        → Stop r wall at (element name y f P) 7
    no-blank : {name : ℕ} {y : Types} {f : ℕ → Plan} {P : Plan} (n : ℕ) (x : Opens y wall at) → x.h ≡ long n
        → held x.t ≡ false → r.slots ≡ 0
        → Stop r wall at (element name y f P) 7

  -- the first part of what is due, up to q, after which Q is due; or part after part until nothing is
  pub data Goes : Extent → Plan → Room → ℕ → ℕ → Nodes → ℕ → Plan → Type 0 where
    an_item : {i : Item} {k : ℕ → Plan} {r : Room} {wall at v q : ℕ} {ts : List ℕ} → item_at i b wall at ≡ got (v, ts, q)
        → length ts ≤ r.bytes → 0 < r.slots
        → Goes one (item i k) r wall at (leaf at (event_of i v (q - at)) ts none) q (k v)
    an_element : {name : ℕ} {y : Types} {f : ℕ → Plan} {P : Plan} {r : Room} {wall at q : ℕ} {ns : Nodes} (x : Opens y wall at)
        → held x.t ≡ true → Goes all (f x.t) (room_in x r) (wall_in x) x.past ns q done → met_at x q ≡ true
        → 1 + tree_slots (cast_node x ns) < r.slots
        → Goes one (element name y f P) r wall at (node (mark_in x name) (cast_node x ns) none) q P
    a_blank : {name : ℕ} {y : Types} {f : ℕ → Plan} {P : Plan} {r : Room} {wall at : ℕ} (n : ℕ) (x : Opens y wall at)
        → x.h ≡ long n → held x.t ≡ false → 0 < r.slots
        → Goes one (element name y f P) r wall at (leaf at (event 7 name x.t (x.body + n - at)) [] none) (x.body + n) P
    nothing : {r : Room} {wall at : ℕ} → Goes all done r wall at none at done
    more : {P Q : Plan} {r : Room} {wall at q p : ℕ} {ns ms : Nodes} → Goes one P r wall at ns q Q
        → Goes all Q (room_less r ns) wall q ms p done → Goes all P r wall at (ns then ms) p done

  abbrev pub Gives : Plan → Room → ℕ → ℕ → Nodes → ℕ → Type 0
  Gives P r wall at ns q = Goes all P r wall at ns q done

  pub data Refuses : Plan → Room → Path → ℕ → ℕ → ℕ → ℕ → Path → Type 0 where
    here : {P : Plan} {r : Room} {π : Path} {wall at n : ℕ} → Stop r wall at P n → Refuses P r π wall at n at π
    no-codes : {name body n : ℕ} {y : Types} {f : ℕ → Plan} {P : Plan} {r : Room} {π : Path} {wall at : ℕ} (h : Length)
        → head_at mode b wall at ≡ got (head_of h body) → codes_at y b (stop_of h body wall) body ≡ fault n
        → Refuses (element name y f P) r π wall at n body π
    no-cast : {name : ℕ} {y : Types} {f : ℕ → Plan} {P : Plan} {r : Room} {π : Path} {wall at : ℕ} (x : Opens y wall at)
        → held x.t ≡ true → codes y ≡ true → r.slots ≡ 1
        → Refuses (element name y f P) r π wall at 7 x.body (name ∷ π)
    inside : {name : ℕ} {y : Types} {f : ℕ → Plan} {P : Plan} {r : Room} {π ρ : Path} {wall at n p : ℕ} (x : Opens y wall at)
        → held x.t ≡ true → cast_slots y < r.slots
        → Refuses (f x.t) (room_in x r) (name ∷ π) (wall_in x) x.past n p ρ
        → Refuses (element name y f P) r π wall at n p ρ
    unmet : {name : ℕ} {y : Types} {f : ℕ → Plan} {P : Plan} {r : Room} {π : Path} {wall at q : ℕ} {ns : Nodes}
        (x : Opens y wall at) → held x.t ≡ true → cast_slots y < r.slots
        → Gives (f x.t) (room_in x r) (wall_in x) x.past ns q → met_at x q ≡ false
        → Refuses (element name y f P) r π wall at 11 x.body (name ∷ π)
    no_end : {name : ℕ} {y : Types} {f : ℕ → Plan} {P : Plan} {r : Room} {π : Path} {wall at q : ℕ} {ns : Nodes}
        (x : Opens y wall at) → held x.t ≡ true → cast_slots y < r.slots
        → Gives (f x.t) (room_in x r) (wall_in x) x.past ns q → met_at x q ≡ true
        → r.slots ≤ 1 + tree_slots (cast_node x ns) → Refuses (element name y f P) r π wall at 7 q (name ∷ π)
    later : {P Q : Plan} {r : Room} {π ρ : Path} {wall at q n p : ℕ} {ns : Nodes} → Goes one P r wall at ns q Q
        → Refuses Q (room_less r ns) π wall q n p ρ → Refuses P r π wall at n p ρ

  -- what was answered
  abbrev pub Reads : Plan → Room → Path → ℕ → ℕ → Answer → Type 0
  Reads P r π wall at (given ns q) = Gives P r wall at ns q
  Reads P r π wall at (refused n p ρ) = Refuses P r π wall at n p ρ

  -- what goes so is the reading
  module _ (g : Into) (name : ℕ) (r : Room) (π : Path) {y : Types} {wall at : ℕ} (x : Opens y wall at) where
    abbrev Opened : Answer
    Opened = opened b mode held g name y r π wall at (head_of x.h x.body)

    -- the codes' event is stored, where there is one
    cast-given : cast_slots y < r.slots → cast_at (codes y) x.t x.k (less_one r) (name ∷ π) x.body x.past ≡ given (cast_node x none) x.past
    unfolding cast_slots cast_at cast_in stored kept
    cast-given = go (codes y)
      where
        go : (u : Bool) → cond u 1 0 < r.slots → cast_at u x.t x.k (less_one r) (name ∷ π) x.body x.past
            ≡ given (cond u (leaf x.body (event kinds.cast x.t x.k (x.past - x.body)) [] none) none) x.past
        go true l = rw (le-leb 0 r.bytes (omega arith), lt-ltb 0 (r.slots - 1) (omega arith))
        go false l = refl

    opened-held : held x.t ≡ true → cast_slots y < r.slots → Opened
        ≡ closed (less_one r) (mark_in x name) π (wall_in x) x.body
        (onto (cast_node x none) (g x.t (room_in x r) (name ∷ π) (wall_in x) x.past))
    unfolding opened code bare sized entered after
    opened-held z l = go x.h x.coding
      where
        go : (h : Length) → codes_at y b (stop_of h x.body wall) x.body ≡ got (x.t, x.k, x.past)
            → opened b mode held g name y r π wall at (head_of h x.body)
            ≡ closed (less_one r) (mark name x.t (coded h) at x.body) π (stop_of h x.body wall) x.body
            (onto (cast_node x none) (g x.t (room_in x r) (name ∷ π) (stop_of h x.body wall) x.past))
        go free e = rw (e, z, lt-ltb 0 r.slots (omega arith), cast-given l)
        go (long n) e = rw (e, z, lt-ltb 0 r.slots (omega arith), cast-given l)

    opened-full : held x.t ≡ true → r.slots ≡ 0 → Opened ≡ refused 7 at π
    unfolding opened code bare sized entered
    opened-full z s = go x.h x.coding
      where
        go : (h : Length) → codes_at y b (stop_of h x.body wall) x.body ≡ got (x.t, x.k, x.past)
            → opened b mode held g name y r π wall at (head_of h x.body) ≡ refused 7 at π
        go free e = rw (e, z, le-ltb 0 r.slots (omega arith))
        go (long n) e = rw (e, z, le-ltb 0 r.slots (omega arith))

    opened-cast : held x.t ≡ true → codes y ≡ true → r.slots ≡ 1 → Opened ≡ refused 7 x.body (name ∷ π)
    unfolding opened code bare sized entered cast_at stored kept after closed
    opened-cast z c s = go x.h x.coding
      where
        go : (h : Length) → codes_at y b (stop_of h x.body wall) x.body ≡ got (x.t, x.k, x.past)
            → opened b mode held g name y r π wall at (head_of h x.body) ≡ refused 7 x.body (name ∷ π)
        go free e = rw (e, z, lt-ltb 0 r.slots (omega arith), c, le-leb 0 r.bytes (omega arith), le-ltb 0 (r.slots - 1) (omega arith))
        go (long n) e = rw (e, z, lt-ltb 0 r.slots (omega arith), c, le-leb 0 r.bytes (omega arith), le-ltb 0 (r.slots - 1) (omega arith))

    -- not held: refused without a length, stored as a Blank with one
    opened-unheld : held x.t ≡ false → x.h ≡ free → Opened ≡ refused 9 at π
    unfolding opened code bare
    opened-unheld z e = let c = x.coding in rw e (rw (rw e at c, z))

    opened-blank : (n : ℕ) → held x.t ≡ false → x.h ≡ long n → Opened ≡ stored r π at (event 7 name x.t (x.body + n - at)) [] (x.body + n)
    unfolding opened code sized
    opened-blank n z e = let c = x.coding in rw e (rw (rw e at c, z))

  opened-codeless : (g : Into) (name : ℕ) (r : Room) (π : Path) (y : Types) (wall at n body : ℕ) (h : Length)
      → codes_at y b (stop_of h body wall) body ≡ fault n → opened b mode held g name y r π wall at (head_of h body) ≡ refused n body π
  unfolding opened code
  opened-codeless g name r π y wall at n body free c = rw c
  opened-codeless g name r π y wall at n body (long k) c = rw c

  abbrev Comes : Extent → Plan → Room → Path → ℕ → ℕ → Nodes → ℕ → Plan → Type 0
  Comes one P r π wall at ns q Q = read b mode held P r π wall at ≡ onto ns (read b mode held Q (room_less r ns) π wall q)
  Comes all P r π wall at ns q Q = read b mode held P r π wall at ≡ given ns q

  goes-read : {x : Extent} {P Q : Plan} {r : Room} {wall at q : ℕ} {ns : Nodes} → Goes x P r wall at ns q Q → (π : Path)
      → Comes x P r π wall at ns q Q
  unfolding read element_at code stored kept after onto closed ended
  goes-read {r} (an_item {ts} e h k) π = rw (e, le-leb (length ts) r.bytes h, lt-ltb 0 r.slots k)
  goes-read {r} (an_element {name} {y} {ns} x z g m l) π =
      let u = cast-slots y x.body x.t x.k (x.past - x.body) ns in
      let s = lt-ltb 0 (r.slots - 1 - tree_slots (cast_node x ns)) (omega arith) in
      rw (x.head, opened-held _ name r π x z (omega arith), goes-read g (name ∷ π), cast-then y x.body x.t x.k (x.past - x.body) ns, m, s)
  goes-read {r} (a_blank {name} n x e z k) π =
      rw (x.head, opened-blank _ name r π x n z e, le-leb 0 r.bytes (omega arith), lt-ltb 0 r.slots k)
  goes-read nothing π = refl
  goes-read (more f g) π = rw (goes-read f π, goes-read g π)

  stop-read : {P : Plan} {r : Room} {wall at n : ℕ} → Stop r wall at P n → (π : Path)
      → read b mode held P r π wall at ≡ refused n at π
  unfolding read element_at code stored kept after
  stop-read too-deep π = refl
  stop-read (no_item e) π = rw e
  stop-read {r} (no_bytes {ts} e h) π = rw (e, lt-leb (length ts) r.bytes h)
  stop-read {r} (no_slot {ts} e h k) π = rw (e, le-leb (length ts) r.bytes h, le-ltb 0 r.slots (omega arith))
  stop-read (no_head e) π = rw e
  stop-read {r} (unheld {name} x e z) π = rw (x.head, opened-unheld _ name r π x z e)
  stop-read {r} (no_start {name} x z k) π = rw (x.head, opened-full _ name r π x z k)
  stop-read {r} (no-blank {name} n x e z k) π =
      rw (x.head, opened-blank _ name r π x n z e, le-leb 0 r.bytes (omega arith), le-ltb 0 r.slots (omega arith))

  refuses-read : {P : Plan} {r : Room} {π ρ : Path} {wall at n p : ℕ} → Refuses P r π wall at n p ρ
      → read b mode held P r π wall at ≡ refused n p ρ
  unfolding read element_at code after onto closed ended
  refuses-read {π} (here x) = stop-read x π
  refuses-read {r} {π} (no-codes {name} {body} {n} {y} {wall} {at} h e c) = rw (e, opened-codeless _ name r π y wall at n body h c)
  refuses-read {r} {π} (no-cast {name} x z c s) = rw (x.head, opened-cast _ name r π x z c s)
  refuses-read {r} {π} (inside {name} x z s d) =
      rw (x.head, opened-held _ name r π x z s, refuses-read d)
  refuses-read {r} {π} (unmet {name} {y} {ns} x z s g m) =
      rw (x.head, opened-held _ name r π x z s, goes-read g (name ∷ π), cast-then y x.body x.t x.k (x.past - x.body) ns, m)
  refuses-read {r} {π} (no_end {name} {y} {ns} x z s g m l) =
      let u = le-ltb 0 (r.slots - 1 - tree_slots (cast_node x ns)) (omega arith) in
      rw (x.head, opened-held _ name r π x z s, goes-read g (name ∷ π), cast-then y x.body x.t x.k (x.past - x.body) ns, m, u)
  refuses-read {π} (later f d) = rw (goes-read f π, refuses-read d)

  pub reads-read : (P : Plan) (r : Room) (π : Path) (wall at : ℕ) (o : Answer) → Reads P r π wall at o
      → read b mode held P r π wall at ≡ o
  reads-read P r π wall at (given ns q) g = goes-read g π
  reads-read P r π wall at (refused n p ρ) d = refuses-read d

  -- a head that was read has a length or none
  data Form : Head → Type 0 where
    form : (h : Length) (body : ℕ) → Form (head_of h body)

  length-form : (n wall at : ℕ) → Ensures (length_at n b wall at) Form
  unfolding length_at
  length-form zero wall at = gives (form free at)
  length-form (suc k) wall at = bind (itself _) λ r e. under 10 λ h. gives (form (long r.0) r.1)

  head-form : (m : Lengths) (wall at : ℕ) → Ensures (head_at m b wall at) Form
  unfolding head_at
  head-form never wall at = gives (form free at)
  head-form optional wall at = bind (itself _) λ r e. length-form r.0 wall r.1
  head-form always wall at = length-form 1 wall at

  -- and each reading goes so
  record Some (P : Plan) (r : Room) (π : Path) (wall at : ℕ) : Type 0 where
    answer : Answer
    reads : Reads P r π wall at answer

  module _ {P : Plan} {r : Room} {π : Path} {wall at : ℕ} where
    stops : {n p : ℕ} {ρ : Path} → Refuses P r π wall at n p ρ → Some P r π wall at
    stops {n} {p} {ρ} d = record { answer = refused n p ρ; reads = d }

    goes_on_lem : {Q : Plan} {ns : Nodes} {q : ℕ} → Goes one P r wall at ns q Q → Some Q (room_less r ns) π wall q
        → Some P r π wall at
    goes_on_lem {Q} {ns} {q} f x = go x.answer x.reads
      where
        go : (o : Answer) → Reads Q (room_less r ns) π wall q o → Some P r π wall at
        go (given ms p) g = record { answer = given (ns then ms) p; reads = more f g }
        go (refused n p ρ) d = stops (later f d)

  module _ (name : ℕ) (y : Types) (f : ℕ → Plan) (P : Plan) (r : Room) (π : Path) (wall at : ℕ)
      (ih : (t : ℕ) (s : Room) (ρ : Path) (w p : ℕ) → Some (f t) s ρ w p)
      (rest : (s : Room) (p : ℕ) → Some P s π wall p) where
    abbrev This : Type 0
    This = Some (element name y f P) r π wall at

    -- inside an element, where Start and the codes' event have room
    some-inside : (x : Opens y wall at) → held x.t ≡ true → cast_slots y < r.slots → This
    some-inside x z k = let i = ih x.t (room_in x r) (name ∷ π) (wall_in x) x.past in go i.answer i.reads
      where
        end : (ns : Nodes) (q : ℕ) → Gives (f x.t) (room_in x r) (wall_in x) x.past ns q → (u : Bool) → met_at x q ≡ u
            → Dec (1 + tree_slots (cast_node x ns) < r.slots) → This
        end ns q g true e (yes l) = goes_on_lem (an_element x z g e l) (rest _ q)
        end ns q g true e (no l) = stops (no_end x z k g e (omega arith))
        end ns q g false e l = stops (unmet x z k g e)

        go : (o : Answer) → Reads (f x.t) (room_in x r) (name ∷ π) (wall_in x) x.past o → This
        go (given ns q) g = end ns q g (met_at x q) refl (dec_lt (1 + tree_slots (cast_node x ns)) r.slots)
        go (refused n p ρ) d = stops (inside x z k d)

    some-held : (x : Opens y wall at) → held x.t ≡ true → Dec (0 < r.slots) → This
    unfolding cast_slots
    some-held x z (no k) = stops (here (no_start x z (omega arith)))
    some-held x z (yes k) = go (codes y) refl (dec_lt 1 r.slots)
      where
        go : (u : Bool) → codes y ≡ u → Dec (1 < r.slots) → This
        go true e (yes l) = some-inside x z (rw e l)
        go true e (no l) = stops (no-cast x z e (omega arith))
        go false e l = some-inside x z (rw e k)

    some-opened : (x : Opens y wall at) → Dec (0 < r.slots) → This
    some-opened x k = go (held x.t) refl x.h refl k
      where
        go : (u : Bool) → held x.t ≡ u → (h : Length) → x.h ≡ h → Dec (0 < r.slots) → This
        go true z h e k = some-held x z k
        go false z free e k = stops (here (unheld x e z))
        go false z (long n) e (yes k) = goes_on_lem (a_blank n x e z k) (rest _ (x.body + n))
        go false z (long n) e (no k) = stops (here (no-blank n x e z (omega arith)))

    some-element : (c : Res Head) → head_at mode b wall at ≡ c → Ensures c Form → This
    some-element (fault n) e z = stops (here (no_head e))
    some-element (got x) e z = go x (z.says x refl) e
      where
        coded_so : (h : Length) (body : ℕ) → head_at mode b wall at ≡ got (head_of h body) → (c : Res (ℕ × ℕ × ℕ))
            → codes_at y b (stop_of h body wall) body ≡ c → This
        coded_so h body e (fault n) c = stops (no-codes h e c)
        coded_so h body e (got (t, k, p)) c =
            some-opened (record { h = h; t = t; k = k; body = body; past = p; head = e; coding = c }) (dec_lt 0 r.slots)

        go : (x : Head) → Form x → head_at mode b wall at ≡ got x → This
        go x (form h body) e = coded_so h body e (codes_at y b (stop_of h body wall) body) refl

  some : (P : Plan) (r : Room) (π : Path) (wall at : ℕ) → Some P r π wall at
  some done r π wall at = record { answer = given none at; reads = nothing }
  some deep r π wall at = stops (here too-deep)
  some (item i k) r π wall at = go (item_at i b wall at) refl (λ v s p. some (k v) s π wall p)
    where
      store : (v q : ℕ) (ts : List ℕ) → item_at i b wall at ≡ got (v, ts, q) → Dec (length ts ≤ r.bytes)
          → Dec (0 < r.slots) → ((s : Room) (p : ℕ) → Some (k v) s π wall p) → Some (item i k) r π wall at
      store v q ts e (yes h) (yes l) rest = goes_on_lem (an_item e h l) (rest _ q)
      store v q ts e (yes h) (no l) rest = stops (here (no_slot e h (omega arith)))
      store v q ts e (no h) l rest = stops (here (no_bytes e (omega arith)))

      go : (c : Res (ℕ × List ℕ × ℕ)) → item_at i b wall at ≡ c → ((v : ℕ) (s : Room) (p : ℕ) → Some (k v) s π wall p)
          → Some (item i k) r π wall at
      go (fault n) e rest = stops (here (no_item e))
      go (got (v, ts, q)) e rest = store v q ts e (dec_le (length ts) r.bytes) (dec_lt 0 r.slots) (rest v)
  some (element name y f P) r π wall at =
      some-element name y f P r π wall at (λ t s ρ w p. some (f t) s ρ w p) (λ s p. some P s π wall p)
      (head_at mode b wall at) refl (head-form mode wall at)

  pub read-reads : (P : Plan) (r : Room) (π : Path) (wall at : ℕ) → Reads P r π wall at (read b mode held P r π wall at)
  read-reads P r π wall at =
      let x = some P r π wall at in rw (reads-read P r π wall at x.answer x.reads) x.reads

  pub read-given : (P : Plan) (r : Room) (π : Path) (wall at : ℕ) (ns : Nodes) (q : ℕ)
      → read b mode held P r π wall at ≡ given ns q → Gives P r wall at ns q
  read-given P r π wall at ns q e = rw e at (read-reads P r π wall at)

  -- so of a reading holds what holds of all that is given and of all that is refused
  pub read_by : (M : Answer → Type 0) (P : Plan) (r : Room) (π : Path) (wall at : ℕ)
      → ((ns : Nodes) (q : ℕ) → Gives P r wall at ns q → M (given ns q))
      → ((n p : ℕ) (ρ : Path) → Refuses P r π wall at n p ρ → M (refused n p ρ)) → M (read b mode held P r π wall at)
  read_by M P r π wall at f g = go (read b mode held P r π wall at) (read-reads P r π wall at)
    where
      go : (o : Answer) → Reads P r π wall at o → M o
      go (given ns q) x = f ns q x
      go (refused n p ρ) x = g n p ρ x
