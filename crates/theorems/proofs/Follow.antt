-- Demand 3, second half, along the reading: where the first gives a tree, the second comes to the same place or has an excuse.
use Prim.Native.Nat.{ℕ, ◌+◌, ◌-◌, ◌≤◌}
use mathlib.Core.Path.{◌≡◌, refl, sym, ap, subst, ◌∙◌}
use mathlib.Core.List.{List, [], ◌∷◌, ◌++◌, reverse, reverse-cons, reverse-append}
use mathlib.Core.Bool.{Bool, true, false, cond}
use native.Mathlib.Omega.{arith}
use borrow.Author.Tests.{eqb-true}
use Rattle.numbers.specs.Kind as kinds
use Rattle.wire.specs.Res.{Res, got, fault}
use Rattle.wire.specs.At.{At}
use Rattle.wire.specs.Lawful.{Binary}
use Rattle.model.specs.Model.{event, Types, codes, Plan, Nodes, Path, Answer, tree_slots, tree_bytes, ◌then◌}
use Rattle.model.specs.Model.Plan.{done, element}
use Rattle.model.specs.Model.Nodes.{none, leaf, node}
use Rattle.model.specs.Model.Answer.{given, refused}
use Rattle.model.specs.Items.{Lengths, Length, free, long, coded, Head, head_at, codes_at}
use Rattle.model.proofs.ItemLaws.{head_of, stop_of}
use Rattle.model.specs.Grammar.{cast_in, Is}
use Rattle.model.specs.Read.{Room, met, read}
use Rattle.model.proofs.Readings as reads
use Rattle.model.proofs.Readings.{Extent, one, all, Opens, wall_in, met_at, Goes, an_item, an_element, a_blank, nothing, more, Stop, no_item, no_head, unheld, no_start, no-blank, Refuses, here, no-codes, no-cast, inside, unmet, no_end, later, read-given, read_by}
use Rattle.theorems.specs.Sound.{Extends}
use Rattle.theorems.proofs.Sound.{extends-same, headed, coding, goes-stands, refuses-within}
use Rattle.theorems.proofs.Complete.{is_read}
use Rattle.theorems.specs.Less.{newly}
use Rattle.theorems.specs.Open as open'
use Rattle.theorems.specs.Open.{Begins, StillOpen, Excuse, no_slot, no_bytes, still_open}

-- the reading's paths have the innermost element first
begins : (n : ℕ) (π ρ : Path) → Extends (n ∷ π) ρ → Begins (reverse π ++ (n ∷ [])) (reverse ρ)
begins n π ρ x =
    record { more = reverse x.more; is = ap reverse x.is ∙ reverse-append x.more (n ∷ π) ∙ rw (reverse-cons n π) }

-- the first gave ms, up to q; this is what the second answers
abbrev pub Follows : (ℕ → Bool) → Path → Nodes → ℕ → Answer → Type 0
Follows new π ms q (given ns p) = p ≡ q
Follows new π ms q (refused n p ρ) = Excuse new (reverse π) ms n p (reverse ρ)

excuse-by : {new : ℕ → Bool} {π π' ρ : Path} {ns ms : Nodes} {n p : ℕ}
    → (StillOpen new p ρ π ns → StillOpen new p ρ π' ms) → Excuse new π ns n p ρ → Excuse new π' ms n p ρ
excuse-by f (no_slot e) = no_slot e
excuse-by f (no_bytes e) = no_bytes e
excuse-by f (still_open x) = still_open (f x)

open-right : {new : ℕ → Bool} {p : ℕ} {ρ π : Path} (ns : Nodes) {ms : Nodes} → StillOpen new p ρ π ms
    → StillOpen new p ρ π (ns then ms)
unfolding ◌then◌
open-right none x = x
open-right (leaf at e ts r) x = open'.past (open-right r x)
open-right (node m i r) x = open'.beyond (open-right r x)

-- the codes' event is no element
open-cast : {new : ℕ → Bool} {p : ℕ} {ρ π : Path} (y : Types) (at t k n : ℕ) (ns : Nodes) → StillOpen new p ρ π ns → StillOpen new p ρ π (cast_in y at t k n ns)
unfolding cast_in
open-cast {new} {p} {ρ} {π} y at t k n ns x = go (codes y)
  where
    go : (u : Bool) → StillOpen new p ρ π (cond u (leaf at (event kinds.cast t k n) [] ns) ns)
    go true = open'.past x
    go false = x

-- one item, one head was read
item-one : {c : Res (ℕ × List ℕ × ℕ)} {v u q p : ℕ} {ts us : List ℕ} → c ≡ got (v, ts, q) → c ≡ got (u, us, p)
    → (u ≡ v) × (p ≡ q)
item-one {v} {u} {q} {p} {ts} {us} e f =
    let z : ◌≡◌ {A = ℕ × List ℕ × ℕ} (u, us, p) (v, ts, q) = cc in (ap (λ r. r.0) z, ap (λ r. r.2) z)

head-one : (h k : Length) {c : Res Head} {p q : ℕ} → c ≡ got (head_of h p) → c ≡ got (head_of k q) → (k ≡ h) × (q ≡ p)
head-one free free e f = (refl, cc)
head-one free (long n) e f = absurd (let z : ◌≡◌ {A = ℕ} 0 1 = cc in omega arith)
head-one (long n) free e f = absurd (let z : ◌≡◌ {A = ℕ} 0 1 = cc in omega arith)
head-one (long n) (long m) {p = p} {q = q} e f =
    let x : q ≡ p = cc in
    let y : q + m ≡ p + n = cc in
    let z : m ≡ n = omega arith in
    (ap long z, x)

-- one head with its codes, whatever is held
record One {b : ℕ → ℕ} {mode : Lengths} {held held' : ℕ → Bool} {y : Types} {wall at : ℕ} (x : Opens b mode held y wall at) (u : Opens b mode held' y wall at) : Type 0 where
  length-is : u.h ≡ x.h
  body_is : u.body ≡ x.body
  wall_is : wall_in b mode held' u ≡ wall_in b mode held x
  type_is : u.t ≡ x.t
  past_is : u.past ≡ x.past

opens_one : {b : ℕ → ℕ} {mode : Lengths} {held held' : ℕ → Bool} {y : Types} {wall at : ℕ} (x : Opens b mode held y wall at) (u : Opens b mode held' y wall at) → One x u
opens_one {b} {y} {wall} x u =
    let z = head-one x.h u.h x.head u.head in
    let d = subst (λ (h : Length). codes_at y b (stop_of h u.body wall) u.body ≡ got (u.t, u.k, u.past)) z.0 u.coding in
    let e = subst (λ (p : ℕ). codes_at y b (stop_of x.h p wall) p ≡ got (u.t, u.k, u.past)) z.1 d in
    let c : ◌≡◌ {A = ℕ × ℕ × ℕ} (u.t, u.k, u.past) (x.t, x.k, x.past) = cc (x.coding, e) in
    record {
      length-is = z.0;
      body_is = z.1;
      wall_is = ap (λ (h : Length). stop_of h u.body wall) z.0 ∙ ap (λ (p : ℕ). stop_of x.h p wall) z.1;
      type_is = ap (λ (r : ℕ × ℕ × ℕ). r.0) c;
      past_is = ap (λ (r : ℕ × ℕ × ℕ). r.2) c;
    }

never : {A : Type 0} {t : Bool} → t ≡ true → t ≡ false → A
never e f = absurd (let z : ◌≡◌ {A = ℕ} 0 1 = cc in omega arith)

-- where nothing is due nothing comes and nothing stops
no-first : {b : ℕ → ℕ} {mode : Lengths} {held : ℕ → Bool} {Q : Plan} {r : Room} {wall at q : ℕ} {ns : Nodes}
    → Goes b mode held one done r wall at ns q Q → ⊥
no-first = elim [ ]

no_stop : {b : ℕ → ℕ} {mode : Lengths} {held : ℕ → Bool} {r : Room} {wall at n : ℕ} → Stop b mode held r wall at done n → ⊥
no_stop = elim [ ]

module _ (b : ℕ → ℕ) (bit : Binary b) (mode : Lengths) (held held' : ℕ → Bool) (sub : (t : ℕ) → held t ≡ true → held' t ≡ true) where
  abbrev new : ℕ → Bool
  new t = newly held held' t

  new_is : (t : ℕ) → held t ≡ false → held' t ≡ true → new t ≡ true
  unfolding newly
  new_is t z y = rw (z, y)

  -- within a Blank of the first
  blank-open : (name t at body n p : ℕ) (π ρ : Path) {ms : Nodes} {i : ℕ} → new t ≡ true → Extends (name ∷ π) ρ → at ≤ p
      → p ≤ body + n
      → Excuse new (reverse π) (leaf at (event 7 name t (body + n - at)) [] ms) i p (reverse ρ)
  blank-open name t at body n p π ρ y x l u =
      let v : p ≤ at + (body + n - at) = omega arith in still_open (open'.here refl y (begins name π ρ x) l v)

  goes_so : {P P' Q : Plan} {r : Room} {wall wall' at at' q : ℕ} {ns : Nodes} → P ≡ P' → wall ≡ wall' → at ≡ at'
      → Goes b mode held' all P r wall at ns q Q → Goes b mode held' all P' r wall' at' ns q Q
  goes_so e f g h = rw (e, f, g) at h

  refuses-so : {P P' : Plan} {r : Room} {π ρ : Path} {wall wall' at at' n p : ℕ} → P ≡ P' → wall ≡ wall' → at ≡ at'
      → Refuses b mode held' P r π wall at n p ρ → Refuses b mode held' P' r π wall' at' n p ρ
  refuses-so e f g h = rw (e, f, g) at h

  -- an element with a length ends where it says
  met-long : {y : Types} {wall at q n : ℕ} (x : Opens b mode held' y wall at) → x.h ≡ long n → met_at b mode held' x q ≡ true → q ≡ x.body + n
  unfolding met
  met-long {wall} {q} {n} x h m = eqb-true q (x.body + n) (subst (λ (k : Length). met (coded k) q (stop_of k x.body wall) ≡ true) h m)

  long-one : {n m : ℕ} → long m ≡ long n → m ≡ n
  long-one e = cc

  -- what the second gives ends where the first's does
  ends-follow : {x : Extent} {P Q R : Plan} {r s : Room} {wall at q p : ℕ} {ms ns : Nodes}
      → Goes b mode held x P r wall at ms q Q → Goes b mode held' x P s wall at ns p R → (p ≡ q) × (R ≡ Q)
  unfolding met
  ends-follow (an_item {k} e h l) (an_item e' h' l') = let z = item-one e e' in (z.1, ap k z.0)
  ends-follow (an_element {f} x z g m l) (an_element y z' g' m' l') =
      let o = opens_one x y in ((ends-follow g (goes_so (ap f o.type_is) o.wall_is o.past_is g')).0, refl)
  ends-follow (an_element x z g m l) (a_blank n y h' z' k') =
      let o = opens_one x y in never (sub x.t z) (ap held' (sym o.type_is) ∙ z')
  ends-follow {p} (a_blank n x h z k) (an_element y z' g' m' l') =
      let o = opens_one x y in
      (met-long y (o.length-is ∙ h) m' ∙ ap (λ (i : ℕ). i + n) o.body_is, refl)
  ends-follow (a_blank n x h z k) (a_blank n' y h' z' k') =
      let o = opens_one x y in
      let e : n' ≡ n = long-one (sym h' ∙ o.length-is ∙ h) in
      (omega (arith, o.body_is), refl)
  ends-follow nothing nothing = (refl, refl)
  ends-follow nothing (more f g) = absurd (no-first f)
  ends-follow (more f g) nothing = absurd (no-first f)
  ends-follow (more f g) (more f' g') = let i = ends-follow f f' in ((ends-follow g (rw (i.0, i.1) at g')).0, refl)

  opens_of : {name : ℕ} {y : Types} {f : ℕ → Plan} {P Q : Plan} {r : Room} {wall at q : ℕ} {ms : Nodes}
      → Goes b mode held one (element name y f P) r wall at ms q Q → Opens b mode held y wall at
  opens_of (an_element x z g m l) = x
  opens_of (a_blank n x h z k) = x

  -- where the first goes on, the second stops for lack of room only
  stop-excused : {P Q : Plan} {r s : Room} {π ρ : Path} {wall at q n p : ℕ} {ms ks : Nodes}
      → Goes b mode held one P r wall at ms q Q → Stop b mode held' s wall at P n → Excuse new π ks n p ρ
  stop-excused (an_item e h k) (no_item e') = absurd (let z : ◌≡◌ {A = ℕ} 0 1 = cc in omega arith)
  stop-excused (an_item e h k) (reads.no_bytes e' h') = no_bytes refl
  stop-excused (an_item e h k) (reads.no_slot e' h' k') = no_slot refl
  stop-excused (an_element x z i m l) (no_head e') = absurd (let y : ◌≡◌ {A = ℕ} 0 1 = cc x.head in omega arith)
  stop-excused (an_element x z i m l) (unheld y h' z') =
      let o = opens_one x y in never (sub x.t z) (ap held' (sym o.type_is) ∙ z')
  stop-excused (a_blank n x h z k) (no_head e') = absurd (let y : ◌≡◌ {A = ℕ} 0 1 = cc x.head in omega arith)
  stop-excused (a_blank n x h z k) (unheld y h' z') =
      let o = opens_one x y in absurd (let u : ◌≡◌ {A = ℕ} 0 1 = cc (h, h', o.length-is) in omega arith)
  stop-excused (an_element x z i m l) (no_start y z' k) = no_slot refl
  stop-excused (an_element x z i m l) (no-blank n y h' z' k) = no_slot refl
  stop-excused (a_blank n x h z k) (no_start y z' k') = no_slot refl
  stop-excused (a_blank n x h z k) (no-blank n' y h' z' k') = no_slot refl

  -- and it reads the same codes
  codes-excused : {name : ℕ} {y : Types} {f : ℕ → Plan} {P Q : Plan} {r : Room} {wall at q n : ℕ} {ms : Nodes} {A : Type 0} (h : Length) (body : ℕ)
      → Goes b mode held one (element name y f P) r wall at ms q Q → head_at mode b wall at ≡ got (head_of h body) → codes_at y b (stop_of h body wall) body ≡ fault n → A
  codes-excused {y} {wall} {n} h body g e c =
      let x = opens_of g in
      let z = head-one x.h h x.head e in
      let d = subst (λ (k : Length). codes_at y b (stop_of k body wall) body ≡ fault n) z.0 c in
      let u = subst (λ (p : ℕ). codes_at y b (stop_of x.h p wall) p ≡ fault n) z.1 d in
      absurd (let v : ◌≡◌ {A = ℕ} 0 1 = cc (x.coding, u) in omega arith)

  met-one : {y : Types} {wall at q p : ℕ} (x : Opens b mode held y wall at) (u : Opens b mode held' y wall at) → One x u → p ≡ q → met_at b mode held' u p ≡ false → met_at b mode held x q ≡ false
  met-one {wall} {q} {p} x u o e m =
      let d = subst (λ (k : Length). met (coded k) p (stop_of k u.body wall) ≡ false) o.length-is m in
      let c = subst (λ (i : ℕ). met (coded x.h) p (stop_of x.h i wall) ≡ false) o.body_is d in
      subst (λ (i : ℕ). met (coded x.h) i (stop_of x.h x.body wall) ≡ false) e c

  -- what the second refuses
  excused : {P : Plan} {r s : Room} {π ρ : Path} {wall at q n p : ℕ} {ms : Nodes}
      → Goes b mode held all P r wall at ms q done → Refuses b mode held' P s π wall at n p ρ → at ≤ wall
      → Excuse new (reverse π) ms n p (reverse ρ)
  unfolding ◌then◌
  excused nothing (here x) a = absurd (no_stop x)
  excused nothing (later f d) a = absurd (no-first f)
  excused (more f g) (here x) a = stop-excused f x
  excused (more {ns} f g) (later f' d) a =
      let z = ends-follow f f' in excuse-by (open-right ns) (excused g (rw (z.0, z.1) at d) (goes-stands b mode held bit f a).within)
  excused (more f g) (no_end y z s i m l) a = no_slot refl
  excused (more f g) (no-cast y z c s) a = no_slot refl
  excused (more f g) (no-codes {body} h e c) a = codes-excused h body f e c
  excused {π} (more (an_element {name} {y = types} {f} {ns} x z i m l) g) (inside y z' s d) a =
      let o = opens_one x y in
      excuse-by (λ u. open'.inside (open-cast types x.body x.t x.k (x.past - x.body) ns u))
      (rw (reverse-cons name π) at (excused i (refuses-so (ap f o.type_is) o.wall_is o.past_is d) (coding b mode held bit x).within))
  excused (more (an_element {f} x z i m l) g) (unmet {q} y z' s i' m') a =
      let o = opens_one x y in
      let e = (ends-follow i (goes_so (ap f o.type_is) o.wall_is o.past_is i')).0 in
      never m (met-one x y o e m')
  excused {π} {ρ} {wall} {at} {p} (more (a_blank {name} n x h z k) g) (inside y z' s d) a =
      let o = opens_one x y in
      let u = headed b mode held bit x.h a x.head in
      let c = coding b mode held bit x in
      let v = headed b mode held' bit y.h a y.head in
      let w = refuses-within b mode held' bit d (coding b mode held' bit y).within in
      let e : wall_in b mode held' y ≡ x.body + n = o.wall_is ∙ ap (λ (k : Length). stop_of k x.body wall) h in
      blank-open name x.t at x.body n p π ρ (new_is x.t z (ap held' (sym o.type_is) ∙ z')) w.0
      (omega (arith, u.found.stands.next, c.stands.next, o.past_is)) (omega (arith, e))
  excused {π} {at} (more (a_blank {name} n x h z k) g) (unmet y z' s i' m') a =
      let o = opens_one x y in
      let u = headed b mode held bit x.h a x.head in
      blank-open name x.t at x.body n y.body π _ (new_is x.t z (ap held' (sym o.type_is) ∙ z')) (extends-same _)
      (omega (arith, u.found.stands.next, o.body_is)) (omega (arith, o.body_is))

  pub is-followed : {P : Plan} {at : ℕ} {ms : Nodes} {w : List ℕ} → Is mode held P at ms w
      → (s : Room) (π : Path) (wall q : ℕ) → At b at w q → q ≤ wall
      → Follows new π ms q (read b mode held' P s π wall at)
  is-followed {P} {at} {ms} j s π wall q f k =
      let r : Room = record { slots = tree_slots ms; bytes = tree_bytes ms } in
      let g = read-given b mode held P r [] wall at ms q (is_read b mode held j r [] wall q f k (omega arith) (omega arith)) in
      read_by b mode held' (Follows new π ms q) P s π wall at (λ ns p i. (ends-follow g i).0) (λ n p ρ d. excused g d (omega (arith, f.next)))
