-- READER SOUND (`read_is`): what is read is so by the grammar, stands there, and is within the wall and the room; a refusal's place is
-- within the wall, and its path goes on from the path.
use Prim.Native.Nat.{ℕ, zero, suc, ◌+◌, ◌-◌, ◌≤◌}
use mathlib.Core.Path.{◌≡◌, refl, sym, ap, subst, ◌∙◌}
use mathlib.Core.Bool.{Bool, true, false}
use mathlib.Core.List.{List, [], ◌∷◌, ◌++◌, append_assoc}
use native.Mathlib.Omega.{arith}
use borrow.Author.Tests.{eqb-true}
use lib.ListN.{length, length-append}
use Rattle.wire.specs.Res.{got}
use Rattle.wire.specs.At.{At}
use Rattle.wire.proofs.BitLaws.{at_none, at_both}
use Rattle.wire.specs.Lawful.{Binary}
use Rattle.model.specs.Model.{event, Types, Plan, Nodes, Path, ◌then◌}
use Rattle.model.specs.Model.Plan.{done, element}
use Rattle.model.specs.Model.Nodes.{none, leaf, node}
use Rattle.model.specs.Model.Answer.{given}
use Rattle.model.specs.Items.{Lengths, Length, free, long, coded, Measures, HeadIs, CodesAre, head_at}
use Rattle.model.proofs.ItemLaws.{FoundHead, FoundCodes, head_of, stop_of, item-found, head-found, codes-found}
use Rattle.model.specs.Grammar as grammar
use Rattle.model.specs.Grammar.{Bits, cast_in, Is}
use Rattle.model.specs.Read.{Room, mark, met, read}
use Rattle.model.proofs.Readings.{Extent, one, all, Opens, wall_in, cast_node, mark_in, met_at, Goes, an_item, an_element, a_blank, nothing, more, Refuses, here, no-codes, no-cast, inside, unmet, no_end, later, read_by}
use Rattle.model.proofs.Fit.{goes-fits}
use Rattle.theorems.specs.Sound.{Extends, Found, Finds}

pub extends-same : (π : Path) → Extends π π
extends-same π = record { more = []; is = refl }

pub extends-outer : (n : ℕ) (π ρ : Path) → Extends (n ∷ π) ρ → Extends π ρ
extends-outer n π ρ x = record { more = x.more ++ (n ∷ []); is = x.is ∙ sym (append_assoc x.more (n ∷ []) π) }

-- the n bits from at
pub slice : (ℕ → ℕ) → ℕ → ℕ → List ℕ
slice b at zero = []
slice b at (suc n) = b at ∷ slice b (at + 1) n

pub slice_at : (b : ℕ → ℕ) (at n : ℕ) → At b at (slice b at n) (at + n)
unfolding slice
slice_at b at zero = record { there = tt; next = omega arith }
slice_at b at (suc n) =
    let r = slice_at b (at + 1) n in let e = r.next in record { there = (refl, r.there); next = omega arith }

pub slice-bits : (b : ℕ → ℕ) → Binary b → (at n : ℕ) → Bits (slice b at n)
unfolding slice
slice-bits b bit at zero = tt
slice-bits b bit at (suc n) = (bit at, slice-bits b bit (at + 1) n)

module _ (b : ℕ → ℕ) (mode : Lengths) (held : ℕ → Bool) (bit : Binary b) where
  -- the first part of P, after which Q is left; or all of P
  abbrev pub Shape : Extent → Plan → Plan → ℕ → Nodes → List ℕ → Type 0
  Shape one P Q at ns w =
      (ms : Nodes) (x : List ℕ) → Is mode held Q (at + length w) ms x → Is mode held P at (ns then ms) (w ++ x)
  Shape all P Q at ns w = Is mode held P at ns w

  -- a head and its length
  pub record Headed (h : Length) (wall at body : ℕ) : Type 0 where
    pub found : FoundHead b mode h wall at body
    pub low : body ≤ stop_of h body wall
    pub high : stop_of h body wall ≤ wall

  pub headed : (h : Length) {wall at body : ℕ} → at ≤ wall → head_at mode b wall at ≡ got (head_of h body) → Headed h wall at body
  headed free {wall} {at} a e =
      let f = (head-found b bit mode wall at).says _ e in record { found = f; low = f.within a; high = omega arith }
  headed (long n) {wall} {at} {body} a e =
      let f = (head-found b bit mode wall at).says _ e in
      let z : body + n - body ≡ n = omega arith in
      record { found = rw z at f.0; low = f.1; high = f.2 }

  -- the codes behind it
  pub coding : {y : Types} {wall at : ℕ} (x : Opens b mode held y wall at)
      → FoundCodes b y (stop_of x.h x.body wall) x.body x.t x.k x.past
  coding {y} {wall} x = (codes-found b bit y (stop_of x.h x.body wall) x.body).says _ x.coding

  measures : (h : Length) {body q : ℕ} {w : List ℕ} (wall : ℕ) → met (coded h) q (stop_of h body wall) ≡ true
      → At b body w q → Measures h (length w)
  unfolding met
  measures free wall e f = tt
  measures (long n) {body} {q} wall e f = let g = eqb-true q (body + n) e in omega (arith, f.next)

  pub record Standing (x : Extent) (P Q : Plan) (wall at : ℕ) (ns : Nodes) (q : ℕ) : Type 0 where
    pub bits : List ℕ
    pub is : Shape x P Q at ns bits
    pub stands : At b at bits q
    pub within : q ≤ wall

  -- an element, a Blank, by their bits
  element-built : {name t k at body past : ℕ} {y : Types} {f : ℕ → Plan} {P : Plan} {h : Length} {s c w : List ℕ} {ns : Nodes}
      → body ≡ at + length s → past ≡ body + length c → HeadIs mode h s → CodesAre y t k c → held t ≡ true
      → Is mode held (f t) past ns w → Measures h (length (c ++ w))
      → Shape one (element name y f P) P at (node (mark name t (coded h) at body) (cast_in y body t k (past - body) ns) none) (s ++ (c ++ w))
  unfolding ◌then◌
  element-built {at} {body} {past} {s} {c} e g o d z i m ms x j =
      let u : past ≡ at + length (s ++ c) = omega (arith, length-append s c) in
      let v : body - at ≡ length s = omega arith in
      let n : past - body ≡ length c = omega arith in
      rw (v, n, e) (grammar.an_element o d z (rw u at i) m j)

  blank-built : {name t k at body n : ℕ} {y : Types} {f : ℕ → Plan} {P : Plan} {s c : List ℕ} (w : List ℕ)
      → body ≡ at + length s → n ≡ length (c ++ w) → HeadIs mode (long n) s → CodesAre y t k c → held t ≡ false → Bits w
      → Shape one (element name y f P) P at (leaf at (event 7 name t (body + n - at)) [] none) (s ++ (c ++ w))
  unfolding ◌then◌
  blank-built {at} {body} {n} {s} {c} w e i o d z u ms x j =
      let m : body + n - at ≡ length (s ++ (c ++ w)) = omega (arith, length-append s (c ++ w)) in
      rw m (grammar.a_blank w (rw i at o) d z u j)

  element-stands : {name : ℕ} {y : Types} {f : ℕ → Plan} {P : Plan} {wall at q : ℕ} {ns : Nodes} (x : Opens b mode held y wall at)
      → at ≤ wall → held x.t ≡ true → met_at b mode held x q ≡ true
      → Standing all (f x.t) done (wall_in b mode held x) x.past ns q
      → Standing one (element name y f P) P wall at (node (mark_in b mode held x name) (cast_node b mode held x ns) none) q
  unfolding ◌then◌
  element-stands {wall} {at} x a z e i =
      let o = headed x.h a x.head in
      let d = coding x in
      let w = at_both d.stands i.stands in
      record {
        bits = o.found.bits ++ (d.bits ++ i.bits);
        is = element-built (omega (arith, o.found.stands.next)) (omega (arith, d.stands.next)) o.found.is d.is z i.is (measures x.h wall e w);
        stands = at_both o.found.stands w;
        within = omega (arith, o.high, i.within);
      }

  blank_stands : {name : ℕ} {y : Types} {f : ℕ → Plan} {P : Plan} {wall at : ℕ} (n : ℕ) (x : Opens b mode held y wall at)
      → at ≤ wall → x.h ≡ long n → held x.t ≡ false
      → Standing one (element name y f P) P wall at (leaf at (event 7 name x.t (x.body + n - at)) [] none) (x.body + n)
  unfolding ◌then◌
  blank_stands {wall} {at} n x a h z =
      let o = headed x.h a x.head in
      let d = coding x in
      let e : stop_of x.h x.body wall ≡ x.body + n = ap (λ (h : Length). stop_of h x.body wall) h in
      let most = d.within in
      let left : ℕ = x.body + n - x.past in
      let s = slice_at b x.past left in
      let w : List ℕ = slice b x.past left in
      let to : x.past + left ≡ x.body + n = omega arith in
      let cw = at_both d.stands (rw to at s) in
      let all = at_both o.found.stands cw in
      let head_is = subst (λ (k : Length). HeadIs mode k o.found.bits) h o.found.is in
      record {
        bits = o.found.bits ++ (d.bits ++ w);
        is = blank-built w (omega (arith, o.found.stands.next)) (omega (arith, cw.next)) head_is d.is z (slice-bits b bit x.past left);
        stands = all;
        within = omega (arith, o.high);
      }

  both-stand : {P Q : Plan} {wall at q p : ℕ} {ns ms : Nodes} → Standing one P Q wall at ns q
      → Standing all Q done wall q ms p → Standing all P done wall at (ns then ms) p
  both-stand {ms} i j =
      record { bits = i.bits ++ j.bits; is = i.is ms j.bits (rw i.stands.next at j.is); stands = at_both i.stands j.stands; within = j.within }

  pub goes-stands : {x : Extent} {P Q : Plan} {r : Room} {wall at q : ℕ} {ns : Nodes}
      → Goes b mode held x P r wall at ns q Q → at ≤ wall → Standing x P Q wall at ns q
  unfolding ◌then◌
  goes-stands {wall} {at} (an_item {i} {v} {q} {ts} e h k) a =
      let f = (item-found b bit i wall at).says (v, ts, q) e in
      let z : q - at ≡ length f.bits = omega (arith, f.stands.next) in
      record { bits = f.bits; is = λ ms x j. rw z (grammar.an_item f.is j); stands = f.stands; within = f.within a }
  goes-stands (an_element x z g e l) a = element-stands x a z e (goes-stands g (coding x).within)
  goes-stands (a_blank n x e z k) a = blank_stands n x a e z
  goes-stands nothing a = record { bits = []; is = grammar.nothing; stands = at_none; within = a }
  goes-stands (more f g) a = let i = goes-stands f a in both-stand i (goes-stands g i.within)

  pub refuses-within : {P : Plan} {r : Room} {π ρ : Path} {wall at n p : ℕ} → Refuses b mode held P r π wall at n p ρ
      → at ≤ wall → Extends π ρ × (at ≤ p) × (p ≤ wall)
  refuses-within {π} (here x) a = (extends-same π, omega arith, a)
  refuses-within {π} (no-codes h e c) a =
      let o = headed h a e in (extends-same π, omega (arith, o.found.stands.next), omega (arith, o.low, o.high))
  refuses-within {π} (no-cast {name} x z c s) a =
      let o = headed x.h a x.head in
      (extends-outer name π _ (extends-same _), omega (arith, o.found.stands.next), omega (arith, o.low, o.high))
  refuses-within {π} {ρ} (inside {name} x z s d) a =
      let o = headed x.h a x.head in
      let c = coding x in
      let i = refuses-within d c.within in
      (extends-outer name π ρ i.0, omega (arith, o.found.stands.next, c.stands.next), omega (arith, o.high))
  refuses-within {π} (unmet {name} x z s g e) a =
      let o = headed x.h a x.head in
      (extends-outer name π _ (extends-same _), omega (arith, o.found.stands.next), omega (arith, o.low, o.high))
  refuses-within {π} (no_end {name} x z s g e k) a =
      let o = headed x.h a x.head in
      let c = coding x in
      let i = goes-stands g c.within in
      (extends-outer name π _ (extends-same _), omega (arith, o.found.stands.next, c.stands.next, i.stands.next), omega (arith, o.high, i.within))
  refuses-within (later f d) a =
      let i = goes-stands f a in
      let j = refuses-within d i.within in
      (j.0, omega (arith, i.stands.next), j.2)

module _ (b : ℕ → ℕ) (mode : Lengths) (held : ℕ → Bool) where
  pub read_is : Binary b → (P : Plan) (r : Room) (π : Path) (wall at : ℕ) → at ≤ wall
      → Finds b (Is mode held P at) r π wall at (read b mode held P r π wall at)
  read_is bit P r π wall at a =
      read_by b mode held (Finds b (Is mode held P at) r π wall at) P r π wall at
      (λ ns q g.
      let i = goes-stands b mode held bit g a in
      let f = goes-fits b mode held g in
      record { bits = i.bits; is = i.is; stands = i.stands; within = i.within; slots = f.0; bytes = f.1 })
      (λ n p ρ d. refuses-within b mode held bit d a)

  -- what was given, found
  pub read_found : Binary b → (P : Plan) (r : Room) (π : Path) (wall at : ℕ) (ns : Nodes) (q : ℕ) → at ≤ wall
      → read b mode held P r π wall at ≡ given ns q → Found b (Is mode held P at) r wall at ns q
  read_found bit P r π wall at ns q a e = rw e at (read_is bit P r π wall at a)
