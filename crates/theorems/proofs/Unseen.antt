-- A reading never depends on bits in a Blank past its codes: two sources that differ only there have one reading.
use Prim.Native.Nat.{ℕ, ◌+◌, ◌<◌, ◌≤◌}
use mathlib.Core.Path.{◌≡◌, sym}
use mathlib.Core.Bool.{Bool, true, false}
use mathlib.Core.List.{List, [], ◌++◌}
use mathlib.Core.Logic.{◌⊎◌, inl, inr}
use native.Mathlib.Omega.{arith}
use lib.ListN.{length, length-append}
use Rattle.numbers.specs.Kind as kinds
use Rattle.wire.specs.At.{At}
use Rattle.wire.proofs.BitLaws.{at_both, at_left, at_right, at_same}
use Rattle.wire.specs.Lawful.{Binary}
use Rattle.model.specs.Model.{event, Types, Nodes, Path, Plan}
use Rattle.model.specs.Model.Plan.{element}
use Rattle.model.specs.Model.Nodes.{leaf, node}
use Rattle.model.specs.Model.Answer.{given}
use Rattle.model.specs.Items.{Lengths, HeadIs, CodesAre, Length, long, Measures}
use Rattle.model.specs.Grammar.{Bits, opens, cast_in, Is, nothing, an_item, an_element, a_blank}
use Rattle.model.specs.Read.{Room, read}
use Rattle.theorems.specs.Sound.{Found}
use Rattle.theorems.proofs.Sound.{slice, slice_at, slice-bits}
use Rattle.theorems.proofs.Complete.{is_read}
use Rattle.theorems.specs.Unseen.{Unseen}

at_from : {b : ℕ → ℕ} {at to q : ℕ} {w : List ℕ} → at ≡ to → At b at w q → At b to w q
at_from e f = rw e at f

module _ {mode : Lengths} {held : ℕ → Bool} where
  -- such a place is one of the bits
  pub unseen-within : {P : Plan} {at : ℕ} {ns : Nodes} {w : List ℕ} (d : Is mode held P at ns w) (i : ℕ) → Unseen d i → (at ≤ i) × (i < at + length w)
  unfolding Unseen
  unseen-within nothing i u = absurd u
  unseen-within (an_item {w} {x} h j) i u = let y = unseen-within j i u in omega (arith, length-append w x)
  unseen-within (an_element {s} {c} {w} {x} h d z g m j) i (inl u) =
      let y = unseen-within g i u in omega (arith, length-append s c, length-append c w, length-append s (c ++ w), length-append (s ++ (c ++ w)) x)
  unseen-within (an_element {s} {c} {w} {x} h d z g m j) i (inr u) = let y = unseen-within j i u in omega (arith, length-append (s ++ (c ++ w)) x)
  unseen-within (a_blank {s} {c} {x} w h d z b j) i (inl u) = omega (arith, length-append s c, length-append (s ++ (c ++ w)) x)
  unseen-within (a_blank {s} {c} {x} w h d z b j) i (inr u) = let y = unseen-within j i u in omega (arith, length-append (s ++ (c ++ w)) x)

module _ (mode : Lengths) (held : ℕ → Bool) where
  -- the tree by other bits that stand in c
  record Again (c : ℕ → ℕ) (P : Plan) (at : ℕ) (ns : Nodes) (q : ℕ) : Type 0 where
    bits : List ℕ
    is : Is mode held P at ns bits
    stands : At c at bits q

  -- other bits inside, as many
  element-again : {name t k at : ℕ} {y : Types} {f : ℕ → Plan} {P : Plan} {h : Length} {s c v x : List ℕ} {r : Nodes} (i : Nodes) (w : List ℕ)
      → HeadIs mode h s → CodesAre y t k c → held t ≡ true → Is mode held (f t) (at + length (s ++ c)) i v
      → Measures h (length (c ++ w)) → length w ≡ length v → Is mode held P (at + length (s ++ (c ++ w))) r x
      → Is mode held (element name y f P) at (node (opens name t h at (length s)) (cast_in y (at + length s) t k (length c) i) r) ((s ++ (c ++ v)) ++ x)
  element-again {s} {c} {v} i w hd cd z g m e j =
      let inner : length (c ++ w) ≡ length (c ++ v) = omega (arith, length-append c w, length-append c v) in
      let size : length (s ++ (c ++ w)) ≡ length (s ++ (c ++ v)) = omega (arith, length-append s (c ++ w), length-append s (c ++ v)) in
      an_element hd cd z g (rw inner at m) (rw size at j)

  blank-again : {name t k at : ℕ} {y : Types} {f : ℕ → Plan} {P : Plan} {s c x : List ℕ} {r : Nodes} (w v : List ℕ)
      → HeadIs mode (long (length (c ++ w))) s → CodesAre y t k c → held t ≡ false → Bits v → length w ≡ length v
      → Is mode held P (at + length (s ++ (c ++ w))) r x
      → Is mode held (element name y f P) at (leaf at (event kinds.blank name t (length (s ++ (c ++ w)))) [] r) ((s ++ (c ++ v)) ++ x)
  blank-again {s} {c} w v hd cd z u e j =
      let inner : length (c ++ w) ≡ length (c ++ v) = omega (arith, length-append c w, length-append c v) in
      let size : length (s ++ (c ++ w)) ≡ length (s ++ (c ++ v)) = omega (arith, length-append s (c ++ w), length-append s (c ++ v)) in
      rw size (a_blank v (rw inner at hd) cd z u (rw size at j))

  module _ (b c : ℕ → ℕ) (bit : Binary c) where
    again : {P : Plan} {at : ℕ} {ns : Nodes} {w : List ℕ} (d : Is mode held P at ns w) (q : ℕ) → At b at w q
        → ((i : ℕ) → at ≤ i → i < q → (Unseen d i → ⊥) → c i ≡ b i) → Again c P at ns q
    unfolding Unseen
    again nothing q f s = record { bits = []; is = nothing; stands = record { there = tt; next = f.next } }
    again (an_item {w} {x} h j) q f s =
        let l = length-append w x in
        let e = f.next in
        let head = at_same (λ i a d. s i a (omega arith) (λ z. let y = unseen-within j i z in omega arith)) (at_left w x f) in
        let r = again j q (at_right w x f) (λ i a d n. s i (omega arith) d n) in
        record { bits = w ++ r.bits; is = an_item h r.is; stands = at_both head r.stands }
    again {at} (an_element {s = o} {c = k} {w} {x} {i} hd cd z g m j) q f s =
        let n = length-append k w in
        let n' = length-append o k in
        let n'' = length-append o (k ++ w) in
        let l = length-append (o ++ (k ++ w)) x in
        let e = f.next in
        let d = at_left (o ++ (k ++ w)) x f in
        let mid : ℕ = at + length (o ++ (k ++ w)) in
        let kw = at_right o (k ++ w) d in
        let to : at + length o + length k ≡ at + length (o ++ k) = omega arith in
        let inner = at_from to (at_right k w kw) in
        let outer = at_right (o ++ (k ++ w)) x f in
        let before : (i : ℕ) → i < at + length (o ++ k) → (Unseen g i ⊎ Unseen j i) → ⊥ = λ i a. elim [
          | inl u ↦ let t = unseen-within g i u in omega arith
          | inr u ↦ let t = unseen-within j i u in omega arith
        ] in
        let head = at_same (λ i a u. s i a (omega arith) (before i (omega arith))) (at_left o (k ++ w) d) in
        let codes = at_same (λ i a u. s i (omega arith) (omega arith) (before i (omega arith))) (at_left k w kw) in
        let ins = again g mid inner (λ i a u p. s i (omega arith) (omega arith) (elim [ inl v ↦ p v | inr v ↦ (let t = unseen-within j i v in omega arith) ])) in
        let out = again j q outer (λ i a u p. s i (omega arith) u (elim [ inl v ↦ (let t = unseen-within g i v in omega arith) | inr v ↦ p v ])) in
        let long = ins.stands.next in
        record {
          bits = (o ++ (k ++ ins.bits)) ++ out.bits;
          is = element-again i w hd cd z ins.is m (omega arith) out.is;
          stands = at_both (at_both head (at_both codes (at_from (sym to) ins.stands))) out.stands;
        }
    again {at} (a_blank {s = o} {c = k} {x} w hd cd z b j) q f s =
        let n = length-append k w in
        let n' = length-append o k in
        let n'' = length-append o (k ++ w) in
        let l = length-append (o ++ (k ++ w)) x in
        let e = f.next in
        let d = at_left (o ++ (k ++ w)) x f in
        let kw = at_right o (k ++ w) d in
        let outer = at_right (o ++ (k ++ w)) x f in
        let before : (i : ℕ) → i < at + length (o ++ k) → (((at + length (o ++ k) ≤ i) × (i < at + length (o ++ (k ++ w)))) ⊎ Unseen j i) → ⊥ = λ i a. elim [
          | inl u ↦ omega arith
          | inr u ↦ let t = unseen-within j i u in omega arith
        ] in
        let head = at_same (λ i a u. s i a (omega arith) (before i (omega arith))) (at_left o (k ++ w) d) in
        let codes = at_same (λ i a u. s i (omega arith) (omega arith) (before i (omega arith))) (at_left k w kw) in
        let out = again j q outer (λ i a u p. s i (omega arith) u (elim [ inl v ↦ omega arith | inr v ↦ p v ])) in
        let from = at + length o + length k in
        let body = slice c from (length w) in
        let st = slice_at c from (length w) in
        let long = st.next in
        let mid : from + length w ≡ at + length (o ++ (k ++ w)) = omega arith in
        record {
          bits = (o ++ (k ++ body)) ++ out.bits;
          is = blank-again w body hd cd z (slice-bits c bit from (length w)) (omega arith) out.is;
          stands = at_both (at_both head (at_both codes (rw mid at st))) out.stands;
        }

    -- two sources that differ only there: what is found in the one is read of the other
    pub blank-unseen : (P : Plan) (r : Room) (π : Path) (wall at : ℕ) (ns : Nodes) (q : ℕ) (f : Found b (Is mode held P at) r wall at ns q)
        → ((i : ℕ) → at ≤ i → i < q → (Unseen f.is i → ⊥) → c i ≡ b i) → read c mode held P r π wall at ≡ given ns q
    blank-unseen P r π wall at ns q f same =
        let g = again f.is q f.stands same in
        is_read c mode held g.is r π wall q g.stands f.within f.slots f.bytes
