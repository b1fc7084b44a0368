-- Each event's words are a function of its own bits and its row; an absent attribute has no Value.
use Prim.Native.Nat.{ℕ}
use mathlib.Core.Path.{◌≡◌, refl, ap, subst}
use mathlib.Core.Bool.{Bool}
use mathlib.Core.List.{List, [], ◌∷◌}
use native.Mathlib.Omega.{arith}
use lib.ListN.{length}
use Rattle.numbers.specs.Kind as kinds
use Rattle.wire.specs.Bits.{source}
use Rattle.wire.specs.At.{At}
use Rattle.table.specs.Rows.{Attribute, Table}
use Rattle.model.specs.Model.{Item, event_of}
use Rattle.model.specs.Items.{Lengths, ItemIs}
use Rattle.model.proofs.ItemLaws.{item-reads}
use Rattle.model.proofs.PackLaws.{each-has}
use Rattle.model.specs.Write.{Bare}
use Rattle.theorems.specs.Content.{word, attributes, Model}
use Rattle.theorems.specs.Own.{SameItem}

own : (w : List ℕ) → At (source w) 0 w (length w)
own w = record { there = each-has (source w) 0 w (λ i h. ap (source w) (omega arith)); next = omega arith }

pub item-own : (i : Item) (w : List ℕ) {v v' : ℕ} {ts ts' : List ℕ} → ItemIs i v ts w → ItemIs i v' ts' w → SameItem i w v v' ts ts'
item-own i w {v} {v'} {ts} {ts'} h k =
    let a = item-reads (source w) i {wall = length w} h (own w) (omega arith) in
    let b = item-reads (source w) i {wall = length w} k (own w) (omega arith) in
    let z : ◌≡◌ {A = ℕ × List ℕ × ℕ} (v, ts, length w) (v', ts', length w) = cc in
    let e : v ≡ v' = ap (λ (r : ℕ × List ℕ × ℕ). r.0) z in
    record { values = e; texts = ap (λ (r : ℕ × List ℕ × ℕ). r.1) z; events = ap (λ (x : ℕ). event_of i x (length w)) e }

abbrev rest_of : List Bare → List Bare
rest_of [] = []
rest_of (e ∷ es) = es

abbrev head_q : List Bare → ℕ
head_q [] = 0
head_q (e ∷ es) = e.q

one≢zero : ◌≡◌ {A = ℕ} 1 0 → ⊥
one≢zero e = omega arith

no-value : {T : Table} {mode : Lengths} {held : ℕ → Bool} {d : ℕ} {a : Attribute} {l : List Attribute} {K : List Bare} {X : List ℕ} (L : List Bare)
    → Model T mode held d (attributes (a ∷ l)) K X → K ≡ word kinds.attribute a.name 0 ∷ L → Model T mode held d (attributes l) L X
no-value {T} {mode} {held} {d} {a} {l} {K} {X} L (Model.absent e m) p =
    subst (λ (y : List Bare). Model T mode held d (attributes l) y X) (ap rest_of p) m
no-value L (Model.present v m) p = absurd (one≢zero (ap head_q p))

-- an absent attribute has no Value: after its event come the events of the attributes after it, with all the texts
pub absent-no-value : {T : Table} {mode : Lengths} {held : ℕ → Bool} {d : ℕ} {a : Attribute} {l : List Attribute} {L : List Bare} {X : List ℕ}
    → Model T mode held d (attributes (a ∷ l)) (word kinds.attribute a.name 0 ∷ L) X → Model T mode held d (attributes l) L X
absent-no-value {L = L} m = no-value L m refl
