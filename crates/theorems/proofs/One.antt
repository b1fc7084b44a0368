-- UNAMBIGUOUS and EXTENSION: no bits have two readings by the grammar, whatever number of rows each needs; and an accepted reading stays the
-- same where other bits follow, the wall lies farther, there is more room, or the path is another.
use Prim.Native.Nat.{ℕ, zero, suc, ◌+◌, ◌<◌, ◌≤◌, max}
use mathlib.Core.Path.{◌≡◌, refl, sym, ap₂, ◌∙◌}
use mathlib.Core.Bool.{Bool, true, false}
use mathlib.Core.List.{List, [], ◌∷◌}
use native.Mathlib.Omega.{arith}
use lib.ListN.{length}
use Rattle.wire.specs.Bits.{Has}
use Rattle.wire.specs.At.{At}
use Rattle.wire.proofs.BitLaws.{at_same}
use Rattle.wire.specs.Lawful.{Binary}
use Rattle.table.specs.Rows.{Row, Content, Attribute, Table}
use Rattle.table.specs.Rows.Content.{empty, simple, particles}
use Rattle.model.specs.Model.{Plan, Nodes, Path, tree_slots, tree_bytes, value, maybe, attribute, attributes, contents, rows, within, due, plan}
use Rattle.model.specs.Model.Plan.{done}
use Rattle.model.specs.Model.Answer.{given}
use Rattle.model.specs.Items.{Lengths}
use Rattle.model.specs.Grammar.{Is, nothing, an_item, an_element, a_blank}
use Rattle.model.specs.Read.{Room, read}
use Rattle.theorems.proofs.Sound.{read_found}
use Rattle.theorems.proofs.Complete.{is_read}
use Rattle.theorems.specs.One.{Same, Under, at_deep, at_done, at_item, at_element}

-- bits at one place, of one length, are the same
pub has_one : (b : ℕ → ℕ) (at : ℕ) (w x : List ℕ) → Has b at w → Has b at x → length w ≡ length x → w ≡ x
has_one b at [] [] h k e = refl
has_one b at [] (y ∷ x) h k e = absurd (omega arith)
has_one b at (z ∷ w) [] h k e = absurd (omega arith)
has_one b at (z ∷ w) (y ∷ x) h k e = ap₂ ◌∷◌ (sym h.0 ∙ k.0) (has_one b (at + 1) w x h.1 k.1 (omega arith))

module _ (mode : Lengths) (held : ℕ → Bool) (P : Plan) where
  pub unambiguous : (b : ℕ → ℕ) {at p q : ℕ} {ns ms : Nodes} {w x : List ℕ} → Is mode held P at ns w → At b at w p → Is mode held P at ms x → At b at x q → Same ns ms p q w x
  unambiguous b {at} {p} {q} {ns} {ms} {w} {x} i f j g =
      let r : Room = record { slots = max (tree_slots ns) (tree_slots ms); bytes = max (tree_bytes ns) (tree_bytes ms) } in
      let one = is_read b mode held i r [] (max p q) p f (omega arith) (omega arith) (omega arith) in
      let two = is_read b mode held j r [] (max p q) q g (omega arith) (omega arith) (omega arith) in
      let n : p ≡ q = cc in
      let y = f.next in
      let z = g.next in
      record { trees = cc; next = n; bits = has_one b at w x f.there g.there (omega arith) }

  pub read-extends : (b c : ℕ → ℕ) → Binary b → (r s : Room) (π ρ : Path) (wall far at : ℕ) (ns : Nodes) (q : ℕ) → at ≤ wall → read b mode held P r π wall at ≡ given ns q
      → ((i : ℕ) → at ≤ i → i < q → c i ≡ b i) → q ≤ far → tree_slots ns ≤ s.slots → tree_bytes ns ≤ s.bytes → read c mode held P s ρ far at ≡ given ns q
  read-extends b c bit r s π ρ wall far at ns q a e h k l m =
      let f = read_found b mode held bit P r π wall at ns q a e in
      is_read c mode held f.is s ρ far q (at_same h f.stands) k l m

pub is-under : {mode : Lengths} {held : ℕ → Bool} {P Q : Plan} {at : ℕ} {ns : Nodes} {w : List ℕ} → Under P Q → Is mode held P at ns w → Is mode held Q at ns w
is-under at_done nothing = nothing
is-under (at_item u) (an_item {v} h j) = an_item h (is-under (u v) j)
is-under (at_element u s) (an_element {t} h d z g m j) = an_element h d z (is-under (u t) g) m (is-under s j)
is-under (at_element u s) (a_blank w h d z b j) = a_blank w h d z b (is-under s j)
is-under (at_deep {Q = Q}) i = elim i [ ]

abbrev Over : (Row → Plan → Plan) → (Row → Plan → Plan) → Type 0
Over f g = (row : Row) (P Q : Plan) → Under P Q → Under (f row P) (g row Q)

rows_under : {f g : Row → Plan → Plan} → Over f g → (n : ℕ) (r : ℕ → Row) (P Q : Plan) → Under P Q → Under (rows f n r P) (rows g n r Q)
unfolding rows
rows_under o zero r P Q u = u
rows_under o (suc n) r P Q u = o (r 0) _ _ (rows_under o n (λ i. r (suc i)) P Q u)

attribute-under : (t : Bool) (a : Attribute) (P Q : Plan) → Under P Q → Under (attribute t a P) (attribute t a Q)
unfolding attribute value maybe
attribute-under true a P Q u = at_item λ v. at_item λ x. u
attribute-under false a P Q u = at_item λ v. go v
  where
    go : (v : ℕ) → Under (maybe v (value a.simple a.b a.c P) P) (maybe v (value a.simple a.b a.c Q) Q)
    go zero = u
    go (suc v) = at_item λ x. u

attributes-under : (l : List Attribute) (P Q : Plan) → Under P Q → Under (attributes l P) (attributes l Q)
unfolding attributes
attributes-under [] P Q u = u
attributes-under (a ∷ l) P Q u = attribute-under a.must a _ _ (attributes-under l P Q u)

contents-under : {f g : Row → Plan → Plan} → Over f g → (r : ℕ → Row) (c : Content) → Under (contents f r c) (contents g r c)
unfolding contents value
contents-under o r empty = at_done
contents-under o r (simple kind b c) = at_item λ v. at_done
contents-under o r (particles i) = o (r i) done done at_done

due-under : (T : Table) {f g : Row → Plan → Plan} → Over f g → Over (due T f) (due T g)
unfolding due within
due-under T o (Row.element name type row) P Q u = at_element (λ t. attributes-under (T.attributes t) _ _ (contents-under o T.row (T.content t))) u
due-under T o (Row.sequence first count) P Q u = rows_under o count _ P Q u
due-under T o (Row.choice first count) P Q u = at_item λ v. o _ P Q u
due-under T o (Row.occurs child least most) P Q u = at_item λ v. rows_under o v _ P Q u

pub plan-under : (T : Table) (d c : ℕ) → d ≤ c → Over (plan T d) (plan T c)
unfolding plan
plan-under T zero c h row P Q u = at_deep
plan-under T (suc d) zero h row P Q u = absurd (omega arith)
plan-under T (suc d) (suc c) h row P Q u = due-under T (plan-under T d c (omega arith)) row P Q u

-- so no bits have two readings, whatever number of rows each needs
pub one-reading : {mode : Lengths} {held : ℕ → Bool} {P Q R : Plan} → Under P R → Under Q R → (b : ℕ → ℕ) {at p q : ℕ} {ns ms : Nodes} {w x : List ℕ}
    → Is mode held P at ns w → At b at w p → Is mode held Q at ms x → At b at x q → Same ns ms p q w x
one-reading {mode} {held} {R} u v b i f j g = unambiguous mode held R b (is-under u i) f (is-under v j) g
