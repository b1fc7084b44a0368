-- A reading has at most 4,095 text bytes an event, so that a count of text bytes fits a word.
use Prim.Native.Nat.{ℕ, ◌-◌, ◌*◌, ◌≤◌}
use mathlib.Core.Path.{◌≡◌}
use mathlib.Core.List.{List}
use mathlib.Core.Bool.{Bool}
use native.Mathlib.Omega.{arith}
use lib.ListN.{length}
use Rattle.wire.specs.Res.{Ensures}
use Rattle.wire.proofs.Res.{gives}
use Rattle.wire.specs.Lawful.{Binary}
use Rattle.value.specs.Code.{HasCode}
use Rattle.value.specs.Simple.{Simple, SimpleIs, a_code, a_text, a_date}
use Rattle.value.proofs.SimpleLaws.{simple-found}
use Rattle.model.specs.Model.{Plan, Nodes, tree_slots, tree_bytes}
use Rattle.model.specs.Model.Answer.{given}
use Rattle.model.specs.Items.{Lengths, Form, present, simply, form_of, form_at, item_at}
use Rattle.model.specs.Read.{Room, read}
use Rattle.model.proofs.Readings.{cast-slots, cast-bytes, Extent, Goes, an_item, an_element, a_blank, nothing, more, read-given}
use Rattle.model.proofs.Trees.{slots-then, bytes-then}

-- a text is at most that long
text-short : {s : Simple} {v : ℕ} {ts w : List ℕ} → SimpleIs s v ts w → length ts ≤ 4095
unfolding HasCode
text-short (a_code h) = omega arith
text-short (a_text h o z) = omega (arith, h)
text-short (a_date h) = omega arith

form-short : (b : ℕ → ℕ) → Binary b → (f : Form) (wall at : ℕ)
    → Ensures (form_at f b wall at) (λ r. length r.1 ≤ 4095)
unfolding form_at
form-short b bit present wall at = gives (omega arith)
form-short b bit (simply s) wall at = record { says = λ r e. text-short ((simple-found b bit s wall at).says r e).is }

module _ (b : ℕ → ℕ) (bit : Binary b) (mode : Lengths) (held : ℕ → Bool) where
  goes-few : {x : Extent} {P Q : Plan} {r : Room} {wall at q : ℕ} {ns : Nodes} → Goes b mode held x P r wall at ns q Q
      → tree_bytes ns ≤ 4095 * tree_slots ns
  unfolding tree_slots tree_bytes item_at
  goes-few {wall} {at} (an_item {i} {v} {q} {ts} e h k) =
      let l = (form-short b bit (form_of i) wall at).says (v, ts, q) e in omega arith
  goes-few (an_element {y} {ns} x z g e h) =
      let l = goes-few g in
      omega (arith, cast-slots y x.body x.t x.k (x.past - x.body) ns, cast-bytes y x.body x.t x.k (x.past - x.body) ns)
  goes-few (a_blank n x e z h) = omega arith
  goes-few nothing = omega arith
  goes-few (more {ns} {ms} f g) =
      let x = goes-few f in let y = goes-few g in omega (arith, slots-then ns ms, bytes-then ns ms)

  pub bytes-few : (P : Plan) (r : Room) (π : List ℕ) (wall at : ℕ) (ns : Nodes) (q : ℕ)
      → read b mode held P r π wall at ≡ given ns q → tree_bytes ns ≤ 4095 * tree_slots ns
  bytes-few P r π wall at ns q e = goes-few (read-given b mode held P r π wall at ns q e)
