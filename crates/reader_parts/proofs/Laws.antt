-- The laws of `step_view` and `outcome`: one part after another, whatever the parts are.
use Prim.Native.Nat.{ℕ, suc, ◌+◌, ◌-◌, ◌*◌}
use mathlib.Core.Path.{◌≡◌, refl, sym, ap, ◌∙◌}
use mathlib.Core.List.{List, [], ◌∷◌, ◌++◌}
use native.Mathlib.Omega.{arith}
use lib.ListN.{length, set}
use lib.Seq.{sets, length-sets}
use Rattle.wire.specs.declared.Bits.{Bits}
use Rattle.model.specs.Model.{Event, Nodes, Answer, events, texts, tree_slots, tree_bytes, ◌then◌}
use Rattle.model.specs.Model.Nodes.{none}
use Rattle.model.specs.Model.Answer.{given, refused}
use Rattle.model.specs.Read.{Room, room_less, onto, after}
use Rattle.model.proofs.Trees.{slots-then, bytes-then, events-then, texts-then, slots_length, bytes-length}
use Rattle.model.specs.Whole.{event_words}
use Rattle.model.proofs.Buffers.{words_append}
use Rattle.model.proofs.Entries.{words-length}
use Rattle.reader_parts.specs.declared.Cursor.{Cursor}
use Rattle.std.specs.Prelude.{Ok, Err}
use Rattle.numbers.specs.Refused.{number_of}
use Rattle.numbers.specs.declared.refusal.Fault.{Fault}
use Rattle.reader_parts.specs.Out.{Step, slots_in, room_of, went, step_view, outcome}

-- lists laid one after another
pub sets-sets : (l xs ys : List ℕ) (i j : ℕ) → j ≡ i + length xs → sets (sets l i xs) j ys ≡ sets l i (xs ++ ys)
sets-sets l [] ys i j e = let h : j ≡ i = omega arith in rw h
sets-sets l (x ∷ xs) ys i j e = sets-sets (set l i x) xs ys (suc i) j (omega arith)

-- the buffers with what nodes hold laid into them, from the cursor on
abbrev pub laid_e : List ℕ → Cursor → Nodes → List ℕ
laid_e E c ns = sets E (4 * c.count) (event_words (events ns))

abbrev pub laid_t : List ℕ → Cursor → Nodes → List ℕ
laid_t T c ns = sets T c.used (texts ns)

-- the cursor e is c after nodes
pub record Moved (c : Cursor) (ns : Nodes) (e : Cursor) : Type 0 where
  pub count : e.count ≡ c.count + tree_slots ns
  pub used : e.used ≡ c.used + tree_bytes ns

module _ (E T : List ℕ) (c : Cursor) (a : Nodes) (e : Cursor) (m : Moved c a e) where
  pub room_moved : room_of (laid_e E c a) (laid_t T c a) e ≡ room_less (room_of E T c) a
  room_moved =
      let f = length-sets E (4 * c.count) (event_words (events a)) in
      let g = length-sets T c.used (texts a) in
      let x = m.count in
      let y = m.used in
      let s : slots_in (length (laid_e E c a)) - e.count ≡ slots_in (length E) - c.count - tree_slots a = ap (λ (n : ℕ). slots_in n - e.count) f ∙ omega arith in
      let t : length (laid_t T c a) - e.used ≡ length T - c.used - tree_bytes a = omega arith in
      λ i. record { slots = s i; bytes = t i }

  -- what is read after nodes are laid
  pub outcome-onto : (o : Answer) (π : List ℕ) → outcome (onto a o) c π E T ≡ outcome o e π (laid_e E c a) (laid_t T c a)
  unfolding outcome onto
  outcome-onto (refused n p ρ) π = refl
  outcome-onto (given b p) π =
      let x = m.count in
      let y = m.used in
      let u : c.count + tree_slots (a then b) ≡ e.count + tree_slots b = omega (arith, slots-then a b) in
      let v : c.used + tree_bytes (a then b) ≡ e.used + tree_bytes b = omega (arith, bytes-then a b) in
      cc (laid_then b, texts-laid b)
    where
      laid_then : (b : Nodes) → laid_e E c (a then b) ≡ laid_e (laid_e E c a) e b
      laid_then b =
          let x = m.count in
          ap (λ (l : List Event). sets E (4 * c.count) (event_words l)) (events-then a b)
          ∙ ap (λ (l : List ℕ). sets E (4 * c.count) l) (words_append (events a) (events b))
          ∙ sym (sets-sets E (event_words (events a)) (event_words (events b)) (4 * c.count) (4 * e.count) (omega (arith, words-length (events a), slots_length a)))

      texts-laid : (b : Nodes) → laid_t T c (a then b) ≡ laid_t (laid_t T c a) e b
      texts-laid b =
          let y = m.used in
          ap (λ (l : List ℕ). sets T c.used l) (texts-then a b)
          ∙ sym (sets-sets T (texts a) (texts b) c.used e.used (omega (arith, bytes-length a)))

-- what a part that went on has read; ρ is the path that it left
pub record Went (o : Answer) (c : Cursor) (π E T : List ℕ) (e : Cursor) (ρ E' T' : List ℕ) : Type 0 where
  pub nodes : Nodes
  pub gave : o ≡ given nodes e.at.0
  pub moved : Moved c nodes e
  pub path : ρ ≡ π
  pub events_are : E' ≡ laid_e E c nodes
  pub texts_are : T' ≡ laid_t T c nodes

after-went : (o : Answer) (c : Cursor) (π E T : List ℕ) (e : Cursor) (ρ E' T' : List ℕ) → Went o c π E T e ρ E' T' → (σ : List ℕ) (K : Room → List ℕ → ℕ → Answer)
    → outcome (K (room_of E' T' e) ρ e.at.0) e σ E' T' ≡ outcome (after (room_of E T c) o (λ u p. K u π p)) c σ E T
unfolding after
after-went o c π E T e ρ E' T' d σ K =
    rw (d.events_are, d.texts_are, d.path, d.gave, room_moved E T c d.nodes e d.moved)
    (sym (outcome-onto E T c d.nodes e d.moved (K (room_less (room_of E T c) d.nodes) π e.at.0) σ))

module _ (s : Step) (ρ E' T' : List ℕ) (o : Answer) (c : Cursor) (π E T : List ℕ) (h : step_view s ρ E' T' ≡ outcome o c π E T) where
  pub did-go : (e : Cursor) → s ≡ Ok e → Went o c π E T e ρ E' T'
  unfolding step_view outcome
  did-go e g = go o refl (rw g at h)
    where
      go : (a : Answer) → o ≡ a → step_view (Ok e) ρ E' T' ≡ outcome a c π E T → Went o c π E T e ρ E' T'
      go (given ns q) f v =
          let z : e.at.0 ≡ q = cc in
          record { nodes = ns; gave = rw z f; moved = record { count = cc; used = cc }; path = cc; events_are = cc; texts_are = cc }
      go (refused n p σ) f v =
          let z : ◌≡◌ {A = ℕ} 0 1 = cc in
          absurd (omega arith)

  pub did-stop : (e : Fault Bits) → s ≡ Err e → o ≡ refused (number_of e.why) e.at.0 ρ
  unfolding step_view outcome
  did-stop e g = go o refl (rw g at h)
    where
      go : (a : Answer) → o ≡ a → step_view (Err e) ρ E' T' ≡ outcome a c π E T → o ≡ refused (number_of e.why) e.at.0 ρ
      go (given ns q) f v =
          let z : ◌≡◌ {A = ℕ} 0 1 = cc in
          absurd (omega arith)
      go (refused m q σ) f v = f ∙ cc

  pub went-path : (e : Cursor) → s ≡ Ok e → ρ ≡ π
  went-path e g = (did-go e g).path

  -- a refusal is passed on, whatever would come; σ is the path that the caller says where it goes on
  pub after_stop : (e : Fault Bits) → s ≡ Err e → (σ : List ℕ) (r : Room) (k : Room → ℕ → Answer) → step_view s ρ E' T' ≡ outcome (after r o k) c σ E T
  unfolding step_view outcome after
  after_stop e g σ r k = rw (did-stop e g, g)

  -- where the path goes on is the caller's
  pub outcome-go : (e : Cursor) → s ≡ Ok e → (σ : List ℕ) → step_view s σ E' T' ≡ outcome o c σ E T
  unfolding step_view outcome
  outcome-go e g σ =
      let d = did-go e g in
      let x = d.moved.count in
      let y = d.moved.used in
      let u = d.events_are in
      let v = d.texts_are in
      ap (λ (t : Step). step_view t σ E' T') g ∙ (cc) ∙ sym (ap (λ (a : Answer). outcome a c σ E T) d.gave)

  pub outcome-stop : (e : Fault Bits) → s ≡ Err e → (σ : List ℕ) → step_view s ρ E' T' ≡ outcome o c σ E T
  unfolding step_view outcome
  outcome-stop e g σ = rw (did-stop e g, g)

  -- one part after another: what the second says of the buffers that the first left is what both say of the first buffers
  pub after-go : (e : Cursor) → s ≡ Ok e → (σ : List ℕ) (K : Room → List ℕ → ℕ → Answer)
      → outcome (K (room_of E' T' e) ρ e.at.0) e σ E' T' ≡ outcome (after (room_of E T c) o (λ u p. K u π p)) c σ E T
  after-go e g σ K = after-went o c π E T e ρ E' T' (did-go e g) σ K

  -- the same, where the path stays
  pub after_next : (e : Cursor) → s ≡ Ok e → (K : Room → List ℕ → ℕ → Answer)
      → outcome (K (room_of E' T' e) ρ e.at.0) e ρ E' T' ≡ outcome (after (room_of E T c) o (λ u p. K u π p)) c π E T
  after_next e g K = after-go e g ρ K ∙ ap (λ (σ : List ℕ). outcome (after (room_of E T c) o (λ u p. K u π p)) c σ E T) (went-path e g)

-- nothing read
pub outcome-none : (c : Cursor) (π E T : List ℕ) → step_view (Ok c) π E T ≡ outcome (given none c.at.0) c π E T
unfolding step_view outcome tree_slots tree_bytes events texts event_words
outcome-none c π E T =
    let s : c.count ≡ c.count + 0 = omega arith in
    let t : c.used ≡ c.used + 0 = omega arith in
    λ i. went c.at.0 (s i) (t i) π E T
