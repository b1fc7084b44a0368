-- One event stored, without a text and with one: room for the text comes before the event's.
use Prim.Native.Nat.{ℕ, suc, ◌+◌, ◌-◌, ◌*◌, ◌<◌, ◌≤◌}
use mathlib.Core.Path.{◌≡◌, refl, sym, subst, ap, ◌∙◌}
use mathlib.Core.List.{List, [], ◌∷◌, append-nil}
use mathlib.Core.Bool.{Bool, true, false}
use native.Mathlib.Omega.{arith}
use borrow.Author.Tests.{lt-ltb, le-ltb, le-leb, lt-leb}
use lib.Dec.{ltb}
use lib.ListN.{length, set}
use lib.Seq.{sets, set_comm}
use Rattle.numbers.specs.Refusal.{event_room, text_room}
use Rattle.numbers.specs.Kind as kinds
use Rattle.value.specs.Simple.{bytes_at}
use Rattle.value.proofs.SimpleLaws.{bytes-length}
use Rattle.model.specs.Model.{Event, event, events, texts, tree_slots, tree_bytes}
use Rattle.model.specs.Model.Nodes.{none, leaf}
use Rattle.model.specs.Model.Answer.{given, refused}
use Rattle.model.specs.Read.{Room, kept, stored}
use Rattle.model.specs.Whole.{event_words}
use Rattle.reader_parts.specs.declared.Cursor.{Cursor}
use Rattle.std.specs.Prelude.{Ok, Err}
use Rattle.numbers.specs.declared.refusal.Refusal.TheVariants as refusal
use Rattle.reader_parts.specs.Out.{Step, slots_in, room_of, went, step_view, outcome, Stores, Keeps}

module _ (r : Room) (π : List ℕ) (at : ℕ) (e : Event) (ts : List ℕ) (q : ℕ) where
  pub stored_past : r.bytes < length ts → stored r π at e ts q ≡ refused text_room at π
  unfolding stored kept
  stored_past h = rw (lt-leb (length ts) r.bytes h)

  module _ (h : length ts ≤ r.bytes) where
    pub stored-full : r.slots ≡ 0 → stored r π at e ts q ≡ refused event_room at π
    unfolding stored kept
    stored-full g = rw (le-leb (length ts) r.bytes h, le-ltb 0 r.slots (omega arith))

    pub stored-in : 0 < r.slots → stored r π at e ts q ≡ given (leaf at e ts none) q
    unfolding stored kept
    stored-in g = rw (le-leb (length ts) r.bytes h, lt-ltb 0 r.slots g)

-- what an event and its text leave
pub outcome-leaf : (at : ℕ) (e : Event) (ts : List ℕ) (q : ℕ) (c : Cursor) (π E T : List ℕ) → outcome (given (leaf at e ts none) q) c π E T
    ≡ went q (c.count + 1) (c.used + length ts) π (sets E (4 * c.count) (event_words (e ∷ []))) (sets T c.used ts)
unfolding outcome events texts tree_slots tree_bytes event_words
outcome-leaf at e ts q c π E T =
    let s : c.count + (1 + 0) ≡ c.count + 1 = omega arith in
    let t : c.used + (length ts + 0) ≡ c.used + length ts = omega arith in
    λ i. went q (s i) (t i) π (sets E (4 * c.count) (event_words (e ∷ []))) (sets T c.used (append-nil ts i))

-- store
module _ (kind p q next room : ℕ) (c : Cursor) (E : List ℕ) (f : room ≡ slots_in (length E)) where
  pub store-full : room ≤ c.count → Stores kind p q next c E (Err (record { why = refusal.EventRoom; at = c.at })) E
  unfolding step_view outcome
  store-full h = record { says = λ T π. rw (stored-full (room_of E T c) π c.at.0 (event kind p q (next - c.at.0)) [] next (omega arith) (omega arith)) }

  pub store_in : (n : ℕ) (d : Cursor) → c.count < room → n ≡ next - c.at.0 → d.at.0 ≡ next → d.count ≡ c.count + 1 → d.used ≡ c.used
      → Stores kind p q next c E (Ok d) (set (set (set (set E (4 * c.count) kind) (4 * c.count + 1) p) (4 * c.count + 2) q) (4 * c.count + 3) n)
  unfolding step_view event_words
  store_in n d h m x y z = record {
    says = λ T π.
        let i = 4 * c.count in
        let a : i + 1 ≡ suc i = omega arith in
        let b : i + 2 ≡ suc (suc i) = omega arith in
        let g : i + 3 ≡ suc (suc (suc i)) = omega arith in
        let u : d.used ≡ c.used + 0 = omega arith in
        rw (stored-in (room_of E T c) π c.at.0 (event kind p q (next - c.at.0)) [] next (omega arith) (omega arith), outcome-leaf c.at.0 (event kind p q (next - c.at.0)) [] next c π E T, x, y, u, m, a, b, g);
  }

-- the first word of four behind the others
late : (E : List ℕ) (i j k l a b x y : ℕ) → i < j → i < k → i < l → set (set (set (set E j b) k x) l y) i a ≡ set (set (set (set E i a) j b) k x) l y
late E i j k l a b x y f g h =
    set_comm (set (set E j b) k x) l i y a (λ e. omega arith)
    ∙ ap (λ (m : List ℕ). set m l y) (set_comm (set E j b) k i x a (λ e. omega arith))
    ∙ ap (λ (m : List ℕ). set (set m k x) l y) (set_comm E j i b a (λ e. omega arith))

-- store_seldom
module _ (kind p q next room : ℕ) (c : Cursor) (E : List ℕ) (f : room ≡ slots_in (length E)) where
  pub seldom-in : (n : ℕ) (d : Cursor) → c.count < room → n ≡ next - c.at.0 → d.at.0 ≡ next → d.count ≡ c.count + 1 → d.used ≡ c.used
      → Stores kind p q next c E (Ok d) (set (set (set (set E (4 * c.count + 1) p) (4 * c.count + 2) q) (4 * c.count + 3) n) (4 * c.count) kind)
  seldom-in n d h m x y z =
      subst (λ (l : List ℕ). Stores kind p q next c E (Ok d) l)
      (sym (late E (4 * c.count) (4 * c.count + 1) (4 * c.count + 2) (4 * c.count + 3) kind p q n (omega arith) (omega arith) (omega arith)))
      (store_in kind p q next room c E f n d h m x y z)

pub ruleset store-ways = (store-full, store_in)

pub ruleset seldom-ways = (store-full, seldom-in)

-- an event with its text, where the text is laid first
module _ (E T : List ℕ) (c d : Cursor) (π : List ℕ) (e : Event) (ts : List ℕ) (q : ℕ) (x : d.count ≡ c.count) (y : d.used ≡ c.used + length ts) (h : length ts ≤ length T - c.used) where
  stored-text : (at : ℕ) → outcome (stored (room_of E (sets T c.used ts) d) π at e [] q) d π E (sets T c.used ts) ≡ outcome (stored (room_of E T c) π at e ts q) c π E T
  unfolding stored kept outcome
  stored-text at =
      let f : slots_in (length E) - d.count ≡ slots_in (length E) - c.count = omega arith in
      rw (le-leb 0 (length (sets T c.used ts) - d.used) (omega arith), le-leb (length ts) (length T - c.used) h, f) (go (ltb 0 (slots_in (length E) - c.count)))
    where
      go : (b : Bool) → outcome (kept true b π at e [] q) d π E (sets T c.used ts) ≡ outcome (kept true b π at e ts q) c π E T
      go true =
          let u : d.used + 0 ≡ c.used + length ts = omega arith in
          outcome-leaf at e [] q d π E (sets T c.used ts) ∙ rw (x, u) (sym (outcome-leaf at e ts q c π E T))
      go false = refl

-- the Value of a text of n bytes from p on
module _ (b : ℕ → ℕ) (p n next room : ℕ) (c : Cursor) (E T : List ℕ) (f : room ≡ length T - c.used) where
  pub keep-full : (T' : List ℕ) → room < n → Keeps n (bytes_at b p n) next c E T (Err (record { why = refusal.TextRoom; at = c.at })) E T'
  unfolding step_view outcome
  keep-full T' h = record {
    says = λ π. rw (stored_past (room_of E T c) π c.at.0 (event kinds.value n 0 (next - c.at.0)) (bytes_at b p n) next (omega (arith, bytes-length b p n)));
  }

  pub keep-in : (d : Cursor) (s : Step) (E' T₁ : List ℕ) → n ≤ room → d.at.0 ≡ c.at.0 → d.count ≡ c.count → d.used ≡ c.used + n
      → T₁ ≡ sets T c.used (bytes_at b p n) → Stores kinds.value n 0 next d E s E' → Keeps n (bytes_at b p n) next c E T s E' T₁
  keep-in d s E' T₁ h x y z g k =
      let l = bytes-length b p n in
      record {
        says = λ π.
            k.says T₁ π
            ∙ rw g (stored-text E T c d π (event kinds.value n 0 (next - d.at.0)) (bytes_at b p n) next y (omega arith) (omega arith) d.at.0)
            ∙ ap (λ (at : ℕ). outcome (stored (room_of E T c) π at (event kinds.value n 0 (next - at)) (bytes_at b p n) next) c π E T) x;
      }
