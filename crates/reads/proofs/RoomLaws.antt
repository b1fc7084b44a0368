-- More room for events changes no reading but one that was refused for lack of it, event_room.
use Prim.Native.Nat.{ℕ, ◌≤◌}
use mathlib.Core.Path.{◌≡◌, refl}
use mathlib.Core.Bool.{Bool}
use mathlib.Core.List.{List}
use native.Mathlib.Omega.{arith}
use Rattle.numbers.specs.Refusal.{event_room}
use Rattle.model.specs.Model.{Plan, Nodes, Path}
use Rattle.model.specs.Items.{Lengths}
use Rattle.model.specs.Read.{Room, room_less}
use Rattle.model.proofs.Readings.{Extent, room_in, Goes, an_item, an_element, a_blank, nothing, more, Stop, too-deep, no_item, no_bytes, no_slot, no_head, unheld, no_start, no-blank, Refuses, here, no-codes, no-cast, inside, unmet, no_end, later}
use Rattle.model.specs.Whole.{Reply, outcome, room_of, reading}
use Rattle.model.proofs.Replies.{Replies, no_table, no-root, no_mode, stopped, unpadded, whole, reading-replies, replies-reading}

-- no fewer events, as many text bytes
record Wider (r r' : Room) : Type 0 where
  slots : r.slots ≤ r'.slots
  bytes : r.bytes ≡ r'.bytes

module _ {b : ℕ → ℕ} {mode : Lengths} {held : ℕ → Bool} where
  goes-wider : {x : Extent} {P Q : Plan} {r : Room} {wall at q : ℕ} {ns : Nodes} → Goes b mode held x P r wall at ns q Q
      → (r' : Room) → Wider r r' → Goes b mode held x P r' wall at ns q Q
  goes-wider (an_item e h k) r' w = an_item {r = r'} e (omega arith) (omega arith)
  goes-wider (an_element x z g e h) r' w =
      an_element {r = r'} x z (goes-wider g (room_in b mode held x r') (record { slots = omega arith; bytes = omega arith })) e (omega arith)
  goes-wider (a_blank n x e z h) r' w = a_blank {r = r'} n x e z (omega arith)
  goes-wider nothing r' w = nothing
  goes-wider (more {ns} f g) r' w =
      more (goes-wider f r' w) (goes-wider g (room_less r' ns) (record { slots = omega arith; bytes = omega arith }))

  stop-wider : {P : Plan} {r : Room} {wall at n : ℕ} → Stop b mode held r wall at P n → (r' : Room) → Wider r r'
      → (n ≡ event_room → ⊥) → Stop b mode held r' wall at P n
  stop-wider too-deep r' w z = too-deep
  stop-wider (no_item e) r' w z = no_item e
  stop-wider (no_bytes e h) r' w z = no_bytes e (omega arith)
  stop-wider (no_slot e h k) r' w z = absurd (z refl)
  stop-wider (no_head e) r' w z = no_head e
  stop-wider (unheld x e y) r' w z = unheld x e y
  stop-wider (no_start x y k) r' w z = absurd (z refl)
  stop-wider (no-blank n x e y k) r' w z = absurd (z refl)

  refuses-wider : {P : Plan} {r : Room} {π ρ : Path} {wall at n p : ℕ} → Refuses b mode held P r π wall at n p ρ
      → (r' : Room) → Wider r r' → (n ≡ event_room → ⊥) → Refuses b mode held P r' π wall at n p ρ
  refuses-wider (here x) r' w z = here (stop-wider x r' w z)
  refuses-wider (no-codes h e c) r' w z = no-codes h e c
  refuses-wider (no-cast x y c s) r' w z = absurd (z refl)
  refuses-wider (inside x y s d) r' w z =
      inside {r = r'} x y (omega arith) (refuses-wider d (room_in b mode held x r') (record { slots = omega arith; bytes = omega arith }) z)
  refuses-wider (unmet x y s g e) r' w z =
      unmet {r = r'} x y (omega arith) (goes-wider g (room_in b mode held x r') (record { slots = omega arith; bytes = omega arith })) e
  refuses-wider (no_end x y s g e h) r' w z = absurd (z refl)
  refuses-wider (later {ns} f d) r' w z =
      later (goes-wider f r' w) (refuses-wider d (room_less r' ns) (record { slots = omega arith; bytes = omega arith }) z)

module _ (l : List ℕ) (party name type : ℕ) (s : List ℕ) (w w' x : ℕ) (h : w ≤ w') where
  wider : Wider (room_of w x) (room_of w' x)
  wider = record { slots = omega arith; bytes = refl }

  replies-wider : {R : Reply} → Replies l party name type s w x R → ((outcome R).number ≡ event_room → ⊥) → Replies l party name type s w' x R
  unfolding outcome
  replies-wider (no_table v) z = no_table v
  replies-wider (no-root v a) z = no-root v a
  replies-wider (no_mode v a m) z = no_mode v a m
  replies-wider (stopped i r) z = stopped i (refuses-wider r (room_of w' x) wider z)
  replies-wider (unpadded i r e) z = unpadded i (goes-wider r (room_of w' x) wider) e
  replies-wider (whole i r e) z = whole i (goes-wider r (room_of w' x) wider) e

  -- more words lent: the same reading, but where there were too few
  pub more_room : ((outcome (reading l party name type s w x)).number ≡ event_room → ⊥)
      → reading l party name type s w' x ≡ reading l party name type s w x
  more_room z = replies-reading l party name type s w' x (replies-wider (reading-replies l party name type s w x) z)
