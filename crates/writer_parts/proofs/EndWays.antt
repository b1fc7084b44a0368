-- Each way through the end of an element.
use Prim.Native.Nat.{ℕ, ◌+◌, ◌-◌, ◌<◌, ◌≤◌}
use mathlib.Core.Path.{◌≡◌, refl, sym, ap, ap₂, ◌∙◌}
use mathlib.Core.List.{List, [], ◌++◌, append-nil}
use native.Mathlib.Omega.{arith}
use mir.Val.{Fits as FitsIn}
use mir.Syntax.{w32, w64}
use lib.ListN.{length, get_or, length-append}
use Rattle.numbers.specs.Kind as kinds
use Rattle.numbers.specs.Limit.{most_events}
use Rattle.wire.specs.Bits.{digits}
use Rattle.wire.specs.declared.Coded.{Coded}
use Rattle.model.specs.Write.{wrote, as_end, head_out, length_of, sealed}
use Rattle.model.specs.Modes.{lengths_is}
use Rattle.model.specs.declared.Lengths as lengths_t
use Rattle.writer_parts.specs.declared.Spot.{Spot}
use Rattle.std.specs.Prelude.{Ok, Err}
use Rattle.numbers.specs.declared.refusal.Refusal.{Refusal}
use Rattle.numbers.specs.Refused.{number_of}
use Rattle.writer_parts.specs.Notes.{note_at, spells, keeps, Noted, Short}
use Rattle.writer_parts.proofs.NoteLaws.{note-none, spells_one, spells-by, spells-same, kept-other, kept-note, kept-length}
use Rattle.writer_parts.proofs.NoteWays.{coded-long}
use Rattle.writer_parts.specs.Walk.{events_at, texts_at, Ready, between, past, Sealing, Walked, wanted, judged}
use Rattle.writer_parts.proofs.WalkLaws.{judged-in, taken-like, taken-unlike}
use Rattle.writer_parts.proofs.PutWays.{put-fine}
use Rattle.writer_parts.proofs.JudgingWays.{some, fine, faulty}

-- close
module _ (L X : List ℕ) (c e : Spot) (N : List ℕ) (lengths : lengths_t.Lengths) (q : ℕ) (r : Ready L X N c) (s : Sealing L X N c e) where
  abbrev inner : List ℕ
  inner = between X N (past c) e

  pub close-unlike : (y : Refusal) → number_of y ≡ judged L e.event (wanted kinds.end 0 0) → Walked L X (sealed (lengths_is lengths) q [] (wrote inner (events_at L e.event) (texts_at X e.used))) c N (Err (record { why = y; at = e.event })) N
  unfolding sealed
  close-unlike y j = record { is = record { out = taken-unlike L e.event (wanted kinds.end 0 0) as_end _ refl (number_of y) j (some y) s.ready.inside; inside = s.ready.inside } }

  module _ (z : 0 ≡ judged L e.event (wanted kinds.end 0 0)) where
    pub close-in : e.event < most_events
    close-in = let h = judged-in L e.event (wanted kinds.end 0 0) (sym z) in let g = r.few in omega arith

    pub close-room : e.event < length N
    close-room = let h = judged-in L e.event (wanted kinds.end 0 0) (sym z) in let g = r.sized in omega arith

    pub close-start : (M : List ℕ) → length M ≡ length N → c.event < length M
    close-start M k = let h = close-room in let g = s.started in omega arith

    pub close-less : c.bits ≤ e.bits
    close-less = let g = s.counts in omega arith

    pub close-next : FitsIn w64 (e.event + 1)
    close-next = let h = close-in in record { fits = omega arith }

    pub close-fits : (h : Coded) (w : List ℕ) → Short 41 h w → FitsIn w32 (e.bits + h.size)
    close-fits h w g = let a = s.ready.small in let d = s.ready.few in let i = s.ready.inside in let k = g.few in record { fits = omega arith }

    pub close-go : (M : List ℕ) → M ≡ keeps N e.event 0 → (h : Coded) → Short 41 h (head_out (lengths_is lengths) (length_of q (e.bits - c.bits))) → (m : ℕ) → Noted m (digits h.size h.bits) → (K : List ℕ) → K ≡ keeps M c.event m
        → Walked L X (sealed (lengths_is lengths) q [] (wrote inner (events_at L e.event) (texts_at X e.used))) c N (Ok (record { event = e.event + 1; used = e.used; bits = e.bits + h.size })) K
    unfolding sealed
    close-go M k h g m o K y =
        let i = judged-in L e.event (wanted kinds.end 0 0) (sym z) in
        let few = r.few in
        let len = r.sized in
        let st = s.started in
        let cn = s.counts in
        let bound : e.bits - c.bits ≡ length inner = omega arith in
        let len_m : length M ≡ length N = ap length k ∙ kept-length N e.event 0 in
        let f : Spot = record { event = e.event + 1; used = e.used; bits = e.bits + h.size } in
        let head : note_at X K c.event ≡ head_out (lengths_is lengths) (length_of q (e.bits - c.bits)) =
        ap (λ (l : List ℕ). note_at X l c.event) y ∙ kept-note M c.event m X (omega arith) ∙ o.is X ∙ g.code.is in
        let mid : spells X K (c.event + 1) (e.event - (c.event + 1)) ≡ inner =
        spells-same X N K (c.event + 1) (e.event - (c.event + 1)) (λ x u v. ap (λ (l : List ℕ). get_or l x 0) y ∙ kept-other M c.event m x (λ a. omega arith) ∙ ap (λ (l : List ℕ). get_or l x 0) k ∙ kept-other N e.event 0 x (λ a. omega arith)) in
        let last : spells X K e.event 1 ≡ [] =
        spells-same X M K e.event 1 (λ x u v. ap (λ (l : List ℕ). get_or l x 0) y ∙ kept-other M c.event m x (λ a. omega arith))
        ∙ spells_one X M e.event ∙ ap (λ (l : List ℕ). note_at X l e.event) k ∙ kept-note N e.event 0 X (omega arith) ∙ note-none X in
        let one : c.event + 1 - c.event ≡ 1 = omega arith in
        let end1 : e.event + 1 - e.event ≡ 1 = omega arith in
        let first : spells X K c.event (c.event + 1 - c.event) ≡ head_out (lengths_is lengths) (length_of q (e.bits - c.bits)) = rw one (spells_one X K c.event ∙ head) in
        let tail : spells X K (c.event + 1) (e.event + 1 - (c.event + 1)) ≡ inner =
        spells-by X K (c.event + 1) e.event (e.event + 1) (omega arith) (omega arith) ∙ rw (mid, end1, last) (append-nil inner) in
        let whole : between X K c f ≡ head_out (lengths_is lengths) (length_of q (e.bits - c.bits)) ++ inner =
        spells-by X K c.event (c.event + 1) (e.event + 1) (omega arith) (omega arith) ∙ ap₂ ◌++◌ first tail in
        let long = length-append (head_out (lengths_is lengths) (length_of q (e.bits - c.bits))) inner in
        let hl = coded-long h (head_out (lengths_is lengths) (length_of q (e.bits - c.bits))) g.code in
        let hs = g.few in
        record {
          is = record {
            out = taken-like L e.event (wanted kinds.end 0 0) as_end _ refl (sym z) ∙ rw (← bound, whole);
            counts = rw whole (omega arith);
            onward = omega arith;
            ready = record { sized = omega (arith, ap length y, kept-length M c.event m); few = few; inside = omega arith; used = s.ready.used; short = omega (arith, s.ready.short); small = omega (arith, s.ready.small) };
            before = λ x v. ap (λ (l : List ℕ). get_or l x 0) y ∙ kept-other M c.event m x (λ a. omega arith) ∙ ap (λ (l : List ℕ). get_or l x 0) k ∙ kept-other N e.event 0 x (λ a. omega arith);
          };
        }

pub ruleset close_ways = (put-fine, fine, faulty, close-unlike, close-in, close-room, close-start, close-less, close-next, close-fits, close-go)
