-- Each way through the entry: a refusal before the walk, in it, after it; and a payload that is made.
use Prim.Native.Nat.{ℕ, ◌+◌, ◌-◌, ◌/◌, ◌<◌, ◌≤◌, min}
use mathlib.Core.Path.{◌≡◌, sym, ap, ◌∙◌}
use mathlib.Core.List.{List, ◌∷◌}
use native.Mathlib.Omega.{arith}
use mir.Val.{Fits as FitsIn}
use mir.Syntax.{w32}
use lib.ListN.{length, replicate, length-replicate}
use Rattle.numbers.specs.Limit.{most_open, most_events}
use Rattle.table.specs.Rows.{table_of, held_of}
use Rattle.table.proofs.Walk.{types_are}
use Rattle.table.specs.Words.{types_in}
use Rattle.model.specs.Model.{only, table_in}
use Rattle.model.specs.Modes.{lengths_is, mode_is, no_row}
use Rattle.model.specs.declared.Mode.{Mode}
use Rattle.model.specs.Write.{Bare, Out, element_out, write}
use Rattle.model.specs.WriteSteps.{inside_out}
use Rattle.model.proofs.OutLaws.{along-done}
use Rattle.model.proofs.WriteSteps as steps
use Rattle.model.specs.Pack.{pack}
use Rattle.model.specs.Entries.{plan_of, list_of}
use Rattle.model.proofs.Entries.{writing-entered}
use Rattle.model.specs.Whole.{made, unmade, mode_byte, filled, outcome_made, payload_left, roomed, spent, written, writing}
use Rattle.writer_parts.specs.declared.Spot.{Spot}
use Rattle.numbers.specs.declared.refusal.Fault.{Fault}
use Rattle.numbers.specs.Refused.{number_of}
use Rattle.std.specs.Prelude.{Result, Ok, Err}
use Rattle.writer_parts.specs.Notes.{spells}
use Rattle.writer_parts.specs.Walk.{Judgement, events_in, events_at, texts_at, between, Ready, Walked, Walks}
use Rattle.writer_parts.proofs.WalkLaws.{went, stopped, events-count}
use Rattle.writer.specs.Meaning.{RightFor, Rounds, element·, inside·, row·, list·}
use Rattle.writer.specs.Answers.{Answer, says, origin, Writes}
use Rattle.writer.proofs.Answers.{unmade-writes}
use Rattle.writer.specs.Front.{Fine, Fronted, Whole, ends, Settled}
use Rattle.writer.specs.Cleared.{Zeros}

-- finish
module _ (L X N : List ℕ) (number : ℕ) (mode : Mode) (c : Spot) (s : List ℕ) (bits : c.bits ≡ length (between X N origin c)) (f : Result Unit (Fault ℕ)) (h : Settled L X c (length s) f) where
  pub finish-refused : (x : Fault ℕ) → f ≡ Err x → Zeros s
      → Writes (ends L X c (length s) (mode_is mode) (between X N origin c)) number (events_in L) (length X) (length s) (Err x) s
  finish-refused x w z = unmade-writes _ number (events_in L) (length X) (length s) x s (refused-so (between X N origin c) bits) z.is
    where
      refused-so : (w : List ℕ) → c.bits ≡ length w → ends L X c (length s) (mode_is mode) w ≡ unmade (number_of x.why) x.at
      refused-so y b = (rw w at h.is) y (mode_is mode) b

  module _ (u : Unit) (w : f ≡ Ok u) where
    whole : Whole L X c (length s)
    whole = rw w at h.is

    same : between X N origin c ≡ spells X N 0 c.event
    same = let z : c.event - 0 ≡ c.event = omega arith in rw z

    pub finish-fits : 1 + (length (spells X N 0 c.event) + 7) / 8 ≤ length s
    finish-fits = let g = whole.fits in let b : c.bits ≡ length (spells X N 0 c.event) = bits ∙ ap length same in omega arith

    pub finish-short : Ready L X N c → length (spells X N 0 c.event) ≤ 100000000
    finish-short r = let b : c.bits ≡ length (spells X N 0 c.event) = bits ∙ ap length same in let a = r.small in let i = r.inside in let d = r.few in omega arith

    pub finish-done : (t : List ℕ) → t ≡ filled (length s) (mode_byte (mode_is mode) ∷ pack (spells X N 0 c.event))
        → Writes (ends L X c (length s) (mode_is mode) (between X N origin c)) number (events_in L) (length X) (length s) (Ok record { mode = number; events = c.event; text = record { 0 = c.used }; bits = record { 0 = 8 + c.bits } }) t
    unfolding outcome_made payload_left
    finish-done t e =
        let z : ends L X c (length s) (mode_is mode) (between X N origin c) ≡ made (mode_byte (mode_is mode) ∷ pack (between X N origin c)) (8 + length (between X N origin c)) = whole.gives (between X N origin c) (mode_is mode) bits in
        let o = whole.over in
        let v = whole.spent_all in
        record { answer = rw z (λ j. says number (o j) (v j) (8 + bits j)); left = rw (z, same) e }

pub finish-place : (L X N : List ℕ) (c : Spot) → Ready L X N c → FitsIn w32 c.event
finish-place L X N c r = let i = r.inside in let d = r.few in record { fits = omega arith }

pub finish-used : (L X N : List ℕ) (c : Spot) → Ready L X N c → FitsIn w32 c.used
finish-used L X N c r = let i = r.inside in let d = r.few in let s = r.short in record { fits = omega arith }

pub finish-bits : (L X N : List ℕ) (c : Spot) → Ready L X N c → FitsIn w32 (8 + c.bits)
finish-bits L X N c r = let i = r.inside in let d = r.few in let s = r.small in record { fits = omega arith }

pub finish-room : (L X N : List ℕ) (c : Spot) → Ready L X N c → c.event ≤ length N
finish-room L X N c r = let i = r.inside in let d = r.sized in omega arith

pub ruleset finish-ways = (finish-refused, finish-fits, finish-short, finish-done, finish-place, finish-used, finish-bits, finish-room)

-- write
module _ (t : List ℕ) (party name ty number : ℕ) (L X : List ℕ) (room : ℕ) (f : Result Mode (Fault ℕ)) (h : Fronted t party name ty number L f) where
  pub write-refused : (x : Fault ℕ) → f ≡ Err x → (P : List ℕ) → P ≡ replicate room 0 → Writes (writing t party name ty number L X room) number (events_in L) (length X) room (Err x) P
  write-refused x w P z = unmade-writes _ number (events_in L) (length X) room x P ((rw w at h.is) X room) z

pub write-fine : (t : List ℕ) (party name ty number : ℕ) (L : List ℕ) (f : Result Mode (Fault ℕ)) → Fronted t party name ty number L f → (m : Mode) → f ≡ Ok m → Fine t party name ty number L m
write-fine t party name ty number L f h m w = rw w at h.is

-- no event too many, so there is room for each one's note
pub write-room : (t : List ℕ) (party name ty number : ℕ) (L : List ℕ) (m : Mode) → Fine t party name ty number L m → (n : ℕ) → min (events_in L) most_events ≤ n → events_in L ≤ n
write-room t party name ty number L m h n r = let s = h.shape.few in omega arith

-- the root is one row, of no row's number
abbrev root_out : List ℕ → Mode → (name ty : ℕ) → List Bare → List ℕ → Out
root_out t mode name ty = list· t mode most_open name ty no_row 0 1

-- the walk
module _ (t : List ℕ) (party name ty number : ℕ) (L X : List ℕ) (room : ℕ) (mode : Mode) (fine : Fine t party name ty number L mode) where
  pub write-ready : (N : List ℕ) → events_in L ≤ length N → Ready L X N origin
  write-ready N e = let s = fine.shape in record { sized = e; few = s.few; inside = omega arith; used = omega arith; short = omega arith; small = omega arith }

  pub write_known : Rounds t ty no_row 0 1
  write_known =
      let k : ty < types_in t = let k = fine.enters.type_known in omega (arith, types_are t) in
      record { each = λ j h. record { root = λ e. k; row = λ n. absurd (n (omega arith)) }; next = λ j h. omega arith }

  pub write-right : RightFor t mode
  write-right = record { is = fine.enters.table_right; choosing = fine.way.choosing; party_known = rw fine.way.party_is fine.enters.party_known }

  root : write (lengths_is mode.lengths) (held_of t party) (plan_of t name ty mode.choices.derived) (list_of L) X ≡ root_out t mode name ty (events_at L 0) (texts_at X 0)
  unfolding list· row· element· inside· events_at texts_at
  root =
      let n : events_in L - 0 ≡ events_in L = omega arith in
      rw (← fine.way.party_is, n)
      (steps.root-element (lengths_is mode.lengths) (held_of t mode.party) (table_in mode.choices.derived (table_of t)) (list_of L) X name ty
      ∙ sym (along-done (element_out (lengths_is mode.lengths) (held_of t mode.party) (λ y N U. inside_out (lengths_is mode.lengths) (held_of t mode.party) (table_in mode.choices.derived (table_of t)) (most_open - 1) y N U) name (only ty) (list_of L) X)))

  count : length (list_of L) ≡ events_in L
  unfolding events_at
  count = let n : events_in L - 0 ≡ events_in L = omega arith in rw n at (events-count L 0)

  walked : writing t party name ty number L X room ≡ spent (events_in L) (root_out t mode name ty (events_at L 0) (texts_at X 0)) (roomed room (mode_is mode))
  unfolding written
  walked = writing-entered t party name ty number L X room (mode_is mode) fine.enters fine.way.is fine.shape ∙ rw (root, count)

  module _ (N : List ℕ) (r : Judgement) (M : List ℕ) (g : Walks L X (root_out t mode name ty) origin N r M) where
    pub write-stopped : (x : Fault ℕ) → r ≡ Err x → (P : List ℕ) → P ≡ replicate room 0 → Writes (writing t party name ty number L X room) number (events_in L) (length X) room (Err x) P
    unfolding spent
    write-stopped x y P z =
        let k = stopped g x y in
        let i = k.inside in
        let back : events_in L - (events_in L - x.at) ≡ x.at = omega arith in
        unmade-writes _ number (events_in L) (length X) room x P (walked ∙ rw (k.out, back)) z

    module _ (c : Spot) (y : r ≡ Ok c) where
      pub write_done : (same : ℕ) → same ≡ room → (a : Answer) (P : List ℕ) → Writes (ends L X c same (mode_is mode) (between X M origin c)) number (events_in L) (length X) same a P
          → Writes (writing t party name ty number L X room) number (events_in L) (length X) room a P
      write_done same e a P v =
          let u : Writes (ends L X c room (mode_is mode) (between X M origin c)) number (events_in L) (length X) room a P = rw e at v in
          let k = (went g c y).out in
          let z : writing t party name ty number L X room ≡ ends L X c room (mode_is mode) (between X M origin c) = walked ∙ ap (λ (o : Out). spent (events_in L) o (roomed room (mode_is mode))) k in
          rw z u

module _ (L X : List ℕ) (o : Out) (N : List ℕ) (r : Judgement) (M : List ℕ) (g : Walked L X o origin N r M) (c : Spot) (y : r ≡ Ok c) where
  pub write-bits : c.bits ≡ length (between X M origin c)
  write-bits = let k = (went g c y).counts in k ∙ omega arith

  pub write-on : Ready L X M c
  write-on = (went g c y).ready

pub zeros-are : (s : List ℕ) (n : ℕ) → s ≡ replicate n 0 → Zeros s
zeros-are s n e = record { is = e ∙ ap (λ (k : ℕ). replicate k 0) (sym (ap length e ∙ length-replicate n 0)) }

pub ruleset front-ways = (write-refused, write-fine, zeros-are)

pub ruleset write-ways = (write-ready, write-right, write_known, write-stopped, write-bits, write-on, write_done, zeros-are)
