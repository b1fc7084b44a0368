-- The writing of bytes, from the writing of the words that are lent.
use Prim.Native.Nat.{ℕ, suc, ◌/◌, ◌%◌, ◌<◌}
use mathlib.Core.Path.{◌≡◌, refl}
use mathlib.Core.List.{List, [], ◌∷◌}
use mathlib.Core.Bool.{Bool, true, false, cond}
use native.Mathlib.Omega.{arith}
use borrow.Author.Tests.{eq-eqb, ne_eqb, lt-leb}
use lib.Dec.{eqb, leb}
use lib.ListN.{length}
use Rattle.numbers.specs.Refusal as refusal
use Rattle.numbers.specs.Refusal.{no_reading}
use Rattle.numbers.specs.Limit as limit
use Rattle.numbers.specs.Limit.{most_events, most_name, parties}
use Rattle.wire.specs.Res.{Res, got, fault, guard, at_most, ◌>>◌, ◌>>=◌}
use Rattle.table.specs.First.{Verdict}
use Rattle.table.specs.First.Verdict.{right, wrong}
use Rattle.table.specs.Valid.{verdict}
use Rattle.table.specs.Rows.{table_of}
use Rattle.model.specs.Items.{Mode}
use Rattle.model.specs.Whole.{Made, writing, verdict_made, or_unmade, asked, mode_number, modes_for, mode_by, mode_asked, shaped}
use Rattle.model.specs.Whole.Made.{unmade}
use Rattle.buffers.specs.Bytes.{words_of}
use Rattle.buffers.proofs.BytesLaws.{words-length}
use Rattle.call_parts.specs.Calls.{unlisted, write_list, write_bytes}
use Rattle.call_parts.proofs.TableLaws.{whole-verdict}

guards-early : (u v w : Bool) (n : ℕ) → (guard u refusal.root >> (guard v refusal.root >> guard w refusal.party)) ≡ fault n → n ≡ no_reading → ⊥
unfolding guard ◌>>◌
guards-early true true true n e z = let y : ◌≡◌ {A = ℕ} 0 1 = cc in omega arith
guards-early true true false n e z = let y : n ≡ refusal.party = cc in omega arith
guards-early true false w n e z = let y : n ≡ refusal.root = cc in omega arith
guards-early false v w n e z = let y : n ≡ refusal.root = cc in omega arith

by-fault : (l : List Mode) (mode n : ℕ) → mode_by mode_number l mode refusal.write_mode ≡ fault n → n ≡ refusal.write_mode
unfolding mode_by
by-fault [] mode n e = cc
by-fault (m ∷ l) mode n e = go (eqb mode (mode_number m)) e (by-fault l mode n)
  where
    go : (t : Bool) → cond t (got m) (mode_by mode_number l mode refusal.write_mode) ≡ fault n
        → (mode_by mode_number l mode refusal.write_mode ≡ fault n → n ≡ refusal.write_mode) → n ≡ refusal.write_mode
    go true e f = let z : ◌≡◌ {A = ℕ} 0 1 = cc in absurd (omega arith)
    go false e f = f e

mode-fault : (D mode n : ℕ) → mode_asked D mode ≡ fault n → n ≡ refusal.write_mode
unfolding mode_asked
mode-fault D mode n e = by-fault (modes_for D) mode n e

-- a list of another shape than the words that stand for it
module _ (l : List ℕ) (party name type mode : ℕ) where
  -- more events than there may be
  pub too_many : (e x : List ℕ) (room : ℕ) → length e % limit.event ≡ 0 → most_events < length e / limit.event → write_list l party name type mode e x room ≡ unlisted l party name type mode (length e / limit.event)
  unfolding write_list unlisted writing shaped
  too_many e x room h g =
      let n = words-length e in
      let a : length (words_of e) % 4 ≡ 0 = omega arith in
      let b : length (words_of e) / 4 ≡ length e / limit.event = omega arith in
      rw (eq-eqb (length e % limit.event) 0 h, eq-eqb (length (words_of e) % 4) 0 a, b, lt-leb (length e / limit.event) most_events g)

  pub no-list : (e x : List ℕ) (room : ℕ) → (length e % limit.event ≡ 0 → ⊥) → write_list l party name type mode e x room ≡ unlisted l party name type mode (length e / limit.event)
  unfolding write_list
  no-list e x room h = rw (ne_eqb (length e % limit.event) 0 h)

  pub whole-list : (e x : List ℕ) (room : ℕ) → length e % limit.event ≡ 0 → write_list l party name type mode e x room ≡ writing l party name type mode (words_of e) x room
  unfolding write_list
  whole-list e x room h = rw (eq-eqb (length e % limit.event) 0 h)

  -- one word is no list
  pub one_word : (w : ℕ) (x : List ℕ) (room : ℕ) → writing l party name type mode (w ∷ []) x room ≡ unlisted l party name type mode 0
  unfolding writing unlisted shaped
  one_word w x room = refl

  -- no_reading is at the place that is asked for, and no number before it depends on that place
  pub data Unlisted : Type 0 where
    early : (k p : ℕ) → (k ≡ no_reading → ⊥) → ((n : ℕ) → unlisted l party name type mode n ≡ unmade k p) → Unlisted
    late : ((n : ℕ) → unlisted l party name type mode n ≡ unmade no_reading n) → Unlisted

  asked-early : (types n : ℕ) → asked types party name type ≡ fault n → n ≡ no_reading → ⊥
  unfolding asked at_most ◌>>◌ ◌>>=◌
  asked-early types n e = guards-early (leb (suc type) types) (leb name most_name) (leb (suc party) parties) n e

  pub unlisted-is : Unlisted
  unfolding unlisted verdict_made or_unmade
  unlisted-is = by-verdict (verdict l) (asked (table_of l).types party name type) (mode_asked (table_of l).derivations mode) refl refl refl
    where
      by-verdict : (v : Verdict) (a : Res Unit) (m : Res Mode) → verdict l ≡ v → asked (table_of l).types party name type ≡ a → mode_asked (table_of l).derivations mode ≡ m → Unlisted
      by-verdict (wrong i) a m e f g = early 1 i (λ z. omega arith) (λ n. rw e)
      by-verdict right (fault k) m e f g = early k 0 (asked-early (table_of l).types k f) (λ n. rw (e, f))
      by-verdict right (got u) (fault k) e f g = early k 0 (λ z. omega (arith, mode-fault (table_of l).derivations mode k g)) (λ n. rw (e, f, g))
      by-verdict right (got u) (got m) e f g = late (λ n. rw (e, f, g))

-- the table's verdict stands first in every writing
once : (v : Verdict) (r : Made) → verdict_made v (verdict_made v r) ≡ verdict_made v r
unfolding verdict_made
once right r = refl
once (wrong i) r = refl

module _ (l : List ℕ) (party name type mode : ℕ) (e x : List ℕ) (room : ℕ) where
  pub list-once : verdict_made (verdict l) (write_list l party name type mode e x room) ≡ write_list l party name type mode e x room
  unfolding write_list writing unlisted
  list-once = go (eqb (length e % limit.event) 0)
    where
      go : (b : Bool) → verdict_made (verdict l) (cond b (writing l party name type mode (words_of e) x room) (unlisted l party name type mode (length e / limit.event)))
          ≡ cond b (writing l party name type mode (words_of e) x room) (unlisted l party name type mode (length e / limit.event))
      go true = once (verdict l) _
      go false = once (verdict l) _

-- a whole table's bytes are written by as its words are
pub whole-writes : (t : List ℕ) → length t % 4 ≡ 0 → (party name type mode : ℕ) (E X : List ℕ) (room : ℕ) → write_bytes t party name type mode E X room ≡ write_list (words_of t) party name type mode E X room
unfolding write_bytes
whole-writes t w party name type mode E X room = rw (whole-verdict t w) (list-once (words_of t) party name type mode E X room)
