-- THE READER'S NUMBER: a refusal's is from 1 on, so an answer with the number 0 is an acceptance.
use Prim.Native.Nat.{ℕ, suc, ◌≤◌}
use mathlib.Core.Path.{◌≡◌, refl}
use mathlib.Core.Bool.{Bool, true, false}
use mathlib.Core.List.{List, [], ◌∷◌}
use native.Mathlib.Omega.{arith}
use lib.Dec.{leb, eqb}
use lib.ListN.{length, get_or}
use Rattle.numbers.specs.Refusal as refusal
use Rattle.wire.specs.Res.{guard, at_most}
use Rattle.table.specs.Rows.{table_of}
use Rattle.model.specs.Model.{Plan, Path}
use Rattle.model.specs.Items.{Lengths, Mode}
use Rattle.model.proofs.ItemLaws.{stop_of}
use Rattle.model.specs.Read.{Room}
use Rattle.model.proofs.Readings.{Stop, too-deep, no_item, no_bytes, no_slot, no_head, unheld, no_start, no-blank, Refuses, here, no-codes, no-cast, inside, unmet, no_end, later}
use Rattle.model.specs.Whole.{mode_byte, modes_for, mode_by, mode_of, Reply, accepted, declined, asked, reading, outcome}
use Rattle.model.proofs.Replies.{Replies, no_table, no-root, no_mode, stopped, unpadded, reading-replies}
use Rattle.model.proofs.Named.{Named, named-cond, named-most, item-named, head-named, codes-named}
use Rattle.theorems.specs.NamedReading.{Accepts}

-- the reading of a plan
module _ (b : ℕ → ℕ) (mode : Lengths) (held : ℕ → Bool) where
  stop-numbered : {P : Plan} {r : Room} {wall at n : ℕ} → Stop b mode held r wall at P n → 1 ≤ n
  stop-numbered too-deep = omega arith
  stop-numbered {wall} {at} (no_item {i} e) = rw e at (item-named b wall i at)
  stop-numbered (no_bytes e h) = omega arith
  stop-numbered (no_slot e h k) = omega arith
  stop-numbered {wall} {at} (no_head e) = rw e at (head-named b wall mode at)
  stop-numbered (unheld x h z) = omega arith
  stop-numbered (no_start x z k) = omega arith
  stop-numbered (no-blank n x h z k) = omega arith

  refuses-numbered : {P : Plan} {r : Room} {π ρ : Path} {wall at n p : ℕ} → Refuses b mode held P r π wall at n p ρ
      → 1 ≤ n
  refuses-numbered (here x) = stop-numbered x
  refuses-numbered (no-codes {body} {y} {wall} h e c) = rw c at (codes-named b (stop_of h body wall) y body)
  refuses-numbered (no-cast x z c s) = omega arith
  refuses-numbered (inside x z s d) = refuses-numbered d
  refuses-numbered (unmet x z s g e) = omega arith
  refuses-numbered (no_end x z s g e h) = omega arith
  refuses-numbered (later f d) = refuses-numbered d

-- the entry
pub by-named : (f : Mode → ℕ) (l : List Mode) (x e : ℕ) → 1 ≤ e → Named (mode_by f l x e)
unfolding mode_by
by-named f [] x e h = h
by-named f (m ∷ l) x e h = named-cond (eqb x (f m)) _ _ tt (by-named f l x e h)

mode-named : (D : ℕ) (s : List ℕ) → Named (mode_of D s)
unfolding mode_of
mode-named D s =
    named-most 1 (length s) 3 _ (omega arith)
    (named-most (length s) 8192 3 _ (omega arith) (by-named mode_byte (modes_for D) (get_or s 0 0) refusal.mode_byte (omega arith)))

pub asked-named : (types party name type : ℕ) → Named (asked types party name type)
unfolding asked at_most guard
asked-named types party name type =
    named-most (suc type) types 2 _ (omega arith) (named-most name 65535 2 _ (omega arith) (guard-named (leb (suc party) 8)))
  where
    guard-named : (t : Bool) → Named (guard t 26)
    guard-named true = tt
    guard-named false = omega arith

replies-numbered : {l : List ℕ} {party name type : ℕ} {s : List ℕ} {words bytes n p : ℕ} {π : Path}
    → Replies l party name type s words bytes (declined n p π) → 1 ≤ n
replies-numbered (no_table v) = omega arith
replies-numbered {l} {party} {name} {type} (no-root v a) = rw a at (asked-named (table_of l).types party name type)
replies-numbered {l} {s} (no_mode v a m) = rw m at (mode-named (table_of l).derivations s)
replies-numbered (stopped {mode} i r) = refuses-numbered _ mode.lengths _ r
replies-numbered (unpadded i r e) = omega arith

-- 0 is an acceptance
pub zero-accepts : (l : List ℕ) (party name type : ℕ) (s : List ℕ) (words bytes : ℕ)
    → (outcome (reading l party name type s words bytes)).number ≡ 0 → Accepts (reading l party name type s words bytes)
unfolding outcome
zero-accepts l party name type s words bytes e =
    go (reading l party name type s words bytes) refl (reading-replies l party name type s words bytes) e
  where
    go : (R : Reply) → reading l party name type s words bytes ≡ R → Replies l party name type s words bytes R
        → (outcome R).number ≡ 0 → Accepts (reading l party name type s words bytes)
    go (accepted mode ns q) x h z = record { mode = mode; list = ns; bits = q; is = x }
    go (declined n p π) x h z = absurd (let k = replies-numbered h in omega arith)
