-- A table's bytes that are judged right, and the numbers of the writing of a list that is no whole one.
use Prim.Native.Nat.{ℕ, ◌/◌, ◌%◌}
use mathlib.Core.Path.{◌≡◌, refl}
use mathlib.Core.Bool.{Bool, true, false, cond}
use mathlib.Core.List.{List}
use native.Mathlib.Omega.{arith}
use borrow.Author.Tests.{eqb-true, eq-eqb}
use lib.Dec.{eqb}
use lib.ListN.{length}
use Rattle.table.specs.First.{Verdict, first, ◌then◌}
use Rattle.table.specs.First.Verdict.{right, wrong}
use Rattle.table.specs.Valid.{header_words, verdict}
use Rattle.buffers.specs.Bytes.{words_of}
use Rattle.call_parts.specs.Area.{area_bytes}
use Rattle.call_parts.specs.Calls.{lent, judged, table_verdict, check_table}

never-right : (v : Verdict) (i : ℕ) → (v then wrong i) ≡ right → ⊥
unfolding ◌then◌
never-right right i e = let z : ◌≡◌ {A = ℕ} 0 1 = cc in omega arith
never-right (wrong j) i e = let z : ◌≡◌ {A = ℕ} 0 1 = cc in omega arith

module _ (t : List ℕ) where
  pub right-whole : table_verdict t ≡ right → (length t % 4 ≡ 0) × (verdict (words_of t) ≡ right)
  unfolding table_verdict
  right-whole e = go (eqb (length t % 4) 0) refl e
    where
      go : (b : Bool) → eqb (length t % 4) 0 ≡ b
          → cond b (verdict (words_of t)) (first 0 (header_words (words_of t)) then wrong (length t / 4)) ≡ right
          → (length t % 4 ≡ 0) × (verdict (words_of t) ≡ right)
      go true y z = (eqb-true (length t % 4) 0 y, z)
      go false y z = absurd (never-right (first 0 (header_words (words_of t))) (length t / 4) z)

  pub whole-right : length t % 4 ≡ 0 → verdict (words_of t) ≡ right → table_verdict t ≡ right
  unfolding table_verdict
  whole-right e f = rw (eq-eqb (length t % 4) 0 e, f)

  -- `bim_check_table` gives 0 only of such a table
  pub checked-right : (check_table t area_bytes).number ≡ 0 → table_verdict t ≡ right
  unfolding check_table lent
  checked-right e = go (table_verdict t) refl e
    where
      go : (v : Verdict) → table_verdict t ≡ v → (judged v).number ≡ 0 → table_verdict t ≡ right
      go right y z = y
      go (wrong i) y z = absurd (omega arith)
