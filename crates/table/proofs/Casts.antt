-- What a table says of derived types and substitutes: lists of types as they stand in the words, and what a right table keeps to in them.
use Prim.Native.Nat.{ℕ, zero, suc, ◌+◌, ◌*◌, ◌<◌}
use mathlib.Core.Path.{◌≡◌, refl, ap, sym}
use mathlib.Core.List.{List}
use mathlib.Core.Bool.{true, false}
use native.Mathlib.Omega.{arith}
use lib.ListN.{length, get_or}
use Rattle.table.specs.Runs.{RunAt}
use Rattle.table.proofs.OneRow.{read}
use Rattle.table.specs.Words.{word_at, derived_at, substitute_at, type_pair_at, row_pair_at, types_in, rows_end, derivations_in, substitutes_in}
use Rattle.table.specs.Rows.{substitutes_from, substitutes_of, derived_from, derived_of, table_of}
use Rattle.table.specs.Views.{Listed, listed_at}
use Rattle.table.specs.declared.answers.TypeList as code·types

module _ (l : List ℕ) where
  pub derived-length : (n i : ℕ) → length (derived_from l n i) ≡ n
  unfolding derived_from
  derived-length zero i = refl
  derived-length (suc n) i = ap suc (derived-length n (i + 1))

  pub derived-each : (n i k : ℕ) → k < n → get_or (derived_from l n i) k 0 ≡ word_at l (derived_at (rows_end l) (i + k))
  unfolding derived_from
  derived-each zero i k h = absurd (omega arith)
  derived-each (suc n) i zero h = let e : i + 0 ≡ i = omega arith in rw e
  derived-each (suc n) i (suc k) h = let e : i + 1 + k ≡ i + suc k = omega arith in rw e at (derived-each n (i + 1) k (omega arith))

  pub substitutes-length : (n i : ℕ) → length (substitutes_from l n i) ≡ n
  unfolding substitutes_from
  substitutes-length zero i = refl
  substitutes-length (suc n) i = ap suc (substitutes-length n (i + 1))

  pub substitutes-each : (n i k : ℕ) → k < n → get_or (substitutes_from l n i) k 0 ≡ word_at l (substitute_at (rows_end l) (derivations_in l) (i + k) + 1)
  unfolding substitutes_from
  substitutes-each zero i k h = absurd (omega arith)
  substitutes-each (suc n) i zero h = let e : i + 0 ≡ i = omega arith in rw e
  substitutes-each (suc n) i (suc k) h = let e : i + 1 + k ≡ i + suc k = omega arith in rw e at (substitutes-each n (i + 1) k (omega arith))

  -- lists as the code finds them, behind the rows' end
  module _ (end entries swaps : ℕ) (e : end ≡ rows_end l) (d : entries ≡ derivations_in l) (s : swaps ≡ substitutes_in l) (pair : ℕ) (w : List ℕ) (words : RunAt l pair 2 w) where
    start : word_at w 0 ≡ word_at l pair
    start = read words 0 pair (omega arith) (omega arith)

    count : word_at w 1 ≡ word_at l (pair + 1)
    count = read words 1 (pair + 1) (omega arith) (omega arith)

    pub derived-listed : (t first : ℕ) → pair ≡ type_pair_at end entries swaps t → first ≡ derived_at end (word_at w 0)
        → Listed l ((table_of l).derived t) (record { first = first; paired = false; count = word_at w 1 })
    unfolding table_of derived_of listed_at
    derived-listed t first p f =
        let is : derived_of l t ≡ derived_from l (word_at w 1) (word_at w 0) = cc (e, d, s, p, start, count) in
        rw is (record {
          count-is = sym (derived-length (word_at w 1) (word_at w 0));
          each = λ k h. let q : first + k ≡ derived_at (rows_end l) (word_at w 0 + k) = omega (arith, e) in rw q (sym (derived-each (word_at w 1) (word_at w 0) k h));
        })

    pub substitutes-listed : (T row first : ℕ) → T ≡ types_in l → pair ≡ row_pair_at end entries swaps T row → first ≡ substitute_at end entries (word_at w 0) + 1
        → Listed l ((table_of l).substitutes row) (record { first = first; paired = true; count = word_at w 1 })
    unfolding table_of substitutes_of listed_at
    substitutes-listed T row first t p f =
        let is : substitutes_of l row ≡ substitutes_from l (word_at w 1) (word_at w 0) = cc (e, d, s, t, p, start, count) in
        rw is (record {
          count-is = sym (substitutes-length (word_at w 1) (word_at w 0));
          each = λ k h. let q : first + 2 * k ≡ substitute_at (rows_end l) (derivations_in l) (word_at w 0 + k) + 1 = omega (arith, e, d) in rw q (sym (substitutes-each (word_at w 1) (word_at w 0) k h));
        })

  pub one-paired : (r : code·types.TypeList) (k x : ℕ) → r.paired ≡ true → x ≡ word_at l (r.first + 2 * k) → x ≡ word_at l (listed_at r k)
  unfolding listed_at
  one-paired r k x e f = rw e f

  pub one-alone : (r : code·types.TypeList) (k x : ℕ) → r.paired ≡ false → x ≡ word_at l (r.first + k) → x ≡ word_at l (listed_at r k)
  unfolding listed_at
  one-alone r k x e f = rw e f
