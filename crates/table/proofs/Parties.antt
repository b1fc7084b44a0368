-- Marks of parties: a word's bits, and one of them set or cleared.
use Prim.Native.Nat.{ℕ, ◌+◌, ◌-◌, ◌*◌, ◌/◌, ◌%◌, ◌^◌, ◌<◌, ◌≤◌}
use mathlib.Core.Path.{◌≡◌, sym, ◌∙◌}
use mathlib.Core.Bool.{false}
use mathlib.Core.List.{List}
use native.Mathlib.Omega.{arith}
use native.Mathlib.Nat.{div-eq_of_lt, lt_of_lt_of_le, one-mul}
use lib.Pow.{pow_mono, shl_exact}
use borrow.Author.Tests.{eq-eqb, ne_eqb, lt-ltb, le-ltb}
use lib.ListN.{length, set}
use Rattle.numbers.specs.Limit.{parties, most_held}
use Rattle.numbers.specs.Refusal as refusal
use Rattle.table.specs.First.Verdict.{right}
use Rattle.table.specs.Valid.{verdict}
use Rattle.std.specs.Prelude.{Ok, Err}
use Rattle.table.specs.Words.{word_at, type_at, types_in}
use Rattle.table.specs.Rows.{table_of, held_of}
use Rattle.table.specs.Setting.{marked, Setting, setting_by, setting, refuses}
use Rattle.table.specs.Views.{Checked, verdict_is}
use Rattle.table.specs.declared.answers.Flaw.{Flaw}
use Rattle.table.proofs.Bits.{bit-under}
use Rattle.table.proofs.Laws.{mark-ok, sized, rows-within}

-- a word has no bit from 32 on
past_word : (w p : ℕ) → w < 2 ^ 32 → 32 ≤ p → w / 2 ^ p % 2 ≡ 0
past_word w p h k = rw (div-eq_of_lt (lt_of_lt_of_le h (pow_mono k)))

pub held-past : (l : List ℕ) (p t w i : ℕ) → i ≡ type_at t → w ≡ word_at l i → w < 2 ^ 32 → 32 ≤ p → false ≡ held_of l p t
unfolding held_of
held-past l p t w i a e h k = rw (← a, ← e, past_word w p h k)

-- a party's bit of a word, as the code reckons it
module _ (p : ℕ) (h : p < parties) where
  bit_is : 1 * 2 ^ p % 2 ^ 32 ≡ 2 ^ p
  bit_is = shl_exact 1 p 32 (omega arith) (omega arith) ∙ one-mul (2 ^ p)

  bit-small : 2 ^ p ≤ 128
  bit-small = pow_mono {i = p} {j = 7} (omega arith)

  module _ (w : ℕ) (k : w ≤ most_held) where
    pub marked-fits : w / 2 ^ p % 2 * (1 * 2 ^ p % 2 ^ 32) < 2 ^ 32
    marked-fits = rw bit_is (omega (arith, bit-under w p))

    pub marked-old : w / 2 ^ p % 2 * (1 * 2 ^ p % 2 ^ 32) ≤ w
    marked-old = rw bit_is (bit-under w p)

    pub marked-new : w - w / 2 ^ p % 2 * (1 * 2 ^ p % 2 ^ 32) + 1 * 2 ^ p % 2 ^ 32 < 2 ^ 32
    marked-new = rw bit_is (omega (arith, bit-under w p, bit-small))

    pub marked-clear : (m : ℕ) → m ≡ 0 → w - w / 2 ^ p % 2 * (1 * 2 ^ p % 2 ^ 32) ≡ marked p m w
    unfolding marked
    marked-clear m e = rw (eq-eqb m 0 e, bit_is) (omega arith)

    pub marked-set : (m : ℕ) → (m ≡ 0 → ⊥) → w - w / 2 ^ p % 2 * (1 * 2 ^ p % 2 ^ 32) + 1 * 2 ^ p % 2 ^ 32 ≡ marked p m w
    unfolding marked
    marked-set m e = rw (ne_eqb m 0 e, bit_is)

pub ruleset marked-ways = (marked-fits, marked-old, marked-new, marked-clear, marked-set)

-- a mark set in a table that is right
module _ (l : List ℕ) (party t mark known : ℕ) (e : known ≡ (table_of l).types) where
  same : known ≡ types_in l
  unfolding table_of
  same = e

  pub set-type : known ≤ t → refuses l party t mark refusal.root 0 ≡ setting_by l party t mark right
  unfolding setting_by
  set-type h = rw (le-ltb t (types_in l) (omega (arith, same)))

  module _ (h : t < known) where
    pub set-party : parties ≤ party → refuses l party t mark refusal.party 0 ≡ setting_by l party t mark right
    unfolding setting_by
    set-party k = rw (lt-ltb t (types_in l) (omega (arith, same)), le-ltb party parties k)

    module _ (k : party < parties) (i : ℕ) (a : i ≡ type_at t) where
      pub set-place : verdict l ≡ right → i < length l
      set-place v = omega (arith, same, rows-within l (sized l v))

      module _ (w : ℕ) (b : w ≡ word_at l i) where
        pub set-marks : verdict l ≡ right → w ≤ most_held
        set-marks v = rw (b, a) (mark-ok l v t (omega (arith, same)))

        pub set-done : (x : ℕ) → x ≡ marked party mark w
            → record { number = refusal.accepted; place = 0; words = set l i x } ≡ setting_by l party t mark right
        unfolding setting_by
        set-done x c = rw (lt-ltb t (types_in l) (omega (arith, same)), lt-ltb party parties k, c, b, a)

pub ruleset set-ways = (set-type, set-party, set-place, set-marks, set-done)

-- by the verdict
module _ (l : List ℕ) (party t mark : ℕ) (v : Checked) (e : verdict_is v ≡ verdict l) where
  pub set-wrong : (k : Flaw) → v ≡ Err k → refuses l party t mark refusal.table k.0 ≡ setting l party t mark
  unfolding setting setting_by
  set-wrong k g = rw (← e, g)

  pub set-right : v ≡ Ok tt → verdict l ≡ right
  set-right g = sym e ∙ rw g

  pub set-checked : v ≡ Ok tt → (r : Setting) → r ≡ setting_by l party t mark right → r ≡ setting l party t mark
  unfolding setting
  set-checked g r f = f ∙ rw (set-right g)

pub ruleset setting-ways = (set-wrong, set-right, set-checked)
