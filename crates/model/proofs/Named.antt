-- A REFUSAL HAS A NUMBER, from 1 on: of the codes, read and written. NamedReading and NamedWriting say it of the entries.
use Prim.Native.Nat.{ℕ, zero, suc, ◌+◌, ◌*◌, ◌≤◌}
use mathlib.Core.Bool.{Bool, true, false, cond}
use native.Mathlib.Omega.{arith}
use lib.Dec.{leb, ltb, eqb}
use mathlib.Core.List.{List}
use lib.ListN.{length, take}
use Rattle.wire.specs.Res.{Res, got, fault, ◌>>=◌, ◌>>◌, guard, at_most}
use Rattle.wire.specs.Bits.{fixed_at}
use Rattle.wire.specs.Width.{width}
use Rattle.wire.specs.Number.{ones_at, groups_at, number5, strict, read5}
use Rattle.utf8.specs.Text.{text_fault}
use Rattle.value.specs.Code.{Code, choice, five, signed, some, shifted, stamp, choice_at, number_at, signed_of, some_of, clock_at, code_at, fits, code_out}
use Rattle.value.specs.Simple.{Simple, plain, text, dated, count, bytes_at, unless, text_of, untexted, simple_at}
use Rattle.model.specs.Model.{Item, Types, default_type}
use Rattle.model.specs.Items.{Lengths, flag, Form, present, simply, form_of, form_at, item_at, length_at, head_at, substitute_code, type_code, codes_at}
use Rattle.model.specs.Write.{simple_out, form_out, item_out, standing, codes_out}

abbrev pub Named : {A : Type 0} → Res A → Type 0
Named (got a) = Unit
Named (fault n) = 1 ≤ n

module _ {B : Type 0} where
  pub named-bind : {A : Type 0} (m : Res A) (k : A → Res B) → Named m → ((a : A) → Named (k a)) → Named (m >>= k)
  unfolding ◌>>=◌
  named-bind (got a) k h f = f a
  named-bind (fault n) k h f = h

  pub named-cond : (t : Bool) (x y : Res B) → Named x → Named y → Named (cond t x y)
  named-cond true x y h k = h
  named-cond false x y h k = k

  pub named-guard : (t : Bool) (e : ℕ) (m : Res B) → 1 ≤ e → Named m → Named (guard t e >> m)
  unfolding ◌>>◌ guard
  named-guard true e m h k = k
  named-guard false e m h k = h

  pub named-most : (a b e : ℕ) (m : Res B) → 1 ≤ e → Named m → Named (at_most a b e >> m)
  unfolding at_most
  named-most a b e m h k = named-guard (leb a b) e m h k

  pub named-unless : (n : ℕ) (m : Res B) → Named m → Named (unless n >> m)
  unfolding ◌>>◌ unless
  named-unless zero m h = h
  named-unless (suc n) m h = omega arith

-- the codes
module _ (b : ℕ → ℕ) (wall : ℕ) where
  fixed_named : (at w : ℕ) → Named (fixed_at b wall at w)
  unfolding fixed_at
  fixed_named at w = named-cond (leb (at + w) wall) _ _ tt (omega arith)

  ones-named : (f at k : ℕ) → Named (ones_at f b wall at k)
  unfolding ones_at
  ones-named zero at k = omega arith
  ones-named (suc f) at k = named-cond (ltb at wall) _ _ (named-cond (eqb (b at) 0) _ _ tt (ones-named f (at + 1) (k + 1))) (omega arith)

  number-named : (at : ℕ) → Named (number5 b wall at)
  unfolding number5 groups_at
  number-named at =
      named-bind (ones_at 8 b wall at 0) _ (ones-named 8 at 0) (λ r. named-bind (fixed_at b wall r.1 (4 * (r.0 + 1))) _ (fixed_named r.1 (4 * (r.0 + 1))) (λ s. tt))

  five-named : (at : ℕ) → Named (read5 b wall at)
  unfolding read5 strict
  five-named at = named-bind (number5 b wall at) _ (number-named at) (λ r. named-cond r.2 _ _ tt (omega arith))

  choice-named : (n at : ℕ) → Named (choice_at b n wall at)
  unfolding choice_at
  choice-named n at = named-bind (fixed_at b wall at (width n)) _ (fixed_named at (width n)) (λ r. named-most (r.0 + 1) n 14 _ (omega arith) tt)

  signed-named : (s m p : ℕ) → Named (signed_of s m p)
  unfolding signed_of
  signed-named zero m p = named-most _ _ 13 _ (omega arith) tt
  signed-named (suc k) m p = named-most _ _ 13 _ (omega arith) (named-most _ _ 15 _ (omega arith) tt)

  some-named : (rd : ℕ → Res (ℕ × ℕ)) → ((p : ℕ) → Named (rd p)) → (f p : ℕ) → Named (some_of rd f p)
  unfolding some_of
  some-named rd h zero p = tt
  some-named rd h (suc k) p = named-bind (rd p) _ (h p) (λ r. named-most _ _ 14 _ (omega arith) tt)

  clock-named : (clock : Bool) (n at : ℕ) → Named (clock_at clock b wall n at)
  unfolding clock_at
  clock-named true n at = named-bind (fixed_at b wall at 32) _ (fixed_named at 32) (λ r. named-most _ _ 14 _ (omega arith) tt)
  clock-named false n at = tt

  code-named : (c : Code) (at : ℕ) → Named (code_at c b wall at)
  unfolding code_at number_at
  code-named (choice n) at = choice-named n at
  code-named (five most) at = named-bind (read5 b wall at) _ (five-named at) (λ r. named-most _ _ 13 _ (omega arith) tt)
  code-named signed at =
      named-bind (choice_at b 2 wall at) _ (choice-named 2 at) (λ r. named-bind (read5 b wall r.1) _ (five-named r.1) (λ s. signed-named r.0 s.0 s.1))
  code-named (some c) at = named-bind (choice_at b 2 wall at) _ (choice-named 2 at) (λ r. some-named (code_at c b wall) (code-named c) r.0 r.1)
  code-named (shifted lo c) at = named-bind (code_at c b wall at) _ (code-named c at) (λ r. named-most _ _ 13 _ (omega arith) tt)
  code-named (stamp clock) at = named-bind (fixed_at b wall at 32) _ (fixed_named at 32) (λ r. clock-named clock r.0 r.1)

  simple-named : (s : Simple) (at : ℕ) → Named (simple_at s b wall at)
  unfolding simple_at untexted text_of
  simple-named (plain c) at = named-bind (code_at c b wall at) _ (code-named c at) (λ r. tt)
  simple-named text at =
      named-bind (code_at count b wall at) _ (code-named count at)
      (λ r. named-most _ _ 5 _ (omega arith) (named-unless (text_fault (bytes_at b r.1 r.0)) _ tt))
  simple-named (dated c) at = named-bind (code_at c b wall at) _ (code-named c at) (λ r. tt)

  form-named : (f : Form) (at : ℕ) → Named (form_at f b wall at)
  unfolding form_at
  form-named present at = tt
  form-named (simply s) at = simple-named s at

  pub item-named : (i : Item) (at : ℕ) → Named (item_at i b wall at)
  unfolding item_at
  item-named i at = form-named (form_of i) at

  length-named : (f at : ℕ) → Named (length_at f b wall at)
  unfolding length_at
  length-named zero at = tt
  length-named (suc k) at = named-bind (number5 b wall at) _ (number-named at) (λ r. named-most _ _ 10 _ (omega arith) tt)

  pub head-named : (mode : Lengths) (at : ℕ) → Named (head_at mode b wall at)
  unfolding head_at
  head-named Lengths.never at = tt
  head-named Lengths.optional at = named-bind (code_at flag b wall at) _ (code-named flag at) (λ r. length-named r.0 r.1)
  head-named Lengths.always at = length-named 1 at

  pub codes-named : (y : Types) (at : ℕ) → Named (codes_at y b wall at)
  unfolding codes_at
  codes-named y at =
      named-bind (code_at (substitute_code y) b wall at) _ (code-named (substitute_code y) at)
      (λ r. named-bind (code_at (type_code y r.0) b wall r.1) _ (code-named (type_code y r.0) r.1) (λ s. tt))

-- the codes of the writing
code-out-named : (c : Code) (v : ℕ) → Named (code_out c v)
unfolding code_out
code-out-named c v = named-guard (fits c v) 20 _ (omega arith) tt

simple-out-named : (s : Simple) (v : ℕ) (T : List ℕ) → Named (simple_out s v T)
unfolding simple_out
simple-out-named (plain c) v T = named-bind (code_out c v) _ (code-out-named c v) (λ w. tt)
simple-out-named text v T =
    named-bind (code_out count v) _ (code-out-named count v) (λ w. named-most v (length T) 23 _ (omega arith) (named-unless (text_fault (take v T)) _ tt))
simple-out-named (dated c) v T = named-bind (code_out c v) _ (code-out-named c v) (λ w. tt)

form-out-named : (f : Form) (v : ℕ) (T : List ℕ) → Named (form_out f v T)
unfolding form_out
form-out-named present v T = tt
form-out-named (simply s) v T = simple-out-named s v T

pub item-out-named : (i : Item) (v : ℕ) (T : List ℕ) → Named (item_out i v T)
unfolding item_out
item-out-named i v T = form-out-named (form_of i) v T

pub codes-out-named : (y : Types) (t k : ℕ) → Named (codes_out y t k)
unfolding codes_out
codes-out-named y t k =
    named-bind (code_out (substitute_code y) k) _ (code-out-named (substitute_code y) k)
    (λ c. named-bind (code_out (type_code y k) (standing t (default_type y k) (y.derived (default_type y k)))) _ (code-out-named (type_code y k) (standing t (default_type y k) (y.derived (default_type y k)))) (λ d. tt))
