-- Of whatever is so: the events' bits add up to the bits, and each of these is a bit.
use Prim.Native.Nat.{ℕ, zero, suc, ◌+◌, ◌*◌}
use mathlib.Core.Path.{◌≡◌, refl, ap}
use mathlib.Core.Bool.{Bool, true, false, cond, true≢false}
use mathlib.Core.List.{List, [], ◌∷◌, ◌++◌}
use native.Mathlib.Omega.{arith}
use lib.ListN.{length, replicate, length-append}
use Rattle.numbers.specs.Kind as kinds
use Rattle.wire.specs.Bits.{digits}
use Rattle.wire.specs.Width.{width, least_from}
use Rattle.wire.specs.Number.{code5, code_of5, more}
use Rattle.signed.specs.Words.{sign_of, magnitude_of}
use Rattle.value.specs.Code.{Code, HasCode, choice, five, signed, some, shifted, stamp, word_less, choice_bits, bits_of}
use Rattle.std.specs.Prelude.{Option, Some, None}
use Rattle.value.specs.Dates.{day_in, clock_in, stamp_bits, day_bits}
use Rattle.value.specs.Simple.{one_of, Simple, bytes, SimpleIs, a_code, a_text, a_date}
use Rattle.model.specs.Model.{Item, event, Types, codes, sends, chosen, default_type, effective_type, Plan, Nodes, tree_bits as total, event_of}
use Rattle.model.specs.Model.Nodes.{leaf}
use Rattle.model.specs.Model.Item.{required, optional, valued, picked, counted}
use Rattle.model.specs.Items.{Lengths, FormIs, is_present, is_simple, Form, Length, HeadIs, no_head, flag_off, flag_on, head_on, CodesAre, both, substitute_code, type_code}
use Rattle.model.specs.Grammar.{Bits, cast_in, Is, nothing, an_item, an_element, a_blank}

pub bits-append : (w x : List ℕ) → Bits w → Bits x → Bits (w ++ x)
bits-append [] x h k = k
bits-append (y ∷ w) x h k = (h.0, bits-append w x h.1 k)

digits-bits : (w v : ℕ) → Bits (digits w v)
unfolding digits
digits-bits zero v = tt
digits-bits (suc w) v = bits-append (digits w (_)) _ (digits-bits w _) (omega arith, tt)

ones-bits : (n : ℕ) → Bits (replicate n 1)
ones-bits zero = tt
ones-bits (suc n) = (omega arith, ones-bits n)

groups-bits : (n v : ℕ) → Bits (code_of5 n v)
unfolding code_of5
groups-bits n v = bits-append (replicate n 1) (0 ∷ digits (4 * (n + 1)) v) (ones-bits n) (omega arith, digits-bits (4 * (n + 1)) v)

five-bits : (v : ℕ) → Bits (code5 v)
unfolding code5
five-bits v = groups-bits (more 7 v) v

day-bits : (clock : Bool) (d : Option ℕ) (ms : ℕ) → Bits (day_bits clock d ms)
unfolding day_bits stamp_bits
day-bits true (Some n) ms = bits-append (digits 32 n) (digits 32 ms) (digits-bits 32 n) (digits-bits 32 ms)
day-bits false (Some n) ms = bits-append (digits 32 n) [] (digits-bits 32 n) tt
day-bits clock None ms = tt

code-bits : (c : Code) (v : ℕ) → Bits (bits_of c v)
unfolding bits_of
code-bits (choice n) v = digits-bits (width n) v
code-bits (five n) v = five-bits v
code-bits signed v = bits-append (choice_bits 2 (sign_of v)) (code5 (magnitude_of v)) (digits-bits (width 2) (sign_of v)) (five-bits (magnitude_of v))
code-bits (some c) zero = digits-bits (width 2) 0
code-bits (some c) (suc k) = bits-append (choice_bits 2 1) (bits_of c (suc k)) (digits-bits (width 2) 1) (code-bits c (suc k))
code-bits (shifted lo c) v = code-bits c (word_less lo v)
code-bits (stamp clock) v = day-bits clock (day_in v) (clock_in v)

bytes_bits : (l : List ℕ) → Bits (bytes l)
unfolding bytes
bytes_bits [] = tt
bytes_bits (x ∷ l) = bits-append (digits 8 x) (bytes l) (digits-bits 8 x) (bytes_bits l)

simple-bits : {s : Simple} {v : ℕ} {ts w : List ℕ} → SimpleIs s v ts w → Bits w
simple-bits (a_code {c} {v} h) = code-bits c v
simple-bits (a_text {l} h k z) = bits-append (bits_of _ (length l)) (bytes l) (code-bits _ (length l)) (bytes_bits l)
simple-bits (a_date {c} {v} h) = code-bits c v

form-bits : {f : Form} {v : ℕ} {ts w : List ℕ} → FormIs f v ts w → Bits w
form-bits is_present = tt
form-bits (is_simple h) = simple-bits h

head-bits : {mode : Lengths} {h : Length} {s : List ℕ} → HeadIs mode h s → Bits s
head-bits no_head = tt
head-bits flag_off = code-bits _ 0
head-bits (flag_on {n} ones h) = bits-append (bits_of _ 1) (code_of5 ones n) (code-bits _ 1) (groups-bits ones n)
head-bits (head_on {n} ones h) = groups-bits ones n

codes-bits : {y : Types} {t k : ℕ} {c : List ℕ} → CodesAre y t k c → Bits c
codes-bits (both {k} j h g) = bits-append (bits_of _ k) (bits_of _ j) (code-bits _ k) (code-bits _ j)

-- where there is nothing to choose from no codes are sent: they have no bits, and the type is the element's own
pub sends_none : (l d : List ℕ) → sends l d ≡ false → (l ≡ []) × (d ≡ [])
unfolding sends
sends_none [] [] z = (refl, refl)
sends_none [] (t ∷ d) z = absurd (true≢false z)
sends_none (t ∷ l) d z = absurd (true≢false z)

one-of-none : (l : List ℕ) (k : ℕ) → l ≡ [] → HasCode (one_of (length l)) k → (k ≡ 0) × (bits_of (one_of (length l)) k ≡ [])
unfolding one_of HasCode bits_of width least_from digits
one-of-none [] k e h = (omega arith, refl)
one-of-none (x ∷ l) k e h = absurd (let z : ◌≡◌ {A = ℕ} (suc (length l)) 0 = ap length e in omega arith)

pub codes-none : {y : Types} {t k : ℕ} {c : List ℕ} → CodesAre y t k c → codes y ≡ false → (c ≡ []) × (t ≡ y.own) × (k ≡ 0)
unfolding codes substitute_code type_code default_type effective_type chosen
codes-none {y} (both {k} j h g) z =
    let e = sends_none y.substitutes (y.derived y.own) z in
    let a = one-of-none y.substitutes k e.0 h in
    let d : y.derived (default_type y k) ≡ [] = rw a.0 e.1 in
    let c = one-of-none (y.derived (default_type y k)) j d g in
    (rw (a.1, c.1), rw (a.0, c.0), a.0)

pub event_of-bits : (i : Item) (v n : ℕ) → (event_of i v n).bits ≡ n
unfolding event_of
event_of-bits (required name) v n = refl
event_of-bits (optional name) v n = refl
event_of-bits (valued kind b c) v n = refl
event_of-bits (picked count) v n = refl
event_of-bits (counted least most) v n = refl

pub cast-sum : (y : Types) (at t k : ℕ) (c : List ℕ) (ns : Nodes) → CodesAre y t k c → total (cast_in y at t k (length c) ns) ≡ length c + total ns
unfolding cast_in total
cast-sum y at t k c ns d = go (codes y) refl
  where
    go : (u : Bool) → codes y ≡ u → total (cond u (leaf at (event kinds.cast t k (length c)) [] ns) ns) ≡ length c + total ns
    go true z = refl
    go false z = let e : length c ≡ 0 = ap length (codes-none d z).0 in omega arith

module _ (mode : Lengths) (held : ℕ → Bool) where
  pub is_sum : {P : Plan} {at : ℕ} {ns : Nodes} {w : List ℕ} → Is mode held P at ns w → total ns ≡ length w
  unfolding total
  is_sum nothing = refl
  is_sum (an_item {i} {v} {w} {x} h j) = omega (arith, is_sum j, event_of-bits i v (length w), length-append w x)
  is_sum (an_element {t} {k} {y} {at} {s} {c} {w} {x} {i} h d z g m j) =
      omega (arith, is_sum g, is_sum j, cast-sum y (at + length s) t k c i d, length-append c w, length-append s (c ++ w), length-append (s ++ (c ++ w)) x)
  is_sum (a_blank {s} {c} {x} w h d z u j) = omega (arith, is_sum j, length-append (s ++ (c ++ w)) x)

  pub is-bits : {P : Plan} {at : ℕ} {ns : Nodes} {w : List ℕ} → Is mode held P at ns w → Bits w
  is-bits nothing = tt
  is-bits (an_item {w} {x} h j) = bits-append w x (form-bits h) (is-bits j)
  is-bits (an_element {s} {c} {w} {x} h d z g m j) =
      bits-append (s ++ (c ++ w)) x (bits-append s (c ++ w) (head-bits h) (bits-append c w (codes-bits d) (is-bits g))) (is-bits j)
  is-bits (a_blank {s} {c} {x} w h d z u j) =
      bits-append (s ++ (c ++ w)) x (bits-append s (c ++ w) (head-bits h) (bits-append c w (codes-bits d) u)) (is-bits j)
