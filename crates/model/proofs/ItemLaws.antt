-- The laws of items and heads: what is read is so, what is so is read with its exact bits, and each follows from the same law of its codes.
use Prim.Native.Nat.{ℕ, zero, suc, ◌+◌, ◌-◌, ◌≤◌}
use mathlib.Core.Path.{◌≡◌, refl}
use mathlib.Core.List.{List, [], ◌++◌}
use native.Mathlib.Omega.{arith}
use lib.ListN.{length-append}
use Rattle.numbers.specs.Refusal as refusal
use Rattle.wire.specs.Res.{got, Ensures}
use Rattle.wire.proofs.Res.{gives, bind, under, then, under-then}
use Rattle.wire.specs.At.{At}
use Rattle.wire.proofs.BitLaws.{at_none, at_both, at_left, at_right}
use Rattle.wire.specs.Lawful.{Binary}
use Rattle.wire.specs.Number.{code_of5}
use Rattle.wire.proofs.Laws5.{number-found5, any-code-read}
use Rattle.value.specs.Code.{HasCode, bits_of}
use Rattle.value.proofs.CodeLaws.{code-lawful}
use Rattle.value.proofs.SimpleLaws.{simple-found, simple-reads}
use Rattle.model.specs.Model.{Item, Types}
use Rattle.model.specs.Items.{Lengths, never, optional, always, flag, Form, present, simply, form_of, FormIs, is_present, is_simple, ItemIs, Length, free, long, Measures, InGroups, HeadIs, no_head, flag_off, flag_on, head_on, form_at, item_at, Head, length_at, head_at, substitute_code, type_code, CodesAre, both, codes_at}

pub record FoundItem (b : ℕ → ℕ) (i : Item) (wall at v : ℕ) (ts : List ℕ) (q : ℕ) : Type 0 where
  pub bits : List ℕ
  pub is : ItemIs i v ts bits
  pub stands : At b at bits q
  pub within : at ≤ wall → q ≤ wall

pub record FoundHead (b : ℕ → ℕ) (mode : Lengths) (h : Length) (wall at p : ℕ) : Type 0 where
  pub bits : List ℕ
  pub is : HeadIs mode h bits
  pub stands : At b at bits p
  pub within : at ≤ wall → p ≤ wall

abbrev pub FindsHead : (ℕ → ℕ) → Lengths → ℕ → ℕ → Head → Type 0
FindsHead b mode wall at (Head.bare p) = FoundHead b mode free wall at p
FindsHead b mode wall at (Head.sized p e) = FoundHead b mode (long (e - p)) wall at p × (p ≤ e) × (e ≤ wall)

pub record FoundCodes (b : ℕ → ℕ) (y : Types) (wall at t k p : ℕ) : Type 0 where
  pub bits : List ℕ
  pub is : CodesAre y t k bits
  pub stands : At b at bits p
  pub within : p ≤ wall

module _ (b : ℕ → ℕ) (bit : Binary b) where
  pub item-found : (i : Item) (wall at : ℕ) → Ensures (item_at i b wall at) (λ r. FoundItem b i wall at r.0 r.1 r.2)
  unfolding item_at form_at
  item-found i wall at = go (form_of i) refl
    where
      go : (f : Form) → form_of i ≡ f → Ensures (form_at f b wall at) (λ r. FoundItem b i wall at r.0 r.1 r.2)
      go present e = gives (record { bits = []; is = rw e is_present; stands = at_none; within = λ h. h })
      go (simply s) e = record {
        says = λ r z.
            let f = (simple-found b bit s wall at).says r z in
            record { bits = f.bits; is = rw e (is_simple f.is); stands = f.stands; within = λ h. f.within };
      }

  -- TheLength after bits o that a head may begin with
  length_found : (mode : Lengths) (wall at p : ℕ) (o : List ℕ) → ((k n : ℕ) → InGroups k n → HeadIs mode (long n) (o ++ code_of5 k n)) → At b at o p
      → Ensures (length_at 1 b wall p) (FindsHead b mode wall at)
  unfolding length_at
  length_found mode wall at p o is st =
      bind (number-found5 b bit wall p) λ r f. under refusal.length λ h.
      let z : r.1 + r.0 - r.1 ≡ r.0 = omega arith in
      let g : InGroups f.groups r.0 = record { few = omega (arith, f.few); holds = f.small } in
      gives (rw z (record { bits = o ++ code_of5 f.groups r.0; is = is f.groups r.0 g; stands = at_both st f.stands; within = λ k. f.within }), omega arith, h)

  pub head-found : (mode : Lengths) (wall at : ℕ) → Ensures (head_at mode b wall at) (FindsHead b mode wall at)
  unfolding head_at length_at HasCode
  head-found never wall at = gives (record { bits = []; is = no_head; stands = at_none; within = λ h. h })
  head-found optional wall at = bind ((code-lawful flag).found b bit wall at) λ r f. go r.0 r.1 f.fits f.stands f.within
    where
      go : (v p : ℕ) → HasCode flag v → At b at (bits_of flag v) p → p ≤ wall → Ensures (length_at v b wall p) (FindsHead b optional wall at)
      go zero p h f k = gives (record { bits = _; is = flag_off; stands = f; within = λ l. k })
      go (suc zero) p h f k = length_found optional wall at p (bits_of flag 1) (λ k n x. flag_on k x) f
      go (suc (suc v)) p h f k = absurd (omega arith)
  head-found always wall at = length_found always wall at at [] (λ k n x. head_on k x) at_none

  pub codes-found : (y : Types) (wall at : ℕ) → Ensures (codes_at y b wall at) (λ r. FoundCodes b y wall at r.0 r.1 r.2)
  unfolding codes_at
  codes-found y wall at =
      bind ((code-lawful (substitute_code y)).found b bit wall at) λ r f. bind ((code-lawful (type_code y r.0)).found b bit wall r.1) λ s g.
      gives (record { bits = bits_of (substitute_code y) r.0 ++ bits_of (type_code y r.0) s.0; is = both s.0 f.fits g.fits; stands = at_both f.stands g.stands; within = g.within })

-- a head that was read up to p; where what is inside it must stop, or may go to
abbrev pub head_of : Length → ℕ → Head
head_of free p = Head.bare p
head_of (long n) p = Head.sized p (p + n)

abbrev pub stop_of : Length → ℕ → ℕ → ℕ
stop_of free p wall = wall
stop_of (long n) p wall = p + n

pub stop-in : (h : Length) (n p wall : ℕ) → Measures h n → p + n ≤ wall → (stop_of h p wall ≤ wall) × (p + n ≤ stop_of h p wall)
stop-in free n p wall m l = omega arith
stop-in (long k) n p wall m l = omega arith

flag-zero : HasCode flag 0
unfolding HasCode
flag-zero = omega arith

flag_one : HasCode flag 1
unfolding HasCode
flag_one = omega arith

module _ (b : ℕ → ℕ) where
  form-reads : {f : Form} {v : ℕ} {ts w : List ℕ} {wall at p : ℕ} → FormIs f v ts w → At b at w p → p ≤ wall → form_at f b wall at ≡ got (v, ts, p)
  unfolding form_at
  form-reads {at} {p} is_present f k = let n = f.next in let e : at ≡ p = omega arith in rw e
  form-reads (is_simple h) f k = simple-reads b h f k

  pub item-reads : (i : Item) {v : ℕ} {ts w : List ℕ} {wall at p : ℕ} → ItemIs i v ts w → At b at w p → p ≤ wall → item_at i b wall at ≡ got (v, ts, p)
  unfolding item_at
  item-reads i h f k = form-reads h f k

  length-reads : (ones n wall at p : ℕ) → InGroups ones n → At b at (code_of5 ones n) p → p + n ≤ wall → length_at 1 b wall at ≡ got (Head.sized p (p + n))
  unfolding length_at
  length-reads ones n wall at p h f k =
      let z = f.next in
      then _ (any-code-read b wall at ones n h.few h.holds f.there (omega arith)) (rw (← z) (under-then refusal.length k refl))

  pub head-reads : {mode : Lengths} {h : Length} {w : List ℕ} (wall : ℕ) {at p : ℕ} → HeadIs mode h w → At b at w p → p ≤ wall → stop_of h p wall ≤ wall
      → head_at mode b wall at ≡ got (head_of h p)
  unfolding head_at length_at
  head-reads wall {at} {p} no_head f k l = let n = f.next in let e : at ≡ p = omega arith in rw e
  head-reads wall {at} {p} flag_off f k l = then _ ((code-lawful flag).reads b wall at 0 p flag-zero f k) refl
  head-reads wall {at} {p} (flag_on {n} ones h) f k l =
      let y = length-append (bits_of flag 1) (code_of5 ones n) in
      let z = f.next in
      then _ ((code-lawful flag).reads b wall at 1 _ flag_one (at_left (bits_of flag 1) (code_of5 ones n) f) (omega arith))
      (length-reads ones n wall _ p h (at_right (bits_of flag 1) (code_of5 ones n) f) l)
  head-reads wall {at} {p} (head_on {n} ones h) f k l = length-reads ones n wall at p h f l

  pub codes-reads : {y : Types} {t k : ℕ} {w : List ℕ} (wall : ℕ) {at p : ℕ} → CodesAre y t k w → At b at w p → p ≤ wall → codes_at y b wall at ≡ got (t, k, p)
  unfolding codes_at
  codes-reads {y} wall {at} {p} (both {k} j h g) f l =
      let c = bits_of (substitute_code y) k in
      let d = bits_of (type_code y k) j in
      let z = length-append c d in
      let n = f.next in
      then _ ((code-lawful (substitute_code y)).reads b wall at k _ h (at_left c d f) (omega arith))
      (then _ ((code-lawful (type_code y k)).reads b wall _ j p g (at_right c d f) l) refl)
