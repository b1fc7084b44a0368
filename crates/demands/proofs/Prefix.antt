-- ONE PAYLOAD NEVER BEGINS ANOTHER, of the calls: what a call accepts is a payload of theorems' Prefix, with the same bytes and bits.
use Prim.Native.Nat.{ℕ, ◌+◌, ◌/◌}
use mathlib.Core.Path.{◌≡◌, refl, sym, ap, ap₂, ◌∙◌}
use mathlib.Core.List.{List, [], ◌∷◌, ◌++◌, map, flat_map}
use native.Mathlib.Omega.{arith}
use lib.ListN.{take, drop}
use Rattle.numbers.specs.Refusal.{left_over}
use Rattle.buffers.specs.Bytes.{words_of}
use Rattle.wire.specs.Res.{Res, got}
use Rattle.model.specs.Items.{Mode}
use Rattle.model.specs.Whole.{mode_number, mode_asked, outcome, texts_left}
use Rattle.model.proofs.Entries.{mode-asked}
use Rattle.theorems.specs.Prefix as model
use Rattle.theorems.specs.Prefix.{Payload, bits_from}
use Rattle.theorems.proofs.Prefix.{prefix}
use Rattle.call_parts.specs.Area.{area_bytes}
use Rattle.call_parts.specs.Calls.{Back, back, read_call, events_back}
use Rattle.demands.specs.Demands.{refusal, flag_bit}
use Rattle.demands.specs.Prefix.{Accepted, Same, Rest, PrefixByCalls, used_bits, Shortest}
use Rattle.demands.proofs.WholeTables.{whole-right}
use Rattle.demands.proofs.Demand2.{Handed, handed, is-accepted, call-tells, tells, flag-bit, two-buffers}

-- a mode's number is no other mode's
one-mode : (m m' : Mode) → mode_number m ≡ mode_number m' → m ≡ m'
one-mode m m' e =
    let z : ◌≡◌ {A = Res Mode} (got m) (got m') = sym (mode-asked 1 m (λ c. omega arith)) ∙ ap (mode_asked 1) e ∙ mode-asked 1 m' (λ c. omega arith) in
    cc

-- lists by way of others
map-over : {A B : Type 0} (f : A → B) (g : B → List ℕ) (h : A → List ℕ) → ((a : A) → g (f a) ≡ h a) → (S : List A) → map g (map f S) ≡ map h S
map-over f g h e [] = refl
map-over f g h e (a ∷ S) = ap₂ ◌∷◌ (e a) (map-over f g h e S)

flat-over : {A B : Type 0} (f : A → B) (g : B → List ℕ) (h : A → List ℕ) → ((a : A) → g (f a) ≡ h a) → (S : List A) → flat_map g (map f S) ≡ flat_map h S
unfolding flat_map
flat-over f g h e [] = refl
flat-over f g h e (a ∷ S) = ap₂ ◌++◌ (e a) (flat-over f g h e S)

module _ (t : List ℕ) (party name type : ℕ) where
  module _ {e x : ℕ} where
    has : (s : Accepted t party name type e x) → Handed t party name type s.payload s.area s.list s.text e x
    has s = handed t party name type s.payload s.area s.list s.text e x s.reads

    read : Accepted t party name type e x → Payload (words_of t) party name type (e / 4) x
    read s =
        let r = (has s).reads in record {
          octets = s.payload;
          small = s.small;
          mode = r.mode;
          tree = r.tree;
          used = r.used;
          reads = is-accepted t party name type s.payload e x r.reading;
        }

    bits-same : (s : Accepted t party name type e x) → model.used_bits (words_of t) party name type (read s) ≡ used_bits t party name type s
    unfolding read has
    bits-same s = ap (bits_from s.payload 0) (sym (has s).used)

    same-call : (s u : Accepted t party name type e x) → s.payload ≡ u.payload → Same t party name type s u
    same-call s u p =
        let z : back 0 s.area (s.list ∷ s.text ∷ []) ≡ back 0 u.area (u.list ∷ u.text ∷ []) =
        s.reads ∙ ap (λ (b : List ℕ). read_call t party name type b e x area_bytes) p ∙ sym u.reads in
        let b = two-buffers (ap (λ (o : Back). o.buffers) z) in
        record { payload = p; area = ap (λ (o : Back). o.area) z; list = b.0; text = b.1 }

    short : (s : Accepted t party name type e x) → Shortest t party name type s → model.Shortest (words_of t) party name type (read s)
    unfolding read has
    short s h = let a = has s in rw (a.in_list, ap flag_bit a.mode_is_lem ∙ flag-bit a.reads.mode) at h

    rest : (s : Accepted t party name type e x) (r : List ℕ) → model.Rest (words_of t) party name type (read s) r → Rest t party name type s r
    unfolding read has outcome events_back texts_left
    rest s r h =
        let a = has s in
        let v = whole-right t a.reads.reading.whole a.reads.reading.is.enters.table_right in record {
          refuses = call-tells t party name type (s.payload ++ r) e x v ∙ ap (tells e x) h.refuses ∙ ap (λ (n : ℕ). refusal (e ∷ x ∷ []) left_over n []) (sym a.used);
          first = ap (λ (n : ℕ). take ((n + 7) / 8) (s.payload ++ r)) a.used ∙ h.first;
          second = ap (λ (n : ℕ). drop ((n + 7) / 8) (s.payload ++ r)) a.used ∙ h.second;
        }

  pub prefix-by-calls : PrefixByCalls t party name type
  unfolding read has
  prefix-by-calls =
      let p = prefix (words_of t) party name type in record {
        never-begins = λ s u h. same-call s u (p.never-begins (read s) (read u) (λ i k. h i (omega (arith, (has s).used)))).octets;
        same-list-same-bytes = λ s u mode plain list text ss su.
            let a = has s in
            let b = has u in
            p.same-list-same-bytes (read s) (read u) (one-mode _ _ (sym a.mode_is_lem ∙ mode ∙ b.mode_is_lem)) (a.plain plain) (rw (a.in_list, b.in_list) at list)
            (sym a.text ∙ text ∙ b.text) (short s ss) (short u su);
        bytes-never-begin = λ s u r h. p.bytes-never-begin (read s) (read u) r h;
        split-once = λ S U h.
            let m = map-over read (λ s. s.octets) (λ s. s.payload) (λ s. refl) in
            let f = flat-over read (λ s. s.octets) (λ s. s.payload) (λ s. refl) in
            sym (m S) ∙ p.split-once (map read S) (map read U) (f S ∙ h ∙ sym (f U)) ∙ m U;
        split-bits-once = λ S U h.
            let m = map-over read (λ s. s.octets) (λ s. s.payload) (λ s. refl) in
            let f = flat-over read (model.used_bits (words_of t) party name type) (used_bits t party name type) bits-same in
            sym (m S) ∙ p.split-bits-once (map read S) (map read U) (f S ∙ h ∙ sym (f U)) ∙ m U;
        rest-is-17 = λ s r h k. rest s r (p.rest-is-17 (read s) r h k);
      }
