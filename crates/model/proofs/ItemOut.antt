-- The writing of an item's value: what is written may stand there, and what may stand is written.
use Prim.Native.Nat.{ℕ, ◌<◌}
use mathlib.Core.Path.{◌≡◌, refl, sym, subst, ◌∙◌}
use mathlib.Core.List.{List, [], ◌++◌}
use native.Mathlib.Omega.{arith}
use lib.ListN.{length, take, drop, length-append, length-take, take-append-drop}
use lib.Seq.{take_at, drop_at}
use Rattle.numbers.specs.Refusal.{outside_row, text_bytes}
use Rattle.wire.specs.Res.{got, Ensures}
use Rattle.wire.proofs.Res.{gives, bind, tested, under, then, tested-then, under-then}
use Rattle.value.specs.Code.{Code, choice, HasCode, bits_of, fits, code_out}
use Rattle.value.proofs.CodeLaws.{fits-true, true-fits}
use Rattle.value.specs.Simple.{Simple, plain, text, dated, simple_of, first_word, second_word, value_of, count, bytes, SimpleIs, a_code, a_text, a_date}
use Rattle.value.proofs.DateLaws.{parts-joined}
use Rattle.value.proofs.SimpleLaws.{passes, passes_then}
use Rattle.value.proofs.ValueLaws.{text-octets, plain-is}
use Rattle.model.specs.Model.{Item, event_of}
use Rattle.model.specs.Model.Item.{required, optional, valued, picked, counted}
use Rattle.model.specs.Items.{Form, present, simply, form_of, FormIs, is_present, is_simple, ItemIs}
use Rattle.model.specs.Write.{Bare, bare, word_of, simple_out, form_out, item_out}

-- what is written may stand
pub record SimpleWritten (s : Simple) (v : ℕ) (T w U : List ℕ) : Type 0 where
  pub texts : List ℕ
  pub is : SimpleIs s v texts w
  pub text : T ≡ texts ++ U

pub record ItemWritten (i : Item) (v : ℕ) (T w U : List ℕ) : Type 0 where
  pub texts : List ℕ
  pub is : ItemIs i v texts w
  pub text : T ≡ texts ++ U

pub code-written : (c : Code) (v : ℕ) → Ensures (code_out c v) (λ w. (w ≡ bits_of c v) × HasCode c v)
unfolding code_out
code-written c v = tested (fits c v) 20 λ h. gives (refl, fits-true c v h)

simple-written : (s : Simple) (v : ℕ) (T : List ℕ) → Ensures (simple_out s v T) (λ r. SimpleWritten s v T r.0 r.1)
unfolding simple_out
simple-written (plain c) v T = bind (code-written c v) λ w f. gives (record { texts = []; is = rw f.0 (a_code f.1); text = refl })
simple-written text v T =
    bind (code-written count v) λ w f. under text_bytes λ h. passes _ λ z.
    let X = take v T in
    let n : length X ≡ v = length-take v T ∙ omega arith in
    gives (record {
      texts = X;
      is = rw f.0 (subst (λ (k : ℕ). SimpleIs text k X (bits_of count k ++ bytes X)) n (a_text {l = X} (rw n f.1) (text-octets X z) z));
      text = sym (take-append-drop v T);
    })
simple-written (dated c) v T = bind (code-written c v) λ w f. gives (record { texts = []; is = rw f.0 (a_date f.1); text = refl })

form-written : (f : Form) (v : ℕ) (T : List ℕ) → (f ≡ present → v ≡ 1) → Ensures (form_out f v T) (λ r. (ts : List ℕ) × FormIs f v ts r.0 × (T ≡ ts ++ r.1))
unfolding form_out
form-written present v T h = gives ([], rw (h refl) is_present, refl)
form-written (simply s) v T h = record { says = λ r e. let f = (simple-written s v T).says r e in (f.texts, is_simple f.is, f.text) }

word-required : (i : Item) (e : Bare) → form_of i ≡ present → word_of i e ≡ 1
unfolding form_of word_of
word-required (required name) e h = refl
word-required (optional name) e h = absurd (let z : ◌≡◌ {A = ℕ} 0 1 = cc in omega arith)
word-required (valued k b c) e h = absurd (let z : ◌≡◌ {A = ℕ} 0 1 = cc in omega arith)
word-required (picked n) e h = absurd (let z : ◌≡◌ {A = ℕ} 0 1 = cc in omega arith)
word-required (counted least most) e h = absurd (let z : ◌≡◌ {A = ℕ} 0 1 = cc in omega arith)

pub item-written : (i : Item) (e : Bare) (T : List ℕ) → Ensures (item_out i (word_of i e) T) (λ r. ItemWritten i (word_of i e) T r.0 r.1)
unfolding item_out
item-written i e T = record {
  says = λ r z.
      let f = (form-written (form_of i) (word_of i e) T (word-required i e)).says r z in
      record { texts = f.0; is = f.1; text = f.2 };
}

-- and what may stand is written
pub code_out_lem : (c : Code) (v : ℕ) → HasCode c v → code_out c v ≡ got (bits_of c v)
unfolding code_out
code_out_lem c v h = tested-then outside_row (true-fits c v h) refl

simple-out : {s : Simple} {v : ℕ} {T w : List ℕ} (U : List ℕ) → SimpleIs s v T w → simple_out s v (T ++ U) ≡ got (w, U)
unfolding simple_out
simple-out U (a_code {c} {v} h) = then _ (code_out_lem c v h) refl
simple-out U (a_text {l} h k z) =
    let n = length-append l U in
    let x : take (length l) (l ++ U) ≡ l = take_at l U (length l) refl in
    let y : drop (length l) (l ++ U) ≡ U = drop_at l U (length l) refl in
    then _ (code_out_lem count (length l) h) (under-then text_bytes (omega arith) (rw (x, y) (passes_then z refl)))
simple-out U (a_date {c} {v} h) = then _ (code_out_lem c v h) refl

form-out : {f : Form} {v : ℕ} {T w : List ℕ} (U : List ℕ) → FormIs f v T w → form_out f v (T ++ U) ≡ got (w, U)
unfolding form_out
form-out U is_present = refl
form-out U (is_simple h) = simple-out U h

pub item_out_lem : (i : Item) {v : ℕ} {T w : List ℕ} (U : List ℕ) → ItemIs i v T w → item_out i v (T ++ U) ≡ got (w, U)
unfolding item_out
item_out_lem i U h = form-out U h

-- an event without its fourth word is the same whatever that is; and a value is the one that its event gives
pub bare-event : (i : Item) (v m n : ℕ) → bare (event_of i v m) ≡ bare (event_of i v n)
unfolding event_of
bare-event (required name) v m n = refl
bare-event (optional name) v m n = refl
bare-event (valued kind b c) v m n = refl
bare-event (picked count) v m n = refl
bare-event (counted least most) v m n = refl

present-one : {f : Form} {v : ℕ} {T w : List ℕ} → FormIs f v T w → f ≡ present → v ≡ 1
present-one is_present e = refl
present-one (is_simple h) e = absurd (let z : ◌≡◌ {A = ℕ} 0 1 = cc in omega arith)

pub form-plain : {f : Form} {v : ℕ} {ts w : List ℕ} → FormIs f v ts w → (c : Code) → f ≡ simply (plain c) → HasCode c v × (ts ≡ [])
form-plain is_present c e = absurd (let n : ◌≡◌ {A = ℕ} 0 1 = cc in omega arith)
form-plain (is_simple {s} h) c e = let z : s ≡ plain c = cc in plain-is h c z

-- what each item's value is
pub optional-value : (name : ℕ) {v : ℕ} {ts w : List ℕ} → ItemIs (optional name) v ts w → v < 2
unfolding form_of HasCode
optional-value name h = (form-plain h (choice 2) refl).0

pub picked_value : (n : ℕ) {v : ℕ} {ts w : List ℕ} → ItemIs (picked n) v ts w → v < n
unfolding form_of HasCode
picked_value n h = omega (arith, (form-plain h _ refl).0)

words_back : (s : Simple) (v : ℕ) → value_of s (first_word s v) (second_word s v) ≡ v
unfolding value_of first_word second_word
words_back (plain c) v = refl
words_back text v = refl
words_back (dated c) v = parts-joined v

pub word_back : (i : Item) (v n : ℕ) (ts w : List ℕ) → ItemIs i v ts w → word_of i (bare (event_of i v n)) ≡ v
unfolding word_of event_of form_of
word_back (required name) v n ts w h = sym (present-one h refl)
word_back (optional name) v n ts w h = let f = optional-value name h in omega arith
word_back (valued kind b c) v n ts w h = words_back (simple_of kind b c) v
word_back (picked count) v n ts w h = refl
word_back (counted least most) v n ts w h = refl
