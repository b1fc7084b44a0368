-- A value read and stored: refused, a date, a number, a text.
use Prim.Native.Nat.{ℕ, zero, suc, ◌-◌, ◌*◌}
use mathlib.Core.Path.{◌≡◌, refl, sym, ap, ◌∙◌}
use mathlib.Core.List.{List, []}
use mathlib.Core.Bool.{Bool}
use native.Mathlib.Omega.{arith}
use Rattle.numbers.specs.Simple as simple
use Rattle.numbers.specs.Kind as kinds
use Rattle.wire.specs.declared.Bits.{Bits}
use Rattle.wire.specs.declared.Bytes.{Bytes}
use Rattle.wire.specs.Res.{Res, got, fault, ◌>>=◌}
use Rattle.wire.specs.Bits.{bit_at}
use Rattle.wire.proofs.BitLaws.{bit-lt}
use Rattle.table.specs.Rows.{table_of}
use Rattle.value.specs.Simple.{Simple, plain, text, dated, simple_of, first_word, second_word, simple_at, words_of, bytes_at, SimpleIs, a_code, a_date}
use Rattle.value.proofs.SimpleLaws.{simple-found}
use Rattle.value.specs.Code.{Code}
use Rattle.value.specs.Answer.{Valued, value_is}
use Rattle.value.specs.declared.Value.TheVariants as of-value
use Rattle.model.specs.Model.{event, value, Answer}
use Rattle.model.specs.Model.Plan.{done}
use Rattle.model.specs.Model.Item.{valued}
use Rattle.model.specs.Items.{Lengths, item_at}
use Rattle.model.specs.Read.{code, stored, read}
use Rattle.model.proofs.Steps.{item-valued, value-is}
use Rattle.reader_parts.specs.declared.Cursor.{Cursor}
use Rattle.std.specs.Prelude.{Ok, Err}
use Rattle.numbers.specs.declared.refusal.Refusal.{Refusal}
use Rattle.reader_parts.specs.Out.{Step, room_of, step_view, outcome, Reads, Stores, Keeps}
use Rattle.reader_parts.specs.Texts.{Follows}

-- only a text has bytes
plain-none : {c : Code} {v : ℕ} {ts w : List ℕ} → SimpleIs (plain c) v ts w → ts ≡ []
plain-none (a_code h) = refl

dated-none : {c : Code} {v : ℕ} {ts w : List ℕ} → SimpleIs (dated c) v ts w → ts ≡ []
dated-none (a_date h) = refl

no_bytes : (k x y : ℕ) {v : ℕ} {ts w : List ℕ} → (k ≡ simple.text → ⊥) → SimpleIs (simple_of k x y) v ts w → ts ≡ []
unfolding simple_of
no_bytes zero x y n h = plain-none h
no_bytes (suc zero) x y n h = plain-none h
no_bytes (suc (suc zero)) x y n h = plain-none h
no_bytes (suc (suc (suc zero))) x y n h = plain-none h
no_bytes (suc (suc (suc (suc zero)))) x y n h = plain-none h
no_bytes (suc (suc (suc (suc (suc zero))))) x y n h = absurd (n refl)
no_bytes (suc (suc (suc (suc (suc (suc zero)))))) x y n h = plain-none h
no_bytes (suc (suc (suc (suc (suc (suc (suc zero))))))) x y n h = dated-none h
no_bytes (suc (suc (suc (suc (suc (suc (suc (suc zero)))))))) x y n h = dated-none h
no_bytes (suc (suc (suc (suc (suc (suc (suc (suc (suc k))))))))) x y n h = plain-none h

-- what has words was read
words-read : (s : Simple) (m : Res (ℕ × List ℕ × ℕ)) (p q : ℕ) (ts : List ℕ) (n : ℕ) → words_of s m ≡ got (p, q, ts, n) → (v : ℕ) × (m ≡ got (v, ts, n))
unfolding words_of ◌>>=◌
words-read s (got (v, us, k)) p q ts n e =
    let z : ◌≡◌ {A = ℕ × ℕ × List ℕ × ℕ} (first_word s v, second_word s v, us, k) (p, q, ts, n) = cc in
    let a : us ≡ ts = ap (λ (r : ℕ × ℕ × List ℕ × ℕ). r.2) z in
    let b : k ≡ n = ap (λ (r : ℕ × ℕ × List ℕ × ℕ). r.3) z in
    (v, rw (a, b))
words-read s (fault k) p q ts n e = absurd (let z : ◌≡◌ {A = ℕ} 0 1 = cc in omega arith)

module _ (s : List ℕ) (wall k x y : ℕ) (c : Cursor) (E T : List ℕ) (r : Valued) (e : value_is (bit_at s) r ≡ words_of (simple_of k x y) (simple_at (simple_of k x y) (bit_at s) wall c.at.0)) where
  item-is : words_of (simple_of k x y) (item_at (valued k x y) (bit_at s) wall c.at.0) ≡ value_is (bit_at s) r
  item-is = ap (words_of (simple_of k x y)) (item-valued (bit_at s) wall c.at.0 k x y) ∙ sym e

  -- the reading of the plan, by what the call answered
  read_is : (mode : Lengths) (held : ℕ → Bool) (π : List ℕ) (a : Valued) → r ≡ a → read (bit_at s) mode held (value k x y done) (room_of E T c) π wall c.at.0
      ≡ code (value_is (bit_at s) a) π c.at.0 (λ (v, w, ts, q). stored (room_of E T c) π c.at.0 (event kinds.value v w (q - c.at.0)) ts q)
  read_is mode held π a h = value-is (bit_at s) mode held (table_of []) (room_of E T c) π wall c.at.0 k x y ∙ rw (item-is, h)

  pub value-refuse : (n : Refusal) → r ≡ Err n → Reads (value k x y done) (bit_at s) wall c E T (Err (record { why = n; at = c.at })) E T
  unfolding value_is code step_view outcome
  value-refuse n h = record { says = λ mode held π. rw (read_is mode held π (Err n) h) }

  -- a date has no text
  pub value-dated : (p q : ℕ) (next : Bits) → r ≡ Ok (of-value.Dated p q next) → (t : Step) (E' : List ℕ) → Stores kinds.value p q next.0 c E t E' → Reads (value k x y done) (bit_at s) wall c E T t E' T
  unfolding value_is code
  value-dated p q next h t E' l = record { says = λ mode held π. l.says T π ∙ sym (rw (read_is mode held π (Ok (of-value.Dated p q next)) h)) }

  -- nor has a number
  module _ (word : ℕ) (n : Bytes) (next : Bits) (h : r ≡ Ok (of-value.Read word n next)) where
    abbrev ts : List ℕ
    ts = bytes_at (bit_at s) (next.0 - 8 * n.0) n.0

    taken : (v : ℕ) × (simple_at (simple_of k x y) (bit_at s) wall c.at.0 ≡ got (v, ts, next.0))
    unfolding value_is
    taken = words-read (simple_of k x y) _ word 0 ts next.0 (sym e ∙ rw h)

    untold : (k ≡ simple.text → ⊥) → ts ≡ []
    untold l = no_bytes k x y l ((simple-found (bit_at s) (bit-lt s) (simple_of k x y) wall c.at.0).says (taken.0, ts, next.0) taken.1).is

    value_read : (t : Step) (E' T' : List ℕ) → Keeps word ts next.0 c E T t E' T' → Reads (value k x y done) (bit_at s) wall c E T t E' T'
    unfolding value_is code
    value_read t E' T' l = record { says = λ mode held π. l.says π ∙ sym (rw (read_is mode held π (Ok (of-value.Read word n next)) h)) }

    pub value-number : (t : Step) (E' : List ℕ) → (k ≡ simple.text → ⊥) → Stores kinds.value word 0 next.0 c E t E' → Reads (value k x y done) (bit_at s) wall c E T t E' T
    value-number t E' l m = value_read t E' T (record { says = λ π. rw (untold l) (m.says T π) })

-- a text, by what follows its reading
pub value-text : (b : ℕ → ℕ) (wall k x y : ℕ) (c : Cursor) (E T : List ℕ) (t : Step) (E' T' : List ℕ) → k ≡ simple.text → Follows (words_of text (simple_at text b wall c.at.0)) c E T t E' T'
    → Reads (value k x y done) b wall c E T t E' T'
unfolding simple_of
value-text b wall k x y c E T t E' T' z f = record { says = λ mode held π. f.says π ∙ ap (λ (o : Answer). outcome o c π E T) (sym (text-is mode held π)) }
  where
    text-is : (mode : Lengths) (held : ℕ → Bool) (π : List ℕ) → read b mode held (value k x y done) (room_of E T c) π wall c.at.0
        ≡ code (words_of text (simple_at text b wall c.at.0)) π c.at.0 (λ (v, w, ts, q). stored (room_of E T c) π c.at.0 (event kinds.value v w (q - c.at.0)) ts q)
    text-is mode held π = value-is b mode held (table_of []) (room_of E T c) π wall c.at.0 k x y ∙ rw (item-valued b wall c.at.0 k x y, z)

pub ruleset value-ways = (value-refuse, value-dated, value-number, value-text)
