-- The reading of bytes, from the reading of the words that are lent.
use Prim.Native.Nat.{ℕ, ◌-◌, ◌*◌, ◌/◌, ◌%◌, ◌≤◌, min}
use mathlib.Core.Path.{◌≡◌, refl, sym, ap, ◌∙◌}
use mathlib.Core.List.{List, [], ◌++◌}
use native.Mathlib.Omega.{arith}
use lib.ListN.{length, take, length-append}
use lib.Seq.{take_at}
use Rattle.numbers.specs.Refusal as refusal
use Rattle.numbers.specs.Limit.{most_events}
use Rattle.table.specs.First.{Verdict}
use Rattle.table.specs.First.Verdict.{right, wrong}
use Rattle.table.specs.Valid.{verdict}
use Rattle.table.specs.Rows.{held_of, table_of}
use Rattle.model.specs.Model.{events}
use Rattle.model.specs.Entries.{plan_of}
use Rattle.model.specs.Whole.{Reply, outcome, reading, after_verdict, after_asked, asked, payload, events_left, event_words, filled}
use Rattle.model.specs.Whole.Reply.{accepted, declined}
use Rattle.model.proofs.Entries.{words-length as event-words}
use Rattle.buffers.specs.Bytes.{words_of, spelled, bytes_of}
use Rattle.buffers.proofs.BytesLaws.{bytes-length}
use Rattle.call_parts.specs.Calls.{zeros, read_bytes, events_back}
use Rattle.call_parts.specs.EventRoom.{slot_words}
use Rattle.call_parts.proofs.TableLaws.{Told, whole, part, whole-verdict}

-- as much room as the bytes have
same-room : (l : List ℕ) (party name type : ℕ) (s : List ℕ) (e x : ℕ) → reading l party name type s (e / 4) x ≡ reading l party name type s (slot_words e) x
unfolding reading
same-room l party name type s e x =
    let h : min (e / 4 / 4) most_events ≡ min (slot_words e / 4) most_events = omega arith in
    ap (λ (n : ℕ). after_verdict (verdict l) (after_asked (asked (table_of l).types party name type) (payload (held_of l party) (plan_of l name type) (table_of l).derivations s (record { slots = n; bytes = x })))) h

-- a verdict that stands twice stands once
pub once : (v : Verdict) (r : Reply) → after_verdict v (after_verdict v r) ≡ after_verdict v r
unfolding after_verdict
once right r = refl
once (wrong i) r = refl

-- a whole table's bytes are read as its words are
pub whole-reads : (t : List ℕ) → length t % 4 ≡ 0 → (party name type : ℕ) (s : List ℕ) (e x : ℕ) → read_bytes t party name type s e x ≡ reading (words_of t) party name type s (e / 4) x
unfolding read_bytes reading
whole-reads t w party name type s e x = rw (whole-verdict t w) (once (verdict (words_of t)) _)

pub slots-reads : (t : List ℕ) → length t % 4 ≡ 0 → (party name type : ℕ) (s : List ℕ) (e x : ℕ) → read_bytes t party name type s e x ≡ reading (words_of t) party name type s (slot_words e) x
slots-reads t w party name type s e x = whole-reads t w party name type s e x ∙ same-room (words_of t) party name type s e x

-- whatever a reading comes to that does not go by a fault's place in the table is that of the words lent
pub lent_same : {A : Type 0} (t : List ℕ) (party name type : ℕ) (s : List ℕ) (e x k : ℕ) (f : Reply → A) → ((i j : ℕ) → f (declined refusal.table i []) ≡ f (declined refusal.table j []))
    → Told t k → f (read_bytes t party name type s e x) ≡ f (reading (take k (words_of t)) party name type s (slot_words e) x)
unfolding read_bytes reading after_verdict
lent_same t party name type s e x k f h (whole v g _) =
    let one : read_bytes t party name type s e x ≡ reading (words_of t) party name type s (e / 4) x =
    ap (λ (u : Verdict). after_verdict u (reading (words_of t) party name type s (e / 4) x)) v ∙ once (verdict (words_of t)) _ in
    ap f (one ∙ same-room (words_of t) party name type s e x ∙ ap (λ (l : List ℕ). reading l party name type s (slot_words e) x) (sym g))
lent_same t party name type s e x k f h (part i v g) =
    ap f (ap (λ (u : Verdict). after_verdict u (reading (words_of t) party name type s (e / 4) x)) g) ∙ h _ i ∙ sym (ap f (rw v))

-- the words of the events that were read are among the words lent
pub events-fit : (m : ℕ) (R : Reply) (E : List ℕ) → E ≡ events_left m R → length E ≡ m → 4 * (outcome R).events ≤ m
unfolding events_left outcome filled
events-fit m (accepted mode ns q) E f n =
    let w = event_words (events ns) in
    omega (arith, event-words (events ns), ap length f, length-append w (zeros (m - length w)))
events-fit m (declined n' p π) E f n = omega arith

-- and they alone are stored, with zeros behind them
pub events-stored : (e m k : ℕ) (R : Reply) (E : List ℕ) → E ≡ events_left m R → k ≡ 4 * (outcome R).events → bytes_of (take k E) ++ zeros (e - 4 * k) ≡ events_back e R
unfolding events_left events_back outcome filled spelled
events-stored e m k (accepted mode ns q) E f h =
    let w = event_words (events ns) in
    let n : length w ≡ k = event-words (events ns) ∙ sym h in
    let z : e - 4 * k ≡ e - length (bytes_of w) = omega (arith, bytes-length w) in
    ap (λ (y : List ℕ). bytes_of (take k y) ++ zeros (e - 4 * k)) f
    ∙ ap (λ (y : List ℕ). bytes_of y ++ zeros (e - 4 * k)) (take_at w (zeros (m - length w)) k n)
    ∙ ap (λ (j : ℕ). bytes_of w ++ zeros j) z
events-stored e m k (declined n' p π) E f h =
    let z : k ≡ 0 = omega arith in
    let y : e - 4 * k ≡ e = omega arith in
    rw (y, z)
