-- The reading of bytes: what the words and the words lent for events become.
use Prim.Native.Nat.{ℕ, ◌-◌, ◌*◌, ◌/◌, ◌%◌, ◌≤◌, min}
use mathlib.Core.Path.{◌≡◌, sym, ap, subst, ◌∙◌}
use mathlib.Core.List.{List, ◌++◌}
use mathlib.Core.Bool.{Bool, false}
use native.Mathlib.Omega.{arith}
use borrow.Rule.Slice.PartMut.{mid_of, put_mid, mid_len}
use lib.ListN.{length, take, drop, replicate, length-append, length-drop}
use lib.Seq.{length-take-le, take_at}
use Rattle.std.specs.Prelude.{Result, Ok, Err}
use Rattle.numbers.specs.Limit as limit
use Rattle.numbers.specs.Refusal.{event_room}
use Rattle.numbers.specs.Refused.{answered}
use Rattle.numbers.specs.declared.refusal.Refusal.{Refusal}
use Rattle.numbers.specs.declared.refusal.Refusal.TheVariants as refusal
use Rattle.numbers.proofs.Refusals.{number-one}
use Rattle.model.specs.Whole.{Reply, Outcome, outcome, reading, after_verdict, events_left, texts_left}
use Rattle.reader.specs.Answers.{Answer, answer_is}
use Rattle.buffers.specs.Bytes.{words_of, bytes_of, stored}
use Rattle.buffers.proofs.BytesLaws.{bytes-length}
use Rattle.buffers.proofs.Loops.{tail-back}
use Rattle.call_parts.specs.Area.{area_of}
use Rattle.call_parts.specs.Calls.{zeros, table_verdict, judged, read_bytes, events_back}
use Rattle.reads.proofs.Paths.{path-fits}
use Rattle.reads.specs.Promises.{ReadBack, Suffices}
use Rattle.call_parts.specs.EventRoom.{slot_words}
use Rattle.call_parts.specs.TableRoom.{is_whole}
use Rattle.call_parts.proofs.TableLaws.{not-whole}
use Rattle.reads.proofs.ReadLaws.{slots-reads, events-fit, events-stored}
use Rattle.reads.proofs.RoomLaws.{more_room}

-- the words of the events, then as bytes
pub words-fit : (R : Reply) (o : Outcome) (E : List ℕ) (m : ℕ) → o ≡ outcome R → E ≡ events_left m R → length E ≡ m → 4 * o.events ≤ length E
words-fit R o E m a f n = let h = events-fit m R E f n in omega (arith, ap (λ (p : Outcome). p.events) a)

words_read : (R : Reply) (o : Outcome) (r : ℕ) (A E X B B₁ Z : List ℕ) (m x : ℕ) → o ≡ outcome R → E ≡ events_left m R → X ≡ texts_left x R → length E ≡ m → 4 * m ≤ length B
    → B₁ ≡ stored (take (4 * o.events) E) B → Z ≡ replicate (length (mid_of (4 * (4 * o.events)) (length B₁ - 4 * (4 * o.events)) B₁)) 0
    → (r ≡ o.number) × (A ≡ area_of o)
    → ReadBack R (length B) x r A (put_mid (4 * (4 * o.events)) (length B₁ - 4 * (4 * o.events)) B₁ Z) X
words_read R o r A E X B B₁ Z m x a f t n w s z (b, c) =
    let k = 4 * o.events in
    let P = bytes_of (take k E) in
    let w' = words-fit R o E m a f n in
    let l : length (take k E) ≡ k = length-take-le k E w' in
    let p : length P ≡ 4 * k = bytes-length (take k E) ∙ ap (λ (j : ℕ). 4 * j) l in
    let q : length B₁ ≡ length B = ap length s ∙ length-append P (drop (4 * length (take k E)) B) ∙ omega (arith, length-drop (4 * length (take k E)) B) in
    let h : 4 * k ≤ length B₁ = omega arith in
    let e : length (mid_of (4 * k) (length B₁ - 4 * k) B₁) ≡ length B - 4 * k = mid_len (4 * k) (length B₁) B₁ (omega arith) ∙ ap (λ (j : ℕ). j - 4 * k) q in
    record {
      number = b ∙ ap (λ (u : Outcome). u.number) a;
      area = c ∙ ap area_of a;
      events = tail-back (4 * k) B₁ Z h ∙ ap (λ (y : List ℕ). take (4 * k) y ++ Z) s ∙ ap (λ (y : List ℕ). y ++ Z) (take_at P (drop (4 * length (take k E)) B) (4 * k) p)
          ∙ ap (λ (y : List ℕ). P ++ y) (z ∙ ap (λ (j : ℕ). replicate j 0) e) ∙ events-stored (length B) m k R E f (ap (λ (u : Outcome). 4 * u.events) a);
      texts = t;
    }

pub words-read : (R : Reply) (o : Outcome) (r : ℕ) (A E X B B₁ Z : List ℕ) (m x k : ℕ) → k ≡ 4 * o.events → o ≡ outcome R → E ≡ events_left m R → X ≡ texts_left x R → length E ≡ m → 4 * m ≤ length B
    → B₁ ≡ stored (take k E) B → Z ≡ replicate (length (mid_of (4 * k) (length B₁ - 4 * k) B₁)) 0
    → (r ≡ o.number) × (A ≡ area_of o)
    → ReadBack R (length B) x r A (put_mid (4 * k) (length B₁ - 4 * k) B₁ Z) X
words-read R o r A E X B B₁ Z m x k e a f t n w s z q = rw e (words_read R o r A E X B B₁ Z m x a f t n w (rw e at s) (rw e at z) q)

-- the path of what is told fits
pub names-fit : (l : List ℕ) (party name type : ℕ) (s : List ℕ) (m x : ℕ) (a : Answer) → answer_is a ≡ outcome (reading l party name type s m x) → length (answer_is a).path ≤ limit.most_names
names-fit l party name type s m x a e = rw e (path-fits l party name type s m x)

module _ {e x r : ℕ} {A E X : List ℕ} where
  -- the same reading, by another name
  read_as : {R R' : Reply} → R' ≡ R → ReadBack R e x r A E X → ReadBack R' e x r A E X
  read_as f b = subst (λ (S : Reply). ReadBack S e x r A E X) (sym f) b

  -- with as many words lent as suffice, or with fewer that were not too few
  pub room-read : (l : List ℕ) (party name type : ℕ) (s : List ℕ) (w room m : ℕ) → w ≡ min m room → ReadBack (reading l party name type s w x) e x r A E X
      → Suffices m room r (ReadBack (reading l party name type s m x) e x r A E X)
  room-read l party name type s w room m h b =
      record {
        enough = λ k. read_as (ap (λ (j : ℕ). reading l party name type s j x) (omega arith)) b;
        roomy = λ z. read_as (more_room l party name type s w m x (omega arith) (λ n. z (b.number ∙ n))) b;
      }

  -- by a table's bytes
  pub bytes_read : (t : List ℕ) (party name type : ℕ) (s words : List ℕ) → length t % 4 ≡ 0 → take (length t / 4) words ≡ words_of t
      → ReadBack (reading (take (length t / 4) words) party name type s (slot_words e) x) e x r A E X → ReadBack (read_bytes t party name type s e x) e x r A E X
  bytes_read t party name type s words h w b =
      read_as (slots-reads t h party name type s e x ∙ ap (λ (l : List ℕ). reading l party name type s (slot_words e) x) (sym w)) b

  pub bytes-unread : (t : List ℕ) (party name type : ℕ) (s : List ℕ) (w : Bool) → w ≡ is_whole (length t) → w ≡ false → E ≡ zeros e → X ≡ zeros x
      → (r ≡ (judged (table_verdict t)).number) × (A ≡ area_of (judged (table_verdict t))) → ReadBack (read_bytes t party name type s e x) e x r A E X
  unfolding read_bytes after_verdict outcome events_back texts_left
  bytes-unread t party name type s w h z f g (n, a) =
      let v = (not-whole t (sym h ∙ z)).1 in
      record { number = n ∙ rw v; area = a ∙ rw v; events = f ∙ rw v; texts = g ∙ rw v }

-- once more, into buffers that are as long
pub again-read : (l : List ℕ) (party name type : ℕ) (s : List ℕ) (e e' x x' r : ℕ) (A E X : List ℕ) → e' ≡ e → x' ≡ x
    → ReadBack (reading l party name type s (slot_words e') x') e' x' r A E X → ReadBack (reading l party name type s (slot_words e) x) e x r A E X
again-read l party name type s e e' x x' r A E X h k b = rw (h, k) at b

-- the one refusal of that number
pub only-room : (a : Result (Unit {0}) Refusal) → answered a ≡ event_room → a ≡ Err refusal.EventRoom
only-room (Ok u) e = absurd (omega (arith, e))
only-room (Err x) e = ap (λ (y : Refusal). Err y) (number-one e)
