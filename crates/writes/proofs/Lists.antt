-- The writing of bytes: what the words of the list and of the table become.
use Prim.Native.Nat.{ℕ, ◌/◌, ◌%◌, ◌<◌}
use mathlib.Core.Path.{◌≡◌, sym, ap, subst, ◌∙◌}
use mathlib.Core.List.{List, [], ◌∷◌}
use mathlib.Core.Bool.{Bool, false}
use native.Mathlib.Omega.{arith}
use lib.ListN.{length, take}
use Rattle.numbers.specs.Refusal.{no_reading}
use Rattle.numbers.specs.Limit as limit
use Rattle.model.specs.Whole.{Made, Outcome, declines, outcome_made, verdict_made, payload_left, writing}
use Rattle.model.specs.Whole.Made.{unmade}
use Rattle.buffers.specs.Bytes.{words_of}
use Rattle.buffers.proofs.BytesLaws.{words-length}
use Rattle.std.specs.Prelude.{Err}
use Rattle.numbers.specs.declared.refusal.Refusal.TheVariants as refusal
use Rattle.writer.specs.Answers.{Answer, answer_is, Writes}
use Rattle.call_parts.specs.Area.{area_of}
use Rattle.call_parts.specs.Calls.{zeros, table_verdict, judged, unlisted, write_list, write_bytes}
use Rattle.writes.specs.Promises.{WrittenBack}
use Rattle.call_parts.specs.TableRoom.{is_whole}
use Rattle.call_parts.proofs.TableLaws.{not-whole}
use Rattle.writes.proofs.WriteLaws.{too_many, no-list, whole-list, one_word, Unlisted, early, late, unlisted-is, whole-writes}

-- no_reading, at a place
abbrev pub none_at : ℕ → Answer
none_at p = Err (record { why = refusal.NoReading; at = p })

-- bytes that are no list, by one word that is none
module _ (l : List ℕ) (party name type mode : ℕ) (x : List ℕ) (room w n E T : ℕ) (a : Answer) (P : List ℕ)
    (h : Writes (writing l party name type mode (w ∷ []) x room) mode E T room a P) where
  said : (k p : ℕ) → unlisted l party name type mode 0 ≡ unmade k p → answer_is a ≡ declines k p []
  unfolding outcome_made
  said k p e = h.answer ∙ ap (outcome_made mode E T) (one_word l party name type mode w x room ∙ e)

  left-zero : (k p k' p' : ℕ) → unlisted l party name type mode 0 ≡ unmade k p → unlisted l party name type mode n ≡ unmade k' p' → P ≡ payload_left room (unlisted l party name type mode n)
  unfolding payload_left
  left-zero k p k' p' e f = h.left ∙ ap (payload_left room) (one_word l party name type mode w x room ∙ e) ∙ sym (ap (payload_left room) f)

  pub none-late : (p : ℕ) → a ≡ none_at p → Writes (unlisted l party name type mode n) mode n T room (none_at n) P
  unfolding outcome_made
  none-late p z = go (unlisted-is l party name type mode)
    where
      go : Unlisted l party name type mode → Writes (unlisted l party name type mode n) mode n T room (none_at n) P
      go (early k q ne f) = absurd (ne (sym (ap (λ (o : Outcome). o.number) (said k q (f 0))) ∙ ap (λ (x : Answer). (answer_is x).number) z))
      go (late f) = record { answer = sym (ap (outcome_made mode n T) (f n)); left = left-zero no_reading 0 no_reading n (f 0) (f n) }

  pub none-early : ((answer_is a).number ≡ no_reading → ⊥) → Writes (unlisted l party name type mode n) mode n T room a P
  unfolding outcome_made
  none-early z = go (unlisted-is l party name type mode)
    where
      go : Unlisted l party name type mode → Writes (unlisted l party name type mode n) mode n T room a P
      go (early k p ne f) = record { answer = said k p (f 0) ∙ sym (ap (outcome_made mode n T) (f n)); left = left-zero k p k p (f 0) (f n) }
      go (late f) = absurd (z (ap (λ (o : Outcome). o.number) (said no_reading 0 (f 0))))

-- what was written, told
pub written-told : (M : Made) (mode n x p : ℕ) (a : Answer) (r : ℕ) (A P : List ℕ) → Writes M mode n x p a P → (r ≡ (answer_is a).number) × (A ≡ area_of (answer_is a)) → WrittenBack M mode n x p r A P
written-told M mode n x p a r A P h (b, c) = record { number = b ∙ ap (λ (o : Outcome). o.number) h.answer; area = c ∙ ap area_of h.answer; payload = h.left }

-- a list's bytes
module _ (l : List ℕ) (party name type mode : ℕ) (e x : List ℕ) (room T r : ℕ) (A P : List ℕ) where
  abbrev N : ℕ
  N = length e / limit.event

  abbrev Listed : Made → Type 0
  Listed M = WrittenBack M mode N T room r A P

  listed : (M : Made) → write_list l party name type mode e x room ≡ M → Listed M → Listed (write_list l party name type mode e x room)
  listed M f h = subst Listed (sym f) h

  pub list-odd : (length e % limit.event ≡ 0 → ⊥) → Listed (unlisted l party name type mode N) → Listed (write_list l party name type mode e x room)
  list-odd z h = listed _ (no-list l party name type mode e x room z) h

  pub list-long : length e % limit.event ≡ 0 → limit.most_events < N → Listed (unlisted l party name type mode N) → Listed (write_list l party name type mode e x room)
  list-long z g h = listed _ (too_many l party name type mode e x room z g) h

  pub list-whole : (words : List ℕ) (a : Answer) → let k = length e / 4 in length e % limit.event ≡ 0 → take k words ≡ words_of e
      → Writes (writing l party name type mode (take k words) x room) mode (length (take k words) / 4) T room a P → (r ≡ (answer_is a).number) × (A ≡ area_of (answer_is a))
      → Listed (write_list l party name type mode e x room)
  list-whole words a z all h t =
      let k = length e / 4 in
      let count : length (take k words) / 4 ≡ N = ap (λ (y : List ℕ). length y / 4) all ∙ omega (arith, words-length e) in
      listed _ (whole-list l party name type mode e x room z ∙ ap (λ (y : List ℕ). writing l party name type mode y x room) (sym all))
      (written-told _ mode N T room a r A P (rw count at h) t)

-- a table's bytes
module _ (t : List ℕ) (party name type mode : ℕ) (e x : List ℕ) (n T room r : ℕ) (A P : List ℕ) where
  pub bytes-written : (words : List ℕ) → length t % 4 ≡ 0 → take (length t / 4) words ≡ words_of t → WrittenBack (write_list (take (length t / 4) words) party name type mode e x room) mode n T room r A P
      → WrittenBack (write_bytes t party name type mode e x room) mode n T room r A P
  bytes-written words z w h =
      subst (λ (M : Made). WrittenBack M mode n T room r A P)
      (ap (λ (l : List ℕ). write_list l party name type mode e x room) w ∙ sym (whole-writes t z party name type mode e x room)) h

  pub bytes-unwritten : (w : Bool) → w ≡ is_whole (length t) → w ≡ false → P ≡ zeros room → (r ≡ (judged (table_verdict t)).number) × (A ≡ area_of (judged (table_verdict t)))
      → WrittenBack (write_bytes t party name type mode e x room) mode n T room r A P
  unfolding write_bytes verdict_made outcome_made payload_left
  bytes-unwritten w h z p (b, c) = let v = (not-whole t (sym h ∙ z)).1 in record { number = b ∙ rw v; area = c ∙ rw v; payload = p ∙ rw v }
