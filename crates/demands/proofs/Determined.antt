-- TWO OUTCOMES THAT A PROMISE ALLOWS ARE EQUAL: of check, read and write over words, and of the calls for C over bytes. The premises are the promises
-- as the functions' contracts have them. One exception: names past the count in the array of the word-level answer's path; `answer_is` leaves them out.
use Prim.Native.Nat.{ℕ}
use mathlib.Core.Path.{◌≡◌, refl, sym, ap, ◌∙◌}
use mathlib.Core.List.{List, [], ◌∷◌}
use native.Mathlib.Omega.{arith}
use lib.ListN.{length}
use Rattle.numbers.specs.Mode.{always}
use Rattle.table.specs.Valid.{verdict}
use Rattle.table.specs.Views.{verdict_is}
use Rattle.std.specs.Prelude.{Result, Ok, Err}
use Rattle.numbers.proofs.Refusals.{number-one, number-some}
use Rattle.table.specs.declared.answers.Flaw.{Flaw}
use Rattle.model.specs.Whole.{Outcome, reading, writing}
use Rattle.writer_parts.specs.Walk.{events_in}
use Rattle.reader.specs.Answers as reads
use Rattle.writer.specs.Answers as writes
use Rattle.bit_reader.specs.declared.codes.Coding.{Coding}
use Rattle.call_parts.specs.Calls.{Back, back, check_table, read_call, write_call, set_call}
use Rattle.bim.specs.Bits.{bits_call}
use Rattle.demands.specs.Determined.{SameReply, SameWritten, SameBack}

-- table::check
pub check-determined : (l : List ℕ) (u v : Result Unit Flaw) → verdict_is u ≡ verdict l → verdict_is v ≡ verdict l → u ≡ v
check-determined l u v x y = go u v (x ∙ sym y)
  where
    go : (u v : Result Unit Flaw) → verdict_is u ≡ verdict_is v → u ≡ v
    go (Ok x) (Ok y) e = refl
    go (Ok x) (Err j) e = absurd (let z : ◌≡◌ {A = ℕ} 0 1 = cc in omega arith)
    go (Err i) (Ok y) e = absurd (let z : ◌≡◌ {A = ℕ} 0 1 = cc in omega arith)
    go (Err i) (Err j) e = let z : i.0 ≡ j.0 = cc in λ k. Err (record { 0 = z k })

pub read-determined : (l : List ℕ) (party name type : ℕ) (s : List ℕ) (words bytes : ℕ) (r r' : reads.Answer) (E E' T T' : List ℕ)
    → reads.Replies (reading l party name type s words bytes) words bytes r E T → reads.Replies (reading l party name type s words bytes) words bytes r' E' T' → SameReply r r' E E' T T'
read-determined l party name type s words bytes r r' E E' T T' x y =
    record { answer = x.answer ∙ sym y.answer; events = x.events_left_lem ∙ sym y.events_left_lem; texts = x.texts_left_lem ∙ sym y.texts_left_lem }

pub write-determined : (l : List ℕ) (party name type mode : ℕ) (L X : List ℕ) (room : ℕ) (r r' : writes.Answer) (P P' : List ℕ)
    → writes.Writes (writing l party name type mode L X room) mode (events_in L) (length X) room r P → writes.Writes (writing l party name type mode L X room) mode (events_in L) (length X) room r' P'
    → SameWritten r r' P P'
write-determined l party name type mode L X room r r' P P' x y = record { answer = go r r' (x.answer ∙ sym y.answer); payload = x.left ∙ sym y.left }
  where
    go : (r r' : writes.Answer) → writes.answer_is r ≡ writes.answer_is r' → r ≡ r'
    go (Ok w) (Ok w') e =
        λ i. Ok (record { mode = (e i).mode; events = (e i).events; text = record { 0 = (e i).text }; bits = record { 0 = (e i).bits } })
    go (Ok w) (Err f) e = absurd (number-some f.why (sym (ap (λ (o : Outcome). o.number) e)))
    go (Err f) (Ok w) e = absurd (number-some f.why (ap (λ (o : Outcome). o.number) e))
    go (Err f) (Err f') e =
        let n = number-one {a = f.why} {b = f'.why} (ap (λ (o : Outcome). o.number) e) in
        λ i. Err (record { why = n i; at = (e i).place })

same_back : (o : Back) (n n' : ℕ) (A A' : List ℕ) (B B' : List (List ℕ)) → back n A B ≡ o → back n' A' B' ≡ o → SameBack n n' A A' B B'
same_back o n n' A A' B B' x y =
    let e = x ∙ sym y in
    record { number = ap (λ (o : Back). o.number) e; area = ap (λ (o : Back). o.area) e; buffers = ap (λ (o : Back). o.buffers) e }

-- bim_check_table
pub check-call-determined : (t : List ℕ) (area n n' : ℕ) (A A' : List ℕ) → back n A [] ≡ check_table t area → back n' A' [] ≡ check_table t area → SameBack n n' A A' [] []
check-call-determined t area n n' A A' x y = same_back (check_table t area) n n' A A' [] [] x y

-- bim_read
pub read-call-determined : (t : List ℕ) (party name type : ℕ) (s : List ℕ) (e x area n n' : ℕ) (A A' E E' T T' : List ℕ)
    → back n A (E ∷ T ∷ []) ≡ read_call t party name type s e x area → back n' A' (E' ∷ T' ∷ []) ≡ read_call t party name type s e x area
    → SameBack n n' A A' (E ∷ T ∷ []) (E' ∷ T' ∷ [])
read-call-determined t party name type s e x area n n' A A' E E' T T' p q = same_back (read_call t party name type s e x area) n n' A A' (E ∷ T ∷ []) (E' ∷ T' ∷ []) p q

-- bim_write
pub write-call-determined : (t : List ℕ) (party name type mode : ℕ) (e x : List ℕ) (room area n n' : ℕ) (A A' P P' : List ℕ)
    → back n A (P ∷ []) ≡ write_call t party name type mode e x room area → back n' A' (P' ∷ []) ≡ write_call t party name type mode e x room area
    → SameBack n n' A A' (P ∷ []) (P' ∷ [])
write-call-determined t party name type mode e x room area n n' A A' P P' p q = same_back (write_call t party name type mode e x room area) n n' A A' (P ∷ []) (P' ∷ []) p q

-- bim_write_lengths
pub lengths-call-determined : (t : List ℕ) (party name type : ℕ) (e x : List ℕ) (room area n n' : ℕ) (A A' P P' : List ℕ)
    → back n A (P ∷ []) ≡ write_call t party name type always e x room area → back n' A' (P' ∷ []) ≡ write_call t party name type always e x room area
    → SameBack n n' A A' (P ∷ []) (P' ∷ [])
lengths-call-determined t party name type e x room area n n' A A' P P' p q = write-call-determined t party name type always e x room area n n' A A' P P' p q

-- bim_set_held
pub set-call-determined : (t : List ℕ) (party type mark area n n' : ℕ) (A A' T T' : List ℕ)
    → back n A (T ∷ []) ≡ set_call t party type mark area → back n' A' (T' ∷ []) ≡ set_call t party type mark area → SameBack n n' A A' (T ∷ []) (T' ∷ [])
set-call-determined t party type mark area n n' A A' T T' p q = same_back (set_call t party type mark area) n n' A A' (T ∷ []) (T' ∷ []) p q

-- bim_bits_fixed, bim_bits_vlu5, bim_bits_vlu8
pub bits-call-determined : (s : List ℕ) (at : ℕ) (c : Coding) (area n n' : ℕ) (A A' : List ℕ) → back n A [] ≡ bits_call s at c area → back n' A' [] ≡ bits_call s at c area → SameBack n n' A A' [] []
bits-call-determined s at c area n n' A A' x y = same_back (bits_call s at c area) n n' A A' [] [] x y
