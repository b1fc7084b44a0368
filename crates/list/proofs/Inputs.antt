-- The input taken apart: what the code lends to the reader is what the listing reads.
use Prim.Native.Nat.{ℕ, ◌+◌, ◌*◌, ◌-◌, ◌≤◌, ◌<◌, min}
use mathlib.Core.Path.{◌≡◌, refl, sym, ap, subst, ◌∙◌}
use mathlib.Core.List.{List, []}
use mathlib.Core.Bool.{Bool, true, false, cond}
use native.Mathlib.Omega.{arith}
use borrow.Author.Tests.{le-leb, lt-leb}
use lib.Dec.{leb}
use lib.ListN.{length, take, drop, length-take, length-drop}
use lib.Seq.{take_all}
use Rattle.numbers.specs.Refusal as refusal
use Rattle.numbers.specs.Limit.{most_table_words}
use Rattle.signed.proofs.Laws.{ordered}
use Rattle.table.specs.First.{first, judge, ◌then◌}
use Rattle.table.specs.Valid.{given, header_words, verdict, verdict_from, length_right, form_size}
use Rattle.model.specs.Whole.{Reply, reading, after_verdict}
use Rattle.model.specs.Whole.Reply.{declined}
use Rattle.reader.specs.Answers.{Answer, Replies}
use Rattle.buffers.specs.Bytes.{half_from, words_of}
use Rattle.buffers.proofs.BytesLaws.{words-length}
use Rattle.list.specs.Listing.{count_in, name_at, type_at, payload_at, table_in, payload_in, listed, listing}

module _ (W B : ℕ) (r : Answer) (E T : List ℕ) where
  -- no words at all
  none_is : (name type : ℕ) (s : List ℕ) → reading [] 0 name type s W B ≡ declined refusal.table 0 []
  unfolding reading after_verdict verdict verdict_from first judge ◌then◌ header_words given length_right form_size
  none_is name type s = refl

  pub none_read : (name type : ℕ) (s : List ℕ) → Replies (reading [] 0 name type s W B) W B r E T → Replies (declined refusal.table 0 []) W B r E T
  none_read name type s h = subst (λ (R : Reply). Replies R W B r E T) (none_is name type s) h

  -- the parts behind n words
  module _ (s : List ℕ) (n : ℕ) where
    words_are : payload_at n ≤ length s → (l : List ℕ) (at : ℕ) → at ≡ name_at n → take n l ≡ take n (words_of (take (at - 4) (drop 4 s))) → take n l ≡ table_in s n
    words_are h l at a e =
        let z : at - 4 ≡ 4 * n = omega arith in
        let m : length (words_of (take (4 * n) (drop 4 s))) ≤ n =
        omega (arith, words-length (take (4 * n) (drop 4 s)), length-take (4 * n) (drop 4 s), length-drop 4 s) in
        e ∙ ap (λ (k : ℕ). take n (words_of (take k (drop 4 s)))) z ∙ take_all n (words_of (take (4 * n) (drop 4 s))) m

    payload-is : (from to : ℕ) → from ≡ payload_at n → to ≡ min (length s) (from + 8193) → take (to - from) (drop from s) ≡ payload_in s n
    payload-is from to e g =
        ordered (length s - from) 8193
        (λ h. take_all (to - from) (drop from s) (omega (arith, length-drop from s)) ∙ sym (take_all 8193 (drop from s) (omega (arith, length-drop from s))) ∙ ap (λ (k : ℕ). take 8193 (drop k s)) e)
        (λ h. let z : to - from ≡ 8193 = omega arith in ap (λ (k : ℕ). take k (drop from s)) z ∙ ap (λ (k : ℕ). take 8193 (drop k s)) e)

    pub parts-read : (l : List ℕ) (at from to name type : ℕ) → payload_at n ≤ length s → at ≡ name_at n → from ≡ payload_at n → to ≡ min (length s) (from + 8193)
        → take n l ≡ take n (words_of (take (at - 4) (drop 4 s))) → name ≡ half_from s at → type ≡ half_from s (at + 2)
        → Replies (reading (take n l) 0 name type (take (to - from) (drop from s)) W B) W B r E T → Replies (listed s n W B) W B r E T
    unfolding listed
    parts-read l at from to name type h a f t w x y k =
        let z : at + 2 ≡ type_at n = omega arith in
        let e : reading (take n l) 0 name type (take (to - from) (drop from s)) W B ≡ reading (table_in s n) 0 (half_from s (name_at n)) (half_from s (type_at n)) (payload_in s n) W B =
        ap (λ (i : List ℕ). reading i 0 name type (take (to - from) (drop from s)) W B) (words_are h l at a w)
        ∙ ap (λ (i : ℕ). reading (table_in s n) 0 i type (take (to - from) (drop from s)) W B) (x ∙ ap (half_from s) a)
        ∙ ap (λ (i : ℕ). reading (table_in s n) 0 (half_from s (name_at n)) i (take (to - from) (drop from s)) W B) (y ∙ ap (half_from s) z)
        ∙ ap (λ (i : List ℕ). reading (table_in s n) 0 (half_from s (name_at n)) (half_from s (type_at n)) i W B) (payload-is from to f t) in
        subst (λ (R : Reply). Replies R W B r E T) e k

  -- the whole input
  module _ (s : List ℕ) where
    abbrev Listed : Type 0
    Listed = Replies (listing s W B) W B r E T

    being : (R : Reply) → R ≡ listing s W B → Replies R W B r E T → Listed
    being R e h = subst (λ (x : Reply). Replies x W B r E T) e h

    pub too_short : length s < payload_at (count_in s) → Replies (declined refusal.table 0 []) W B r E T → Listed
    unfolding listing
    too_short h k = being _ (sym (either (leb (count_in s) most_table_words))) k
      where
        either : (x : Bool) → cond x (cond (leb (payload_at (count_in s)) (length s)) (listed s (count_in s) W B) (declined refusal.table 0 [])) (declined refusal.table 0 []) ≡ declined refusal.table 0 []
        either true = rw (lt-leb (payload_at (count_in s)) (length s) h)
        either false = refl

    pub too_many : most_table_words < count_in s → Replies (declined refusal.table 0 []) W B r E T → Listed
    unfolding listing
    too_many h k = being _ (sym (rw (lt-leb (count_in s) most_table_words h))) k

    pub all_there : (n : ℕ) → n ≡ count_in s → n ≤ most_table_words → payload_at n ≤ length s → Replies (listed s n W B) W B r E T → Listed
    unfolding listing
    all_there n e h g k = being _ (sym (rw (← e, le-leb n most_table_words h, le-leb (payload_at n) (length s) g))) k
