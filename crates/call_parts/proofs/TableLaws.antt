-- A table whose length is wrong, judged by its first four words: what the calls lend of it to the word functions.
use Prim.Native.Nat.{ℕ, zero, suc, ◌/◌, ◌%◌, ◌≤◌, ◌<◌, min}
use mathlib.Core.Path.{◌≡◌, refl, sym, ap, subst, ◌∙◌}
use mathlib.Core.List.{List, [], ◌∷◌, ◌++◌}
use mathlib.Core.Bool.{Bool, true, false, cond, ◌&&◌, true≢false}
use native.Mathlib.Omega.{arith}
use borrow.Author.Tests.{leb-true, leb-false, ne_eqb, eq-eqb, lt-ltb, le-ltb, eqb-true}
use lib.Dec.{eqb, leb}
use lib.ListN.{length, take, drop, get_or, length-take}
use lib.Seq.{take_all}
use Rattle.numbers.specs.Limit.{most_types, most_attributes, most_particles, most_table_words}
use Rattle.signed.proofs.Laws.{ordered}
use Rattle.table.specs.Words.{plain_form, cast_form, word_at, types_in}
use Rattle.table.specs.First.{Verdict, first, ◌then◌}
use Rattle.table.specs.First.Verdict.{right, wrong}
use Rattle.table.proofs.FirstLaws.{then-wrong, right-every, wrong-fails}
use Rattle.table.specs.Valid.{given, header_words, Sized, verdict, verdict_from}
use Rattle.table.proofs.Laws.{unsized, rows-within}
use Rattle.buffers.specs.Bytes.{words_of}
use Rattle.buffers.proofs.BytesLaws.{words-length, loaded-front}
use Rattle.call_parts.specs.Calls.{table_verdict}
use Rattle.call_parts.specs.TableRoom.{place_in_table, words_lent, is_whole, Lends}

-- the words of the header are those of the first four words
header-front : (l : List ℕ) → header_words (take 4 l) ≡ header_words l
unfolding header_words given
header-front [] = refl
header-front (a ∷ []) = refl
header-front (a ∷ b ∷ []) = refl
header-front (a ∷ b ∷ c ∷ []) = refl
header-front (a ∷ b ∷ c ∷ d ∷ l) =
    let n = suc (suc (suc (suc (length l)))) in
    sym (rw (lt-ltb 0 n (omega arith), lt-ltb 1 n (omega arith), lt-ltb 2 n (omega arith), lt-ltb 3 n (omega arith)))

and-true : (x y : Bool) → (x && y) ≡ true → (x ≡ true) × (y ≡ true)
and-true true y e = (refl, e)
and-true false y e = absurd (true≢false (sym e))

given-within : (l : List ℕ) (i least most : ℕ) → given l i least most ≡ true → i < length l → (least ≤ word_at l i) × (word_at l i ≤ most)
unfolding given
given-within l i least most e h = let b = and-true _ _ (rw (lt-ltb i (length l) h) at e) in (leb-true _ _ b.0, leb-true _ _ b.1)

-- where every header word that is given is right
module _ (l : List ℕ) (e : first 0 (header_words l) ≡ right) where
  some-type : 1 < length l → 1 ≤ types_in l
  unfolding header_words
  some-type h = (given-within l 1 1 most_types (right-every 0 (header_words l) e).1.0 h).0

-- the header's verdict comes first
header-first : (l : List ℕ) (i : ℕ) → first 0 (header_words l) ≡ wrong i → verdict l ≡ wrong i
unfolding verdict verdict_from
header-first l i e = then-wrong _ _ i e

-- and names a word that is given
given-false : (l : List ℕ) (i least most : ℕ) → given l i least most ≡ false → i < length l
unfolding given
given-false l i least most e = ordered i (length l) (λ h. h) (λ h. absurd (true≢false (sym (rw (le-ltb _ _ h)) ∙ e)))

header-given : (l : List ℕ) (i : ℕ) → first 0 (header_words l) ≡ wrong i → i < length l
unfolding header_words
header-given l i e = let f = wrong-fails 0 (header_words l) i e in at f.0 f.1.fails (omega (arith, f.1.place))
  where
    at : (j : ℕ) → get_or (header_words l) j true ≡ false → i ≡ j → i < length l
    at zero g k = rw k (given-false l 0 plain_form cast_form g)
    at (suc zero) g k = rw k (given-false l 1 1 most_types g)
    at (suc (suc zero)) g k = rw k (given-false l 2 0 most_attributes g)
    at (suc (suc (suc zero))) g k = rw k (given-false l 3 0 most_particles g)
    at (suc (suc (suc (suc j)))) g k = absurd (true≢false g)

-- the header alone, and m for a length that is wrong
abbrev pub headed : List ℕ → ℕ → Verdict
headed l m = first 0 (header_words l) then wrong m

-- more words than any table has
too_long : (l : List ℕ) → most_table_words < length l → verdict l ≡ headed l (length l)
unfolding ◌then◌
too_long l h = go (first 0 (header_words l)) refl
  where
    go : (v : Verdict) → first 0 (header_words l) ≡ v → verdict l ≡ headed l (length l)
    go right e = unsized l e (λ z. let m = z.few in omega arith) ∙ sym (rw e)
    go (wrong i) e = header-first l i e ∙ sym (rw e)

-- So four words are enough: they are no table, and tell the header's fault or the length's.
pub record Four (l : List ℕ) (m : ℕ) (i : ℕ) : Type 0 where
  pub seen : verdict (take 4 l) ≡ wrong i
  pub meant : headed l m ≡ wrong (place_in_table (length (take 4 l)) m i)

four-words : (l : List ℕ) (m : ℕ) → (i : ℕ) × Four l m i
unfolding ◌then◌
four-words l m = go (first 0 (header_words l)) refl
  where
    -- with a type or without, the size is over four or the words are fewer
    no_table : first 0 (header_words (take 4 l)) ≡ right → Sized (take 4 l) → ⊥
    no_table f z =
        let least = rows-within (take 4 l) z in
        let t = some-type (take 4 l) f (omega arith) in
        omega (arith, length-take 4 l)

    go : (v : Verdict) → first 0 (header_words l) ≡ v → (i : ℕ) × Four l m i
    go right e =
        let f : first 0 (header_words (take 4 l)) ≡ right = ap (first 0) (header-front l) ∙ e in
        (length (take 4 l), record { seen = unsized (take 4 l) f (no_table f); meant = rw (e, eq-eqb (length (take 4 l)) (length (take 4 l)) refl) })
    go (wrong i) e =
        let f : first 0 (header_words (take 4 l)) ≡ wrong i = ap (first 0) (header-front l) ∙ e in
        let b = header-given (take 4 l) i f in
        (i, record { seen = header-first (take 4 l) i f; meant = rw (e, ne_eqb i (length (take 4 l)) (λ z. omega arith)) })

-- where the length is right the words are judged
pub whole-verdict : (t : List ℕ) → length t % 4 ≡ 0 → table_verdict t ≡ verdict (words_of t)
unfolding table_verdict
whole-verdict t e = rw (eq-eqb (length t % 4) 0 e)

-- what the words lent tell of the table
pub data Told (t : List ℕ) (k : ℕ) : Type 0 where
  whole : table_verdict t ≡ verdict (words_of t) → take k (words_of t) ≡ words_of t → k ≡ length t / 4 → Told t k
  part : (i : ℕ) → verdict (take k (words_of t)) ≡ wrong i → table_verdict t ≡ wrong (place_in_table k (length t / 4) i) → Told t k

module _ (t : List ℕ) where
  abbrev l : List ℕ
  l = words_of t

  abbrev m : ℕ
  m = length t / 4

  odd-verdict : eqb (length t % 4) 0 ≡ false → table_verdict t ≡ headed l m
  unfolding table_verdict
  odd-verdict e = rw e

  long-verdict : length t % 4 ≡ 0 → most_table_words < m → table_verdict t ≡ headed l m
  long-verdict e h = let n = words-length t in whole-verdict t e ∙ too_long l (omega arith) ∙ ap (headed l) n

  -- no table has so many bytes
  pub not-whole : is_whole (length t) ≡ false → (i : ℕ) × (table_verdict t ≡ wrong i)
  not-whole h = let f = four-words l m in (_, go (eqb (length t % 4) 0) refl ∙ f.1.meant)
    where
      go : (x : Bool) → eqb (length t % 4) 0 ≡ x → table_verdict t ≡ headed l m
      go true e = long-verdict (eqb-true _ _ e) (leb-false m most_table_words (rw e at h))
      go false e = odd-verdict e

  in-part : (k : ℕ) → table_verdict t ≡ headed l m → take k l ≡ take 4 l → k ≡ length (take 4 l) → Told t k
  in-part k v e g =
      let f = four-words l m in
      part f.0 (ap verdict e ∙ f.1.seen) (v ∙ f.1.meant ∙ ap (λ (j : ℕ). wrong (place_in_table j m f.0)) (sym g))

  of_four : (n : ℕ) → n ≡ m → take (min n 4) l ≡ take 4 l
  of_four n e = ordered n 4 (λ h. go (omega (arith, words-length t))) (λ h. let z : min n 4 ≡ 4 = omega arith in rw z)
    where
      go : length l ≤ 4 → take (min n 4) l ≡ take 4 l
      go h = take_all (min n 4) l (omega (arith, words-length t)) ∙ sym (take_all 4 l h)

  pub told : Told t (words_lent (length t))
  told = go (eqb (length t % 4) 0) (leb m most_table_words) refl refl
    where
      go : (x y : Bool) → eqb (length t % 4) 0 ≡ x → leb m most_table_words ≡ y → Told t (cond (eqb (length t % 4) 0) (cond (leb m most_table_words) m 4) (min m 4))
      go true true e f = rw (e, f) (whole (whole-verdict t (eqb-true _ _ e)) (take_all m l (omega (arith, words-length t))) refl)
      go true false e f =
          let b = leb-false m most_table_words f in
          let n = words-length t in
          rw (e, f) (in-part 4 (long-verdict (eqb-true _ _ e) b) refl (omega (arith, length-take 4 l)))
      go false y e f = rw e (in-part (min m 4) (odd-verdict e) (of_four m refl) (omega (arith, length-take 4 l, words-length t)))

-- the words of a whole table, once they are loaded
pub loaded-whole : (t room words : List ℕ) → words ≡ take (length t / 4) (words_of t) ++ drop (length t / 4) room → take (length t / 4) words ≡ words_of t
loaded-whole t room words l = loaded-front t room words (length t / 4) l (omega arith) ∙ take_all (length t / 4) (words_of t) (omega (arith, words-length t))

-- the words of a table in the room that each call lends: what they are, and what they tell of it
pub record Seen (t words : List ℕ) (k : ℕ) : Type 0 where
  pub front : take k words ≡ take k (words_of t)
  pub tells : Told t k

pub lent-tell : (t : List ℕ) (k room : ℕ) → Lends k (length t) room → Told t k
lent-tell t k room h = subst (Told t) (sym h.words) (told t)

pub seen : (t room words : List ℕ) (k : ℕ) → Lends k (length t) (length room)
    → words ≡ take k (words_of t) ++ drop k room → Seen t words k
seen t room words k h l = record { front = loaded-front t room words k l h.given; tells = lent-tell t k (length room) h }

-- the verdict over the words lent, its place moved
abbrev pub moved : (seen given : ℕ) → Verdict → Verdict
moved seen given right = right
moved seen given (wrong i) = wrong (place_in_table seen given i)

pub in-table-same : (k i : ℕ) → place_in_table k k i ≡ i
in-table-same k i = go (eqb i k) refl
  where
    go : (b : Bool) → eqb i k ≡ b → cond b k i ≡ i
    go true e = sym (eqb-true i k e)
    go false e = refl

pub moved_same : (k : ℕ) (v : Verdict) → moved k k v ≡ v
moved_same k right = refl
moved_same k (wrong i) = ap wrong (in-table-same k i)

pub verdict-lent : (t : List ℕ) (k : ℕ) → Told t k → table_verdict t ≡ moved k (length t / 4) (verdict (take k (words_of t)))
verdict-lent t k (whole e f g) =
    e ∙ sym (moved_same k (verdict (words_of t))) ∙ ap (λ (x : List ℕ). moved k k (verdict x)) (sym f) ∙ ap (λ (j : ℕ). moved k j (verdict (take k (words_of t)))) g
verdict-lent t k (part i e f) = f ∙ ap (moved k (length t / 4)) (sym e)
