-- A table's bytes judged by the words that are lent of it.
use Prim.Native.Nat.{ℕ, ◌/◌, ◌%◌, ◌≤◌}
use mathlib.Core.Path.{◌≡◌, refl, sym, ap, ◌∙◌}
use mathlib.Core.List.{List, [], ◌++◌}
use borrow.Author.Tests.{eqb-true, leb-true}
use mathlib.Core.Bool.{Bool, true, false, cond, true≢false}
use lib.Dec.{eqb, leb}
use lib.ListN.{length, take, drop}
use Rattle.numbers.specs.Refusal as refusal
use Rattle.numbers.specs.Refusal.{accepted}
use Rattle.numbers.specs.Limit.{most_table_words}
use Rattle.table.specs.First.Verdict.{wrong}
use Rattle.table.specs.Valid.{verdict}
use Rattle.table.specs.Views.{Checked, verdict_is}
use Rattle.table.specs.declared.answers.Flaw.{Flaw}
use Rattle.std.specs.Prelude.{Ok, Err}
use Rattle.std.specs.Result.{MatchResult, IsErrAnd}
use Rattle.std.proofs.lemmas.Result.{err_from_is_err_and}
use Rattle.buffers.specs.Bytes.{words_of}
use Rattle.call_parts.specs.Area.{area_of, told}
use Rattle.call_parts.specs.Calls.{table_verdict, judged}
use Rattle.call_parts.specs.TableRoom.{place_in_table, is_whole, Lends}
use Rattle.call_parts.proofs.TableLaws.{moved, seen, verdict-lent}

-- whether a table can have so many bytes
module _ (r : Bool) (b : ℕ) (e : r ≡ is_whole b) (w : r ≡ true) where
  whole-ends : (b % 4 ≡ 0) × (b / 4 ≤ most_table_words)
  whole-ends = go (eqb (b % 4) 0) refl (sym e ∙ w)
    where
      go : (x : Bool) → eqb (b % 4) 0 ≡ x → cond x (leb (b / 4) most_table_words) false ≡ true → (b % 4 ≡ 0) × (b / 4 ≤ most_table_words)
      go true f g = (eqb-true _ _ f, leb-true _ _ g)
      go false f g = absurd (true≢false (sym g))

  pub whole-units : b % 4 ≡ 0
  whole-units = whole-ends.0

  pub whole-few : b / 4 ≤ most_table_words
  whole-few = whole-ends.1

pub ruleset whole-ways = (whole-units, whole-few)

-- the check
module _ (t room words : List ℕ) (k : ℕ) (h : Lends k (length t) (length room)) (l : words ≡ take k (words_of t) ++ drop k room)
    (v : Checked) (e : verdict_is v ≡ verdict (take k words)) where
  judged-is : table_verdict t ≡ moved k (length t / 4) (verdict_is v)
  judged-is =
      let s = seen t room words k h l in
      verdict-lent t k s.tells ∙ ap (λ (x : List ℕ). moved k (length t / 4) (verdict x)) (sym s.front)
      ∙ ap (moved k (length t / 4)) (sym e)

-- what a `map_err` that moves a flaw's place answers, by what it was given
flaw-moved : (k m : ℕ) (Q : Flaw → Flaw → Type 0) → ((i x : Flaw) → Q i x → x.0 ≡ place_in_table k m i.0)
    → (a r : Checked) → MatchResult a (λ u. r ≡ Ok u) (λ i. IsErrAnd r (Q i)) → verdict_is r ≡ moved k m (verdict_is a)
flaw-moved k m Q g (Ok u) r h = ap verdict_is h
flaw-moved k m Q g (Err i) r h = let p = err_from_is_err_and r h in ap verdict_is p.1 ∙ ap wrong (g i p.0 p.2)

pub judged-moved : (t room words : List ℕ) (k : ℕ) → Lends k (length t) (length room) → words ≡ take k (words_of t) ++ drop k room
    → (v : Checked) → verdict_is v ≡ verdict (take k words)
    → (Q : Flaw → Flaw → Type 0) → ((i x : Flaw) → Q i x → x.0 ≡ place_in_table k (length t / 4) i.0)
    → (r : Checked) → MatchResult v (λ u. r ≡ Ok u) (λ i. IsErrAnd r (Q i)) → verdict_is r ≡ table_verdict t
judged-moved t room words k h l v e Q g r m = flaw-moved k (length t / 4) Q g v r m ∙ sym (judged-is t room words k h l v e)

-- the verdict told
module _ (t area : List ℕ) (v : Checked) (e : verdict_is v ≡ table_verdict t) where
  pub right-told : v ≡ Ok tt → area ≡ area_of (told 0 0 0 0 0 []) → (accepted ≡ (judged (table_verdict t)).number) × (area ≡ area_of (judged (table_verdict t)))
  unfolding area_of
  right-told r a = let j = sym e ∙ ap verdict_is r in (rw j, a ∙ rw j)

  pub wrong-told : (i : Flaw) → v ≡ Err i → area ≡ area_of (told i.0 0 0 0 0 []) → (refusal.table ≡ (judged (table_verdict t)).number) × (area ≡ area_of (judged (table_verdict t)))
  unfolding area_of
  wrong-told i r a = let j = sym e ∙ ap verdict_is r in (rw j, a ∙ rw j)
