-- A mark set in a table's bytes: what the setting of the words lent tells of them.
use Prim.Native.Nat.{ℕ, zero, suc, ◌+◌, ◌*◌, ◌/◌, ◌%◌, ◌≤◌, ◌<◌}
use mathlib.Core.Path.{◌≡◌, refl, sym, ap, ◌∙◌}
use mathlib.Core.Bool.{Bool, true, false}
use mathlib.Core.List.{List, [], ◌∷◌, ◌++◌}
use native.Mathlib.Omega.{arith}
use borrow.Author.Tests.{ltb-true}
use lib.Dec.{ltb}
use lib.ListN.{length, take, drop, get_or, set, length-take}
use Rattle.numbers.specs.Refusal as refusal
use Rattle.numbers.specs.Limit as limit
use Rattle.numbers.specs.Refused.{number_of}
use Rattle.numbers.specs.declared.refusal.Refusal.{Refusal}
use Rattle.numbers.specs.declared.refusal.Refusal.TheVariants as variant
use Rattle.numbers.specs.declared.refusal.Fault.{Fault}
use Rattle.std.specs.Prelude.{Ok, Err}
use Rattle.std.specs.Result.{MatchResult, IsErrAnd}
use Rattle.std.proofs.lemmas.Result.{err_from_is_err_and}
use Rattle.table.specs.First.{Verdict}
use Rattle.table.specs.First.Verdict.{right, wrong}
use Rattle.table.specs.Valid.{verdict}
use Rattle.table.specs.Words.{type_at, word_at, types_in}
use Rattle.table.specs.Setting.{Setting, marked, setting, setting_by}
use Rattle.table.specs.Views.{Set, set_number, set_place, setting_is}
use Rattle.table.proofs.Bits.{marked-small}
use Rattle.table.proofs.Laws.{mark-ok, sized, rows-within}
use Rattle.model.specs.Whole.{declines}
use lib.Seq.{get_or-set_same, get_or-take, take_at}
use Rattle.buffers.specs.Bytes.{words_of}
use Rattle.buffers.proofs.BytesLaws.{words-length}
use Rattle.call_parts.specs.Calls.{table_verdict, set_by, set_outcome, table_left}
use Rattle.call_parts.specs.Promises.{Holds, mark_stored, SetByBytes}
use Rattle.call_parts.specs.TableRoom.{place_in_table, Lends}
use Rattle.call_parts.proofs.TableLaws.{Told, seen, in-table-same}
use Rattle.call_parts.proofs.TableLaws.Told.{whole, part}

-- a word of one byte is its lowest byte, and goes by it
pub low-set : (t : List ℕ) (i x : ℕ) → i < length t / 4 → get_or (words_of t) i 0 ≤ 255 → (get_or t (4 * i + 3) 0 ≡ get_or (words_of t) i 0) × (words_of (set t (4 * i + 3) x) ≡ set (words_of t) i x)
unfolding words_of
low-set [] i x h k = absurd (omega arith)
low-set (a ∷ []) i x h k = absurd (omega arith)
low-set (a ∷ b ∷ []) i x h k = absurd (omega arith)
low-set (a ∷ b ∷ c ∷ []) i x h k = absurd (omega arith)
low-set (a ∷ b ∷ c ∷ d ∷ s) zero x h k =
    let w : a * 16777216 + b * 65536 + c * 256 + x ≡ x = omega arith in
    (omega arith, ap (λ (y : ℕ). y ∷ words_of s) w)
low-set (a ∷ b ∷ c ∷ d ∷ s) (suc i) x h k =
    let e : 4 * suc i + 3 ≡ suc (suc (suc (suc (4 * i + 3)))) = omega arith in
    let r = low-set s i x (omega arith) k in
    rw e (r.0, ap (λ (l : List ℕ). (a * 16777216 + b * 65536 + c * 256 + d) ∷ l) r.1)

-- on a refusal no byte changes
pub refused-left : (t : List ℕ) (party type mark n : ℕ) → (n ≡ 0 → ⊥) → t ≡ table_left t party type mark n
unfolding table_left
refused-left t party type mark zero h = absurd (h refl)
refused-left t party type mark (suc n) h = refl

-- the type's held word is one of the table's
type-within : (t : List ℕ) (type : ℕ) → verdict (words_of t) ≡ right → type < types_in (words_of t) → type_at type < length t / 4
type-within t type v known = omega (arith, words-length t, rows-within (words_of t) (sized (words_of t) v))

-- The answer of the words is that of the bytes: by the table, the type and the party.
pub record Agrees (t : List ℕ) (party type mark : ℕ) (s : Setting) : Type 0 where
  pub number : s.number ≡ (set_outcome t party type).number
  pub place : s.place ≡ (set_outcome t party type).place

-- What a setting that is accepted has found and left.
pub record Accepts (t : List ℕ) (party type mark : ℕ) (s : Setting) : Type 0 where
  pub place : s.place ≡ 0
  pub known : type < types_in (words_of t)
  pub within : type_at type < length t / 4
  pub was_small : word_at (words_of t) (type_at type) ≤ limit.most_held
  pub small : marked party mark (word_at (words_of t) (type_at type)) ≤ limit.most_held
  pub left : s.words ≡ set (words_of t) (type_at type) (marked party mark (word_at (words_of t) (type_at type)))

module _ (t : List ℕ) (party type mark : ℕ) where
  abbrev T : ℕ
  T = types_in (words_of t)

  pub agrees : table_verdict t ≡ verdict (words_of t) → Agrees t party type mark (setting (words_of t) party type mark)
  unfolding set_outcome set_by setting setting_by
  agrees w = go (verdict (words_of t)) refl (ltb type T) refl (ltb party limit.parties) refl
    where
      go : (v : Verdict) → verdict (words_of t) ≡ v → (a : Bool) → ltb type T ≡ a → (b : Bool) → ltb party limit.parties ≡ b
          → Agrees t party type mark (setting (words_of t) party type mark)
      go (wrong i) v a e b f = record { number = rw (w, v); place = rw (w, v) }
      go right v false e b f = record { number = rw (w, v, e); place = rw (w, v, e) }
      go right v true e false f = record { number = rw (w, v, e, f); place = rw (w, v, e, f) }
      go right v true e true f = record { number = rw (w, v, e, f); place = rw (w, v, e, f) }

  pub accepts : (setting (words_of t) party type mark).number ≡ 0 → Accepts t party type mark (setting (words_of t) party type mark)
  unfolding setting setting_by
  accepts n = go (verdict (words_of t)) refl (ltb type T) refl (ltb party limit.parties) refl
    where
      go : (v : Verdict) → verdict (words_of t) ≡ v → (a : Bool) → ltb type T ≡ a → (b : Bool) → ltb party limit.parties ≡ b
          → Accepts t party type mark (setting (words_of t) party type mark)
      go (wrong i) v a e b f = absurd (let z : refusal.table ≡ 0 = rw v at n in omega arith)
      go right v false e b f = absurd (let z : refusal.root ≡ 0 = rw (v, e) at n in omega arith)
      go right v true e false f = absurd (let z : refusal.party ≡ 0 = rw (v, e, f) at n in omega arith)
      go right v true e true f =
          let known = ltb-true type T e in
          let old = mark-ok (words_of t) v type known in
          let new = marked-small 8 party mark (word_at (words_of t) (type_at type)) (ltb-true party limit.parties f) (omega arith) in
          record {
            place = rw (v, e, f);
            known = known;
            within = type-within t type v known;
            was_small = old;
            small = omega arith;
            left = rw (v, e, f);
          }

-- `set_in_words`: the words lent are the front of those that are left
pub front-set : (n : ℕ) (l w : List ℕ) (s : Set) (party type mark : ℕ) → n ≤ length l → length w ≡ length (take n l)
    → setting_is s w ≡ setting (take n l) party type mark → setting_is s (take n (w ++ drop n l)) ≡ setting (take n l) party type mark
front-set n l w s party type mark h k e = ap (setting_is s) (take_at w (drop n l) n (omega (arith, length-take n l))) ∙ e

-- what a `map_err` that moves a fault's place answers, by what it was given
abbrev place_moved : (seen given : ℕ) → Fault ℕ → Fault ℕ
place_moved seen given f = record { why = f.why; at = place_in_table seen given f.at }

abbrev Moved : (Fault ℕ → Fault ℕ → Type 0) → Set → Set → Type 0
Moved Q s r = MatchResult s (λ u. r ≡ Ok u) (λ f. IsErrAnd r (Q f))

pub moved-kept : (Q : Fault ℕ → Fault ℕ → Type 0) (s r : Set) → Moved Q s r → r ≡ Ok tt → s ≡ Ok tt
moved-kept Q (Ok u) r h k = refl
moved-kept Q (Err f) r h k =
    let p = err_from_is_err_and r h in
    let y : ◌≡◌ {A = Set} (Ok tt) (Err p.0) = sym k ∙ p.1 in
    let o : ◌≡◌ {A = ℕ} 0 1 = cc in
    absurd (omega arith)

pub moved-lost : (k m : ℕ) (Q : Fault ℕ → Fault ℕ → Type 0) → ((f x : Fault ℕ) → Q f x → x ≡ place_moved k m f)
    → (s r : Set) → Moved Q s r → (x : Fault ℕ) → r ≡ Err x → (f : Fault ℕ) × (s ≡ Err f) × (x ≡ place_moved k m f)
moved-lost k m Q g (Ok u) r h x e =
    let y : ◌≡◌ {A = Set} (Ok u) (Err x) = sym h ∙ e in
    let o : ◌≡◌ {A = ℕ} 0 1 = cc in
    absurd (omega arith)
moved-lost k m Q g (Err f) r h x e =
    let p = err_from_is_err_and r h in
    let y : ◌≡◌ {A = Set} (Err x) (Err p.0) = sym e ∙ p.1 in
    let z : x ≡ p.0 = cc in
    (f, refl, z ∙ g f p.0 p.2)

-- no refusal has the number of an acceptance
refusal-some : (e : Refusal) → number_of e ≡ 0 → ⊥
refusal-some variant.Table z = absurd (omega arith)
refusal-some variant.Root z = absurd (omega arith)
refusal-some variant.PayloadSize z = absurd (omega arith)
refusal-some variant.ModeByte z = absurd (omega arith)
refusal-some variant.PastEnd z = absurd (omega arith)
refusal-some variant.Depth z = absurd (omega arith)
refusal-some variant.EventRoom z = absurd (omega arith)
refusal-some variant.TextRoom z = absurd (omega arith)
refusal-some variant.NotHeld z = absurd (omega arith)
refusal-some variant.Length z = absurd (omega arith)
refusal-some variant.ContentShort z = absurd (omega arith)
refusal-some variant.NotShortest z = absurd (omega arith)
refusal-some variant.TooLarge z = absurd (omega arith)
refusal-some variant.NoSuchCode z = absurd (omega arith)
refusal-some variant.MinusZero z = absurd (omega arith)
refusal-some variant.NotUtf8 z = absurd (omega arith)
refusal-some variant.LeftOver z = absurd (omega arith)
refusal-some variant.NoReading z = absurd (omega arith)
refusal-some variant.Blank z = absurd (omega arith)
refusal-some variant.OutsideRow z = absurd (omega arith)
refusal-some variant.PayloadRoom z = absurd (omega arith)
refusal-some variant.WriteMode z = absurd (omega arith)
refusal-some variant.TextBytes z = absurd (omega arith)
refusal-some variant.AreaSize z = absurd (omega arith)
refusal-some variant.Control z = absurd (omega arith)
refusal-some variant.Party z = absurd (omega arith)
refusal-some variant.ReservedBits z = absurd (omega arith)
refusal-some variant.NoSchemas z = absurd (omega arith)
refusal-some variant.ManySchemas z = absurd (omega arith)
refusal-some variant.BlockCheck z = absurd (omega arith)
refusal-some variant.BlockTurn z = absurd (omega arith)
refusal-some variant.BlockLayout z = absurd (omega arith)
refusal-some variant.AdvancedFlag z = absurd (omega arith)

-- Over the words lent: `left` is what the setting made of them.
module _ (t room words left : List ℕ) (k : ℕ) (h : Lends k (length t) (length room)) (l : words ≡ take k (words_of t) ++ drop k room)
    (party type mark : ℕ) (s : Set) (e : setting_is s (take k left) ≡ setting (take k words) party type mark) where
  abbrev m : ℕ
  m = length t / 4

  abbrev meant : Setting
  meant = setting (words_of t) party type mark

  -- a whole table, or too few of its words to be one
  data Lent : Type 0 where
    all : table_verdict t ≡ verdict (words_of t) → setting_is s (take k left) ≡ meant → k ≡ m → Lent
    few : (i : ℕ) → table_verdict t ≡ wrong (place_in_table k m i) → set_number s ≡ refusal.table → set_place s ≡ i → Lent

  lent : Lent
  unfolding setting setting_by
  lent = let z = seen t room words k h l in go z.front z.tells
    where
      go : take k words ≡ take k (words_of t) → Told t k → Lent
      go f (whole v w n) = all v (e ∙ ap (λ (x : List ℕ). setting x party type mark) (f ∙ w)) n
      go f (part i v w) =
          let same : setting_is s (take k left) ≡ setting (take k (words_of t)) party type mark = e ∙ ap (λ (x : List ℕ). setting x party type mark) f in
          few i w (ap (λ (x : Setting). x.number) same ∙ rw v) (ap (λ (x : Setting). x.place) same ∙ rw v)

  number_is : set_number s ≡ (set_outcome t party type).number
  unfolding set_outcome set_by
  number_is = go lent
    where
      go : Lent → set_number s ≡ (set_outcome t party type).number
      go (all v same n) = ap (λ (x : Setting). x.number) same ∙ (agrees t party type mark v).number
      go (few i v n p) = n ∙ sym (rw v)

  place_is : place_in_table k m (set_place s) ≡ (set_outcome t party type).place
  unfolding set_outcome set_by
  place_is = go lent
    where
      go : Lent → place_in_table k m (set_place s) ≡ (set_outcome t party type).place
      go (all v same n) =
          ap (λ (j : ℕ). place_in_table k j (set_place s)) (sym n) ∙ in-table-same k (set_place s) ∙ ap (λ (x : Setting). x.place) same
          ∙ (agrees t party type mark v).place
      go (few i v n p) = ap (place_in_table k m) p ∙ sym (rw v)

  pub set-refused : (f : Fault ℕ) → s ≡ Err f → SetByBytes t party type mark (Err (place_moved k m f)) t
  set-refused f r =
      let n : number_of f.why ≡ (set_outcome t party type).number = sym (ap set_number r) ∙ number_is in
      record {
        number = n;
        place = ap (place_in_table k m) (sym (ap set_place r)) ∙ place_is;
        table = refused-left t party type mark _ (λ z. refusal-some f.why (n ∙ z));
      }

  -- where the setting is accepted
  module _ (r : s ≡ Ok tt) where
    n : set_number s ≡ 0
    n = ap set_number r

    record Found : Type 0 where
      pub same : setting_is s (take k left) ≡ meant
      pub accepted : Accepts t party type mark meant
      pub counted : k ≡ m
      pub verdict-is : table_verdict t ≡ verdict (words_of t)

    found : Found
    found = go lent
      where
        go : Lent → Found
        go (all v same w) =
            record { same = same; accepted = accepts t party type mark (sym (ap (λ (x : Setting). x.number) same) ∙ n); counted = w; verdict-is = v }
        go (few i v u p) = absurd (let z : refusal.table ≡ 0 = sym u ∙ n in omega arith)

    pub set_holds : (bytes : ℕ) → bytes ≡ length t → length left ≡ length room → Holds type bytes (length left)
    set_holds bytes b r = let f = found in let w = f.accepted.within in let u = f.counted in (omega arith, omega (arith, h.fits))

    -- the word that the setting left is the byte's
    word-left : word_at left (type_at type) ≡ marked party mark (get_or t (4 * type_at type + 3) 0)
    word-left =
        let f = found in
        let a = f.accepted in
        let low = low-set t (type_at type) 0 a.within a.was_small in
        sym (get_or-take k left (type_at type) 0 (omega (arith, a.within, f.counted)))
        ∙ ap (λ (x : Setting). word_at x.words (type_at type)) f.same
        ∙ ap (λ (x : List ℕ). word_at x (type_at type)) a.left
        ∙ get_or-set_same (words_of t) (type_at type) _ 0 (omega (arith, a.within, words-length t))
        ∙ ap (marked party mark) (sym low.0)

    pub set-accepted : (t' : List ℕ) → t' ≡ mark_stored t left type → SetByBytes t party type mark (Ok tt) t'
    unfolding table_left
    set-accepted t' same =
        let f = found in
        let a = f.accepted in
        let low = low-set t (type_at type) 0 a.within a.was_small in
        let w = word-left in
        let small : marked party mark (get_or t (4 * type_at type + 3) 0) % 256 ≡ marked party mark (get_or t (4 * type_at type + 3) 0) =
        (let b = a.small in let c = ap (marked party mark) low.0 in omega arith) in
        let zero_number : (set_outcome t party type).number ≡ 0 = sym number_is ∙ n in
        record {
          number = sym zero_number;
          place = sym f.accepted.place ∙ (agrees t party type mark f.verdict-is).place;
          table = same ∙ ap (λ (x : ℕ). set t (4 * type_at type + 3) (x % 256)) w ∙ ap (set t (4 * type_at type + 3)) small ∙ sym (rw zero_number);
        }

-- a setting tells number and place, and nothing else
pub tells : (t : List ℕ) (party type : ℕ) → set_outcome t party type ≡ declines (set_outcome t party type).number (set_outcome t party type).place []
unfolding set_outcome set_by
tells t party type = go (table_verdict t) (ltb type (types_in (words_of t))) (ltb party limit.parties) refl refl
  where
    go : (v : Verdict) (a b : Bool) → ltb type (types_in (words_of t)) ≡ a → ltb party limit.parties ≡ b
        → set_by t party type v ≡ declines (set_by t party type v).number (set_by t party type v).place []
    go (wrong i) a b e f = refl
    go right false b e f = rw e
    go right true false e f = rw (e, f)
    go right true true e f = rw (e, f)
