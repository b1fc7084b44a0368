-- Parties: the statements of specs/Parties.antt, proved.
use Prim.Native.Nat.{ℕ, ◌/◌, ◌%◌, ◌^◌, ◌<◌, ◌≤◌}
use mathlib.Core.Path.{◌≡◌, refl, sym, ap, ◌∙◌}
use mathlib.Core.Bool.{Bool, true, false, cond, not, true≢false}
use mathlib.Core.List.{List, [], ◌∷◌}
use native.Mathlib.Omega.{arith}
use lib.Dec.{eqb, ltb}
use native.Mathlib.Decide.{dec_lt, ℕ_discrete}
use lib.ListN.{length, get_or, set, length-set}
use lib.Seq.{get_or-set_same, get_or-set_other, set-set, set_comm}
use borrow.Author.Tests.{ltb-true}
use Rattle.numbers.specs.Limit.{parties, most_held}
use Rattle.numbers.specs.Refusal as refusal
use Rattle.table.specs.First.{Verdict}
use Rattle.table.specs.First.Verdict.{right, wrong}
use Rattle.table.specs.Valid.{verdict}
use Rattle.table.specs.Words.{type_at, word_at, types_in}
use Rattle.table.specs.Rows.{held_of}
use Rattle.table.specs.Held.{Alike, Marks}
use Rattle.table.specs.Setting.{marked, Setting, Change, refuses, accepts, setting_by, setting, settings}
use Rattle.table.proofs.Bits.{marked-own, marked_other, marked-small, marked-both}
use Rattle.table.proofs.Held.{table_same, verdict-same}
use Rattle.table.proofs.Laws.{mark-ok, sized, rows-within}
use Rattle.model.specs.Model.{table_in, rooted}
use Rattle.model.specs.Whole.{payload, asked, room_of, after_asked, after_verdict, reading, events_from, mode_asked, shaped, written, or_unmade, verdict_made, writing}
use Rattle.theorems.specs.Parties.{OneBit, Unmoved, ByOthers, Sets, Parties}

-- by one bit
module _ (party : ℕ) (l l' : List ℕ) (o : OneBit party l l') where
  -- a number that is no type has no mark
  held_same : (t : ℕ) → held_of l party t ≡ held_of l' party t
  unfolding held_of
  held_same t = elim (dec_lt t (types_in l)) [
    | yes k ↦ o.same t k
    | no k ↦ ap (λ (w : ℕ). eqb (w / 2 ^ party % 2) 1) (o.alike.same (type_at t) (λ x. let e = x.2 in let f = x.1 in omega arith))
  ]

  unmoved : Unmoved party l l'
  unfolding reading writing
  unmoved =
      let v = verdict-same l l' o.alike o.long o.first_marks o.second_marks in
      let T = table_same l l' o.alike in
      record {
        reads = λ name type s words bytes.
            λ i. after_verdict (v i) (after_asked (asked (T i).types party name type)
            (payload (λ t. held_same t i) (λ casting. rooted (table_in casting (T i)) name type) (T i).derivations s (room_of words bytes)));
        writes = λ name type mode L X room.
            λ i. verdict_made (v i) (or_unmade (asked (T i).types party name type) (λ u. or_unmade (mode_asked (T i).derivations mode) (λ m.
            shaped L (written (λ t. held_same t i) (rooted (table_in m.casting (T i)) name type) m (events_from L 0 (length L / 4)) X room))));
      }

-- a setting, refused or done
pub data Went (l : List ℕ) (party type mark : ℕ) : Setting → Type 0 where
  refused : (n i : ℕ) → 1 ≤ n → Went l party type mark (refuses l party type mark n i)
  done : verdict l ≡ right → type < types_in l → party < parties → Went l party type mark (accepts l party type mark)

went : (l : List ℕ) (party type mark : ℕ) → Went l party type mark (setting l party type mark)
unfolding setting setting_by
went l party type mark = go (verdict l) refl
  where
    by-party : (b : Bool) → ltb party parties ≡ b → verdict l ≡ right → type < types_in l
        → Went l party type mark (cond b (accepts l party type mark) (refuses l party type mark refusal.party 0))
    by-party true e v h = done v h (ltb-true party parties e)
    by-party false e v h = refused refusal.party 0 (omega arith)

    typed : (a : Bool) → ltb type (types_in l) ≡ a → verdict l ≡ right
        → Went l party type mark (cond a (cond (ltb party parties) (accepts l party type mark) (refuses l party type mark refusal.party 0)) (refuses l party type mark refusal.root 0))
    typed true e v = by-party (ltb party parties) refl v (ltb-true type (types_in l) e)
    typed false e v = refused refusal.root 0 (omega arith)

    go : (v : Verdict) → verdict l ≡ v → Went l party type mark (setting_by l party type mark v)
    go (wrong i) v = refused refusal.table i (omega arith)
    go right v = typed (ltb type (types_in l)) refl v

-- one that is done
module _ (l : List ℕ) (party type mark : ℕ) (valid : verdict l ≡ right) (known : type < types_in l) (few : party < parties) where
  abbrev l' : List ℕ
  l' = (accepts l party type mark).words

  place : type_at type < length l
  place = omega (arith, rows-within l (sized l valid))

  word-is : word_at l' (type_at type) ≡ marked party mark (word_at l (type_at type))
  word-is = get_or-set_same l (type_at type) _ 0 place

  word-other : (i : ℕ) → (i ≡ type_at type → ⊥) → word_at l' i ≡ word_at l i
  word-other i n = get_or-set_other l (type_at type) i _ 0 n

  same_length : length l' ≡ length l
  same_length = length-set l (type_at type) _

  bit-other : (q t : ℕ) → ((q ≡ party) × (t ≡ type) → ⊥) → word_at l' (type_at t) / 2 ^ q % 2 ≡ word_at l (type_at t) / 2 ^ q % 2
  bit-other q t n = elim (ℕ_discrete t type) [
    | yes e ↦ rw e (ap (λ (w : ℕ). w / 2 ^ q % 2) word-is ∙ marked_other party q mark (word_at l (type_at type)) (λ f. n (sym f, e)))
    | no e ↦ ap (λ (w : ℕ). w / 2 ^ q % 2) (word-other (type_at t) (λ f. e (omega arith)))
  ]

  types_same : types_in l' ≡ types_in l
  types_same = word-other 1 (λ e. omega arith)

  alike : Alike l l'
  alike = record { same = λ i n. sym (word-other i (λ e. n (type, known, e))) }

  marks : Marks l
  marks = record { mark = mark-ok l valid }

  small : (t : ℕ) → t < types_in l → word_at l' (type_at t) ≤ most_held
  small t h = elim (ℕ_discrete t type) [
    | yes e ↦ rw e (let k = marked-small 8 party mark (word_at l (type_at type)) few (let g = mark-ok l valid type known in omega arith) in omega (arith, word-is))
    | no e ↦ rw (word-other (type_at t) (λ f. e (omega arith))) (mark-ok l valid t h)
  ]

  marks' : Marks l'
  marks' = record { mark = λ t h. small t (omega (arith, types_same)) }

  still-right : verdict l' ≡ right
  still-right = sym (verdict-same l l' alike (sym same_length) marks marks') ∙ valid

  sets : Sets l party type mark l'
  unfolding held_of
  sets =
      record {
        own = ap (λ (w : ℕ). eqb (w / 2 ^ party % 2) 1) word-is ∙ ap (λ (b : ℕ). eqb b 1) (marked-own party mark (word_at l (type_at type))) ∙ as-set (eqb mark 0);
        others = λ q t n. ap (λ (b : ℕ). eqb b 1) (bit-other q t n);
        words = word-other;
        long = same_length;
      }
    where
      as-set : (b : Bool) → eqb (cond b 0 1) 1 ≡ not b
      as-set true = refl
      as-set false = refl

  -- a party that did not set it
  one_bit : (q : ℕ) → (party ≡ q → ⊥) → OneBit q l l'
  unfolding held_of
  one_bit q n =
      record {
        long = sym same_length;
        alike = alike;
        first_marks = marks;
        second_marks = marks';
        same = λ t h. sym (ap (λ (b : ℕ). eqb b 1) (bit-other q t (λ e. n (sym e.0))));
      }

-- others
stays : (party : ℕ) (l : List ℕ) → Unmoved party l l
stays party l = record { reads = λ name type s words bytes. refl; writes = λ name type mode L X room. refl }

both : (party : ℕ) (l m n : List ℕ) → Unmoved party l m → Unmoved party m n → Unmoved party l n
both party l m n f g = record {
  reads = λ name type s words bytes. f.reads name type s words bytes ∙ g.reads name type s words bytes;
  writes = λ name type mode L X room. f.writes name type mode L X room ∙ g.writes name type mode L X room;
}

by-other : (q : ℕ) (l : List ℕ) (party type mark : ℕ) → (party ≡ q → ⊥) → (r : Setting) → Went l party type mark r → Unmoved q l r.words
by-other q l party type mark d _ (refused n i h) = stays q l
by-other q l party type mark n _ (done v h k) = unmoved q l _ (one_bit l party type mark v h k q n)

by-others : (party : ℕ) (l : List ℕ) (S : List Change) → ByOthers party S → Unmoved party l (settings l S)
unfolding settings
by-others party l [] h = stays party l
by-others party l (c ∷ S) h =
    both party l _ _ (by-other party l c.party c.type c.mark h.0 _ (went l c.party c.type c.mark)) (by-others party (setting l c.party c.type c.mark).words S h.1)

-- own
own : (l : List ℕ) (party type mark : ℕ) → (setting l party type mark).number ≡ 0 → Sets l party type mark (setting l party type mark).words
own l party type mark e = go _ (went l party type mark) e
  where
    go : (r : Setting) → Went l party type mark r → r.number ≡ 0 → Sets l party type mark r.words
    go _ (refused n i h) e = absurd (omega arith)
    go _ (done v h k) e = sets l party type mark v h k

-- Two marks set one after the other, of one number or of two, may change places; of words, and of a table's bytes.
abbrev remarked : List ℕ → (i p mark : ℕ) → List ℕ
remarked l i p mark = set l i (marked p mark (get_or l i 0))

pub marks-both : (l : List ℕ) {i j p q : ℕ} (m n : ℕ) → i < length l → (p ≡ q → i ≡ j → ⊥)
    → remarked (remarked l i p m) j q n ≡ remarked (remarked l j q n) i p m
marks-both l {i} {j} {p} {q} m n at h = elim (ℕ_discrete i j) [
  | yes f ↦
      let w = get_or l j 0 in
      let in-j : j < length l = rw f at at in
      rw f
      (ap (λ (x : ℕ). set (set l j (marked p m w)) j (marked q n x)) (get_or-set_same l j (marked p m w) 0 in-j)
      ∙ set-set l j _ _
      ∙ ap (set l j) (marked-both q p n m w (λ g. h (sym g) f))
      ∙ sym (set-set l j _ _)
      ∙ sym (ap (λ (x : ℕ). set (set l j (marked q n w)) j (marked p m x)) (get_or-set_same l j (marked q n w) 0 in-j)))
  | no f ↦
      let a = marked p m (get_or l i 0) in
      let b = marked q n (get_or l j 0) in
      ap (λ (x : ℕ). set (set l i a) j (marked q n x)) (get_or-set_other l i j a 0 (λ z. f (sym z)))
      ∙ set_comm l i j a b f
      ∙ sym (ap (λ (x : ℕ). set (set l j b) i (marked p m x)) (get_or-set_other l j i b 0 f))
]

-- a setting that is taken, by what is judged; the words that it makes
abbrev taken_by : Verdict → Bool → Bool → Bool
taken_by right a b = cond a b false
taken_by (wrong i) a b = false

abbrev taken : List ℕ → Change → Bool
taken l c = taken_by (verdict l) (ltb c.type (types_in l)) (ltb c.party parties)

abbrev made : List ℕ → Change → List ℕ
made l c = (accepts l c.party c.type c.mark).words

abbrev done-by : List ℕ → Change → List ℕ
done-by l c = (setting l c.party c.type c.mark).words

words_are : (l : List ℕ) (c : Change) → done-by l c ≡ cond (taken l c) (made l c) l
unfolding setting setting_by
words_are l c = go (verdict l) (ltb c.type (types_in l)) (ltb c.party parties) refl refl
  where
    by-party : (b : Bool) → (cond b (accepts l c.party c.type c.mark) (refuses l c.party c.type c.mark refusal.party 0)).words ≡ cond b (made l c) l
    by-party true = refl
    by-party false = refl

    typed : (a b : Bool) → (cond a (cond b (accepts l c.party c.type c.mark) (refuses l c.party c.type c.mark refusal.party 0)) (refuses l c.party c.type c.mark refusal.root 0)).words
        ≡ cond (cond a b false) (made l c) l
    typed true b = by-party b
    typed false b = refl

    go : (v : Verdict) (a b : Bool) → ltb c.type (types_in l) ≡ a → ltb c.party parties ≡ b → (setting_by l c.party c.type c.mark v).words ≡ cond (taken_by v a b) (made l c) l
    go (wrong i) a b e f = refl
    go right a b e f = rw (e, f) (typed a b)

taken-right : (v : Verdict) (a b : Bool) → taken_by v a b ≡ true → (v ≡ right) × (a ≡ true) × (b ≡ true)
taken-right right true true e = (refl, refl, refl)
taken-right right true false e = absurd (true≢false (sym e))
taken-right right false b e = absurd (true≢false (sym e))
taken-right (wrong i) a b e = absurd (true≢false (sym e))

module _ (l : List ℕ) (c : Change) (e : taken l c ≡ true) where
  parts : (verdict l ≡ right) × (ltb c.type (types_in l) ≡ true) × (ltb c.party parties ≡ true)
  parts = taken-right (verdict l) (ltb c.type (types_in l)) (ltb c.party parties) e

  type_known : c.type < types_in l
  type_known = ltb-true c.type (types_in l) parts.1

  party_known : c.party < parties
  party_known = ltb-true c.party parties parts.2

  -- what is judged of another setting stays
  after-taken : (d : Change) → taken (made l c) d ≡ taken l d
  after-taken d =
      let v : verdict (made l c) ≡ verdict l = still-right l c.party c.type c.mark parts.0 type_known party_known ∙ sym parts.0 in
      λ i. taken_by (v i) (ltb d.type (types_same l c.party c.type c.mark parts.0 type_known party_known i)) (ltb d.party parties)

  -- of different marks
  made-both : (d : Change) → ((c.party ≡ d.party) × (c.type ≡ d.type) → ⊥) → made (made l c) d ≡ made (made l d) c
  made-both d n = marks-both l c.mark d.mark (place l c.party c.type c.mark parts.0 type_known party_known)
      (λ g f. n (g, omega arith))

twice : (l : List ℕ) (c d : Change) → done-by (done-by l c) d ≡ cond (taken l c) (cond (taken l d) (made (made l c) d) (made l c)) (cond (taken l d) (made l d) l)
twice l c d = ap (λ (m : List ℕ). done-by m d) (words_are l c) ∙ go (taken l c) refl
  where
    go : (a : Bool) → taken l c ≡ a → done-by (cond a (made l c) l) d ≡ cond a (cond (taken l d) (made (made l c) d) (made l c)) (cond (taken l d) (made l d) l)
    go true e = words_are (made l c) d ∙ ap (λ (b : Bool). cond b (made (made l c) d) (made l c)) (after-taken l c e d)
    go false e = words_are l d

commute : (l : List ℕ) (c d : Change) → ((c.party ≡ d.party) × (c.type ≡ d.type) → ⊥) → settings l (c ∷ d ∷ []) ≡ settings l (d ∷ c ∷ [])
unfolding settings
commute l c d n = twice l c d ∙ go (taken l c) (taken l d) refl ∙ sym (twice l d c)
  where
    go : (a b : Bool) → taken l c ≡ a → cond a (cond b (made (made l c) d) (made l c)) (cond b (made l d) l) ≡ cond b (cond a (made (made l d) c) (made l d)) (cond a (made l c) l)
    go true true e = made-both l c e d n
    go true false e = refl
    go false true e = refl
    go false false e = refl

pub parties-apart : Parties
parties-apart = record { by_one_bit = unmoved; others = by-others; own = own; commute = commute }
