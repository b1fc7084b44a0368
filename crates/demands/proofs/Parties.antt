-- PARTIES, of the calls that a host makes: the statements of specs/Parties.antt, proved.
use Prim.Native.Nat.{ℕ, zero, suc, ◌+◌, ◌*◌, ◌/◌, ◌%◌, ◌<◌, ◌≤◌}
use mathlib.Core.Path.{◌≡◌, refl, sym, ap, subst, ◌∙◌}
use mathlib.Core.Bool.{Bool, true, false, cond, true≢false}
use mathlib.Core.List.{List, [], ◌∷◌, map}
use native.Mathlib.Omega.{arith}
use native.Mathlib.Decide.{ℕ_discrete}
use borrow.Author.Tests.{eq-eqb, ne_eqb, ltb-true, eqb-true}
use lib.Dec.{eqb, ltb}
use lib.Seq.{get_or-set_same, get_or-set_other}
use lib.ListN.{length, get_or, set, length-set, replicate, length-replicate}
use Rattle.numbers.specs.Limit as limit
use Rattle.numbers.specs.Refusal as refusal
use Rattle.table.specs.First.{Verdict}
use Rattle.table.specs.First.Verdict.{right, wrong}
use Rattle.table.specs.Valid.{verdict}
use Rattle.table.specs.Words.{type_at, word_at, types_in}
use Rattle.table.specs.Setting.{marked, Change, setting, setting_by, settings}
use Rattle.table.specs.Held.{Marks}
use Rattle.table.proofs.Held.{verdict-same}
use Rattle.table.proofs.Laws.{mark-ok, sized, rows-within}
use Rattle.buffers.specs.Bytes.{words_of}
use Rattle.buffers.proofs.BytesLaws.{words-length}
use Rattle.model.specs.Whole.{Outcome, declines, Reply, Made, outcome, outcome_made, reading, writing, shaped, texts_left, payload_left}
use Rattle.theorems.specs.Parties.{Unmoved, ByOthers, Sets}
use Rattle.theorems.proofs.Parties.{parties-apart, marks-both}
use Rattle.call_parts.specs.Area.{area_bytes}
use Rattle.call_parts.specs.Calls.{set_call, table_verdict, lent, read_bytes, events_back, read_call, unlisted, write_list, write_bytes, write_call, set_by, set_outcome, table_left}
use Rattle.demands.specs.Parties.{Call, answer, left_by, tables_left, OneByte, PartiesByCalls}
use Rattle.reads.proofs.ReadLaws.{whole-reads}
use Rattle.call_parts.proofs.SettingLaws.{low-set, refused-left, agrees, accepts, Accepts}
use Rattle.demands.proofs.WholeTables.{right-whole}
use Rattle.writes.proofs.WriteLaws.{whole-list, whole-writes, no-list}
use Rattle.call_parts.proofs.TableLaws.{whole-verdict}

-- the table that a setting leaves, in an area of the right size
abbrev changed : List ℕ → Change → List ℕ
changed t c = table_left t c.party c.type c.mark (set_outcome t c.party c.type).number

module _ (t : List ℕ) (c : Change) where
  abbrev T : ℕ
  T = types_in (words_of t)

  long : length (changed t c) ≡ length t
  unfolding table_left
  long = go (set_outcome t c.party c.type).number
    where
      go : (n : ℕ) → length (table_left t c.party c.type c.mark n) ≡ length t
      go zero = length-set t (4 * type_at c.type + 3) _
      go (suc n) = refl

  sets-words : length t % 4 ≡ 0 → words_of (changed t c) ≡ (setting (words_of t) c.party c.type c.mark).words
  unfolding set_outcome set_by table_left setting setting_by
  sets-words whole = go (verdict (words_of t)) refl (ltb c.type T) refl (ltb c.party limit.parties) refl
    where
      go : (v : Verdict) → verdict (words_of t) ≡ v → (a : Bool) → ltb c.type T ≡ a → (b : Bool) → ltb c.party limit.parties ≡ b
          → words_of (changed t c) ≡ (setting (words_of t) c.party c.type c.mark).words
      go (wrong i) v a e b f = rw (whole-verdict t whole, v)
      go right v false e b f = rw (whole-verdict t whole, v, e)
      go right v true e false f = rw (whole-verdict t whole, v, e, f)
      go right v true e true f =
          let known = ltb-true c.type T e in
          let place : type_at c.type < length t / 4 = omega (arith, words-length t, rows-within (words_of t) (sized (words_of t) v)) in
          let low = low-set t (type_at c.type) (marked c.party c.mark (word_at (words_of t) (type_at c.type))) place (mark-ok (words_of t) v c.type known) in
          rw (whole-verdict t whole, v, e, f, low.0) low.1

  -- a table that is no whole words is refused
  stays : (length t % 4 ≡ 0 → ⊥) → changed t c ≡ t
  unfolding set_outcome set_by table_left
  stays n = go (table_verdict t) refl
    where
      go : (v : Verdict) → table_verdict t ≡ v → table_left t c.party c.type c.mark (set_by t c.party c.type v).number ≡ t
      go right v = absurd (n (right-whole t v).0)
      go (wrong i) v = refl

  module _ (party : ℕ) (other : c.party ≡ party → ⊥) where
    unmoved : Unmoved party (words_of t) (setting (words_of t) c.party c.type c.mark).words
    unfolding settings
    unmoved = parties-apart.others party (words_of t) (c ∷ []) (other, tt)

-- a list of 4 * n + 1 words is no list, and so has the answer of one that is none at n
abbrev odd : ℕ → List ℕ
odd n = replicate (4 * n + 1) 0

unlisted-odd : (l : List ℕ) (party name type mode n : ℕ) → writing l party name type mode (odd n) [] 0 ≡ unlisted l party name type mode n
unfolding writing unlisted shaped
unlisted-odd l party name type mode n =
    let k = length-replicate {A = ℕ} (4 * n + 1) 0 in
    let a : length (odd n) % 4 ≡ 0 → ⊥ = λ z. omega arith in
    let b : length (odd n) / 4 ≡ n = omega arith in
    rw (ne_eqb (length (odd n) % 4) 0 a, b)

lists-same : (party : ℕ) (l l' : List ℕ) → Unmoved party l l' → (name type mode : ℕ) (E X : List ℕ) (room : ℕ) → write_list l party name type mode E X room ≡ write_list l' party name type mode E X room
lists-same party l l' u name type mode E X room = elim (ℕ_discrete (length E % limit.event) 0) [
  | yes e ↦ whole-list l party name type mode E X room e ∙ u.writes name type mode (words_of E) X room ∙ sym (whole-list l' party name type mode E X room e)
  | no e ↦
      no-list l party name type mode E X room e
      ∙ sym (unlisted-odd l party name type mode (length E / limit.event))
      ∙ u.writes name type mode (odd (length E / limit.event)) [] 0
      ∙ unlisted-odd l' party name type mode (length E / limit.event)
      ∙ sym (no-list l' party name type mode E X room e)
]

-- one setting by another
module _ (party : ℕ) (t : List ℕ) (c : Change) (other : c.party ≡ party → ⊥) where
  reads_same : (name type : ℕ) (s : List ℕ) (e x area : ℕ) → read_call (changed t c) party name type s e x area ≡ read_call t party name type s e x area
  unfolding read_call
  reads_same name type s e x area = elim (ℕ_discrete (length t % 4) 0) [
    | yes w ↦
        let still : length (changed t c) % 4 ≡ 0 = ap (λ (n : ℕ). n % 4) (long t c) ∙ w in
        let same : read_bytes (changed t c) party name type s e x ≡ read_bytes t party name type s e x =
        whole-reads (changed t c) still party name type s e x
        ∙ ap (λ (l : List ℕ). reading l party name type s (e / 4) x) (sets-words t c w)
        ∙ sym ((unmoved t c party other).reads name type s (e / 4) x)
        ∙ sym (whole-reads t w party name type s e x) in
        ap (λ (r : Reply). lent area (e ∷ x ∷ []) (outcome r) (events_back e r ∷ texts_left x r ∷ [])) same
    | no n ↦ ap (λ (u : List ℕ). read_call u party name type s e x area) (stays t c n)
  ]

  writes-same : (name type mode : ℕ) (E X : List ℕ) (room area : ℕ) → write_call (changed t c) party name type mode E X room area ≡ write_call t party name type mode E X room area
  unfolding write_call
  writes-same name type mode E X room area = elim (ℕ_discrete (length t % 4) 0) [
    | yes w ↦
        let still : length (changed t c) % 4 ≡ 0 = ap (λ (n : ℕ). n % 4) (long t c) ∙ w in
        let same : write_bytes (changed t c) party name type mode E X room ≡ write_bytes t party name type mode E X room =
        whole-writes (changed t c) still party name type mode E X room
        ∙ ap (λ (l : List ℕ). write_list l party name type mode E X room) (sets-words t c w)
        ∙ sym (lists-same party _ _ (unmoved t c party other) name type mode E X room)
        ∙ sym (whole-writes t w party name type mode E X room) in
        ap (λ (m : Made). lent area (room ∷ []) (outcome_made mode (length E / limit.event) (length X) m) (payload_left room m ∷ [])) same
    | no n ↦ ap (λ (u : List ℕ). write_call u party name type mode E X room area) (stays t c n)
  ]

-- A call leaves what its setting does, or the table as it was: where it is refused, or its area has another size.
data Went (t : List ℕ) (c : Call) : Type 0 where
  done : (set_outcome t c.change.party c.change.type).number ≡ 0 → (answer t c).number ≡ 0 → left_by t c ≡ changed t c.change → Went t c
  stayed : ((answer t c).number ≡ 0 → ⊥) → left_by t c ≡ t → Went t c

went : (t : List ℕ) (c : Call) → Went t c
unfolding set_call
went t c = elim (ℕ_discrete c.area area_bytes) [
  | yes e ↦ elim (ℕ_discrete n 0) [
    | yes z ↦ done z (rw (eq-eqb c.area area_bytes e) z) (rw (eq-eqb c.area area_bytes e))
    | no z ↦ stayed (rw (eq-eqb c.area area_bytes e) z) (rw (eq-eqb c.area area_bytes e) (sym (refused-left t _ _ _ n z)))
  ]
  | no e ↦ stayed (rw (ne_eqb c.area area_bytes e) (λ z. omega arith)) (rw (ne_eqb c.area area_bytes e))
]
  where
    n : ℕ
    n = (set_outcome t c.change.party c.change.type).number

others-read : (party : ℕ) (t : List ℕ) (S : List Call) → ByOthers party (map (λ c. c.change) S) → (name type : ℕ) (s : List ℕ) (e x area : ℕ)
    → read_call (tables_left t S) party name type s e x area ≡ read_call t party name type s e x area
unfolding tables_left
others-read party t [] h name type s e x area = refl
others-read party t (c ∷ S) h name type s e x area = others-read party (left_by t c) S h.1 name type s e x area ∙ go (went t c)
  where
    go : Went t c → read_call (left_by t c) party name type s e x area ≡ read_call t party name type s e x area
    go (done z a l) = ap (λ (u : List ℕ). read_call u party name type s e x area) l ∙ reads_same party t c.change h.0 name type s e x area
    go (stayed a l) = ap (λ (u : List ℕ). read_call u party name type s e x area) l

others-write : (party : ℕ) (t : List ℕ) (S : List Call) → ByOthers party (map (λ c. c.change) S) → (name type mode : ℕ) (E X : List ℕ) (room area : ℕ)
    → write_call (tables_left t S) party name type mode E X room area ≡ write_call t party name type mode E X room area
unfolding tables_left
others-write party t [] h name type mode E X room area = refl
others-write party t (c ∷ S) h name type mode E X room area = others-write party (left_by t c) S h.1 name type mode E X room area ∙ go (went t c)
  where
    go : Went t c → write_call (left_by t c) party name type mode E X room area ≡ write_call t party name type mode E X room area
    go (done z a l) = ap (λ (u : List ℕ). write_call u party name type mode E X room area) l ∙ writes-same party t c.change h.0 name type mode E X room area
    go (stayed a l) = ap (λ (u : List ℕ). write_call u party name type mode E X room area) l

long-left : (t : List ℕ) (c : Call) → length (left_by t c) ≡ length t
long-left t c = go (went t c)
  where
    go : Went t c → length (left_by t c) ≡ length t
    go (done z a l) = ap length l ∙ long t c.change
    go (stayed a l) = ap length l

-- a setting is answered by the verdict and the number of types
outcome-same : (t u : List ℕ) (party type : ℕ) → table_verdict u ≡ table_verdict t → types_in (words_of u) ≡ types_in (words_of t) → set_outcome u party type ≡ set_outcome t party type
unfolding set_outcome set_by
outcome-same t u party type v n = ap (set_by u party type) v ∙ go (table_verdict t)
  where
    go : (v : Verdict) → set_by u party type v ≡ set_by t party type v
    go (wrong i) = refl
    go right = ap (λ (T : ℕ). cond (ltb type T) (cond (ltb party limit.parties) (declines 0 0 []) (declines refusal.party 0 [])) (declines refusal.root 0 [])) n

-- what is true of a table whose setting is accepted
module _ (t : List ℕ) (c : Change) (z : (set_outcome t c.party c.type).number ≡ 0) where
  abbrev place : ℕ
  place = 4 * type_at c.type + 3

  left_is : changed t c ≡ set t place (marked c.party c.mark (get_or t place 0))
  unfolding table_left
  left_is = rw z

  record Accepted : Type 0 where
    pub whole : length t % 4 ≡ 0
    pub valid : verdict (words_of t) ≡ right
    pub set_words : (setting (words_of t) c.party c.type c.mark).number ≡ 0

  accepted : Accepted
  unfolding set_outcome set_by
  accepted = go (table_verdict t) refl
    where
      go : (v : Verdict) → table_verdict t ≡ v → Accepted
      go (wrong i) v = absurd (let y : refusal.table ≡ 0 = rw v at z in omega arith)
      go right v =
          let w = right-whole t v in
          record { whole = w.0; valid = w.1; set_words = (agrees t c.party c.type c.mark (whole-verdict t w.0)).number ∙ z }

  one_byte : OneByte t c (changed t c)
  one_byte = record {
    bytes = λ i n. ap (λ (l : List ℕ). get_or l i 0) left_is ∙ get_or-set_other t place i _ 0 n;
    sets = subst (Sets (words_of t) c.party c.type c.mark) (sym (sets-words t c accepted.whole))
        (parties-apart.own (words_of t) c.party c.type c.mark accepted.set_words);
  }

  -- every setting is answered as before
  same-types : types_in (words_of (changed t c)) ≡ types_in (words_of t)
  same-types = one_byte.sets.words 1 (λ e. omega arith)

  same-verdict : verdict (words_of t) ≡ verdict (words_of (changed t c))
  same-verdict = verdict-same (words_of t) (words_of (changed t c))
      (record { same = λ i n. sym (one_byte.sets.words i (λ e. n (c.type, known, e))) })
      (sym one_byte.sets.long) marks (record { mark = λ u h. small u (omega (arith, same-types)) })
    where
      a : Accepts t c.party c.type c.mark (setting (words_of t) c.party c.type c.mark)
      a = accepts t c.party c.type c.mark accepted.set_words

      known : c.type < types_in (words_of t)
      known = a.known

      marks : Marks (words_of t)
      marks = record { mark = mark-ok (words_of t) accepted.valid }

      small : (u : ℕ) → u < types_in (words_of t) → word_at (words_of (changed t c)) (type_at u) ≤ limit.most_held
      small u h = elim (ℕ_discrete u c.type) [
        | yes e ↦
            let w : word_at (words_of (changed t c)) (type_at c.type) ≡ marked c.party c.mark (word_at (words_of t) (type_at c.type)) =
            ap (λ (l : List ℕ). word_at l (type_at c.type)) (sets-words t c accepted.whole ∙ a.left)
            ∙ get_or-set_same (words_of t) (type_at c.type) _ 0 (omega (arith, a.within, words-length t)) in
            rw e (rw w a.small)
        | no e ↦ rw (one_byte.sets.words (type_at u) (λ f. e (omega arith))) (mark-ok (words_of t) accepted.valid u h)
      ]

  same_outcome : (party type : ℕ) → set_outcome (changed t c) party type ≡ set_outcome t party type
  same_outcome party type =
      let w = accepted.whole in
      let w' : length (changed t c) % 4 ≡ 0 = ap (λ (n : ℕ). n % 4) (long t c) ∙ w in
      outcome-same t (changed t c) party type (whole-verdict (changed t c) w' ∙ sym same-verdict ∙ sym (whole-verdict t w)) same-types

own : (t : List ℕ) (c : Call) → (answer t c).number ≡ 0 → OneByte t c.change (left_by t c)
own t c n = go (went t c)
  where
    go : Went t c → OneByte t c.change (left_by t c)
    go (done z a l) = subst (OneByte t c.change) (sym l) (one_byte t c.change z)
    go (stayed a l) = absurd (a n)

refused : (t : List ℕ) (c : Call) → ((answer t c).number ≡ 0 → ⊥) → left_by t c ≡ t
refused t c n = go (went t c)
  where
    go : Went t c → left_by t c ≡ t
    go (done z a l) = absurd (n a)
    go (stayed a l) = l

-- A call by whether its setting is taken, and the bytes that are then made.
abbrev takes : List ℕ → Call → Bool
takes t c = cond (eqb c.area area_bytes) (eqb (set_outcome t c.change.party c.change.type).number 0) false

abbrev at : Call → ℕ
at c = 4 * type_at c.change.type + 3

abbrev made : List ℕ → Call → List ℕ
made t c = set t (at c) (marked c.change.party c.change.mark (get_or t (at c) 0))

left-made : (t : List ℕ) (c : Call) → left_by t c ≡ cond (takes t c) (made t c) t
unfolding set_call table_left
left-made t c = go (eqb c.area area_bytes) (set_outcome t c.change.party c.change.type).number refl refl
  where
    go : (a : Bool) (n : ℕ) → eqb c.area area_bytes ≡ a → (set_outcome t c.change.party c.change.type).number ≡ n → left_by t c ≡ cond (takes t c) (made t c) t
    go true zero e f = rw (e, f)
    go true (suc n) e f = rw (e, f, ne_eqb (suc n) 0 (λ z. omega arith)) (sym (refused-left t c.change.party c.change.type c.change.mark (suc n) (λ z. omega arith)))
    go false n e f = rw e

-- what a call takes it takes after another too
after-taken : (t : List ℕ) (c d : Call) → takes t c ≡ true → takes (made t c) d ≡ takes t d
unfolding table_left
after-taken t c d e = go (eqb c.area area_bytes) refl
  where
    n : ℕ
    n = (set_outcome t c.change.party c.change.type).number

    go : (a : Bool) → eqb c.area area_bytes ≡ a → takes (made t c) d ≡ takes t d
    go false f = absurd (true≢false (sym e ∙ rw f))
    go true f =
        let z : n ≡ 0 = eqb-true n 0 (sym (rw f) ∙ e) in
        ap (λ (u : List ℕ). takes u d) (sym (left_is t c.change z))
        ∙ ap (λ (o : Outcome). cond (eqb d.area area_bytes) (eqb o.number 0) false) (same_outcome t c.change z d.change.party d.change.type)

twice : (t : List ℕ) (c d : Call) → left_by (left_by t c) d ≡ cond (takes t c) (cond (takes t d) (made (made t c) d) (made t c)) (cond (takes t d) (made t d) t)
twice t c d = ap (λ (u : List ℕ). left_by u d) (left-made t c) ∙ go (takes t c) refl
  where
    go : (a : Bool) → takes t c ≡ a → left_by (cond a (made t c) t) d ≡ cond a (cond (takes t d) (made (made t c) d) (made t c)) (cond (takes t d) (made t d) t)
    go true e = left-made (made t c) d ∙ ap (λ (b : Bool). cond b (made (made t c) d) (made t c)) (after-taken t c d e)
    go false e = left-made t d

-- a call that is taken finds its byte
in_table : (t : List ℕ) (c : Call) → takes t c ≡ true → at c < length t
in_table t c e = go (eqb c.area area_bytes) refl
  where
    n : ℕ
    n = (set_outcome t c.change.party c.change.type).number

    go : (a : Bool) → eqb c.area area_bytes ≡ a → at c < length t
    go false f = absurd (true≢false (sym e ∙ rw f))
    go true f =
        let z : n ≡ 0 = eqb-true n 0 (sym (rw f) ∙ e) in
        let a = accepts t c.change.party c.change.type c.change.mark (accepted t c.change z).set_words in
        omega (arith, a.within)

commute : (t : List ℕ) (c d : Call) → ((c.change.party ≡ d.change.party) × (c.change.type ≡ d.change.type) → ⊥)
    → tables_left t (c ∷ d ∷ []) ≡ tables_left t (d ∷ c ∷ [])
unfolding tables_left
commute t c d n = twice t c d ∙ go (takes t c) (takes t d) refl ∙ sym (twice t d c)
  where
    go : (a b : Bool) → takes t c ≡ a → cond a (cond b (made (made t c) d) (made t c)) (cond b (made t d) t) ≡ cond b (cond a (made (made t d) c) (made t d)) (cond a (made t c) t)
    go true true e = marks-both t c.change.mark d.change.mark (in_table t c e) (λ g f. n (g, omega arith))
    go true false e = refl
    go false true e = refl
    go false false e = refl

pub parties-by-calls : PartiesByCalls
parties-by-calls =
    record { long = long-left; others-read = others-read; others-write = others-write; own = own; refused = refused; commute = commute }
