-- Each way through a simple value with its text, a branch, a count.
use Prim.Native.Nat.{ℕ, zero, suc, ◌+◌, ◌-◌, ◌*◌, ◌%◌, ◌^◌, ◌<◌, ◌≤◌, min}
use mathlib.Core.Path.{◌≡◌, refl, sym, ap, ◌∙◌}
use mathlib.Core.Bool.{Bool, true, false, cond, true≢false}
use mathlib.Core.List.{List, [], ◌∷◌, ◌++◌}
use native.Mathlib.Omega.{arith}
use native.Mathlib.Decide.{dec_le}
use borrow.Author.Tests.{le-leb, lt-leb}
use mir.Val.{Fits as FitsIn}
use mir.Syntax.{w32, w64}
use lib.Dec.{leb}
use lib.ListN.{length, get_or, take, drop, length-append, length-drop, length-take}
use lib.Seq.{drop-nil}
use Rattle.numbers.specs.Refusal.{outside_row, text_bytes}
use Rattle.numbers.specs.Kind as kinds
use Rattle.numbers.specs.Limit.{most_text}
use Rattle.wire.specs.declared.Bits.{Bits}
use Rattle.wire.specs.Res.{Res, got, fault}
use Rattle.wire.proofs.Res.{tested-then, tested-fault, then, then-fault, under-then, under-fault}
use Rattle.wire.specs.Bits.{digits}
use Rattle.wire.proofs.BitLaws.{length_digits}
use Rattle.wire.specs.declared.Coded.{Coded}
use Rattle.wire.specs.Number.{code5}
use Rattle.std.specs.Prelude.{Option, Some, None}
use Rattle.utf8.specs.Text.{text_fault}
use Rattle.value.specs.Code.{stamp, bits_of, fits, code_out, choice}
use Rattle.value.specs.Dates.{joined, stamp_bits, day_in, clock_in, day_bits, day_fits}
use Rattle.value.specs.Simple.{plain, text, dated, bytes, Simple, first_word, second_word, value_of, simple_of, times_code}
use Rattle.value.proofs.SimpleLaws.{length-bytes, passes_then, passes-fault}
use Rattle.value.specs.Answer.{Stamping, code_is, stamp_is, inner_is, form_is}
use Rattle.value.proofs.WriteWays.{code5-short}
use Rattle.value.specs.declared.Code as code_t
use Rattle.value.specs.declared.Stamp.{Stamp}
use Rattle.value.proofs.DateLaws.{joined-parts}
use Rattle.value.specs.declared.Inner.TheVariants as iv
use Rattle.value.specs.declared.Code.TheVariants as cv
use Rattle.value.specs.declared.Form as form_t
use Rattle.value.specs.declared.Form.TheVariants as fv
use Rattle.model.specs.Write.{Bare, simple_out, word_of, as_item, item_out}
use Rattle.model.specs.Model.{Item, event_of}
use Rattle.model.specs.Model.Item.{valued, picked, counted}
use Rattle.model.proofs.WriteSteps.{out-valued, out-picked, out-counted}
use Rattle.model.specs.Whole.{event_at}
use Rattle.writer_parts.specs.declared.SizedNote.{SizedNote}
use Rattle.std.specs.Prelude.{Ok, Err}
use Rattle.numbers.specs.declared.refusal.Refusal.{Refusal}
use Rattle.numbers.specs.Refused.{number_of}
use Rattle.writer_parts.specs.declared.Spot.{Spot}
use Rattle.writer_parts.specs.Notes.{Spelling, keeps, text_note, Noted, Gives, Spelt, DateNote}
use Rattle.writer_parts.proofs.NoteLaws.{note-counted}
use Rattle.writer_parts.proofs.NoteWays.{coded-long, spelt-code, spelt-refuse, got-fits, number-plain}
use Rattle.writer_parts.specs.Walk.{Judgement, events_at, texts_at, Ready, Walked, wanted, judged, KindJudged, noted, text_wrong, Walks, alone}
use Rattle.writer_parts.proofs.PutWays.{put-fine, put-kept}
use Rattle.writer_parts.proofs.WalkLaws.{walked_as, alone-noted}
use Rattle.writer_parts.proofs.JudgingWays.{fine, faulty, kind-fine, kind-faulty, some, judged-few, judged-room, noted-unlike, noted-fault, noted-got, word-first, word-second}

-- coded: a value as a number, noted
module _ (L X : List ℕ) (c : Spot) (N : List ℕ) (f : Bare) (r : Ready L X N c) (z : 0 ≡ judged L c.event f)
    (k : code_t.Code) (v : ℕ) (s : Spelling) (e : Spelt 41 (code_out (code_is k) v) s) where
  pub coded-fault : (n : Refusal) → s ≡ Err n → Walked L X (noted f (simple_out (plain (code_is k)) v (texts_at X c.used)) (events_at L c.event)) c N (Err (record { why = n; at = c.event })) N
  unfolding simple_out
  coded-fault n w = noted-fault L X c N f _ r z n (then-fault _ (spelt-refuse e n w))

  module _ (n : Coded) (w : s ≡ Ok n) where
    given : Gives 41 (code_out (code_is k) v) n
    given = spelt-code e n w

    pub coded-few : n.size ≤ 41
    coded-few = given.code.few

    pub coded-low : n.bits < 2 ^ n.size
    coded-low = given.code.code.low

    pub coded-fits : FitsIn w32 (c.bits + n.size)
    coded-fits = let few = coded-few in let a = r.small in let d = r.few in let i = r.inside in record { fits = omega arith }

    pub coded-go : (m : ℕ) → Noted m (digits n.size n.bits) → (M : List ℕ) → M ≡ keeps N c.event m
        → Walked L X (noted f (simple_out (plain (code_is k)) v (texts_at X c.used)) (events_at L c.event)) c N (Ok (record { event = c.event + 1; used = c.used; bits = c.bits + n.size })) M
    unfolding simple_out
    coded-go m i M g =
        let y = given in
        let long = coded-long n y.bits y.code.code in
        let few = coded-few in
        noted-got L X c N f _ r z y.bits m M (record { event = c.event + 1; used = c.used; bits = c.bits + n.size }) (then _ y.out refl) (i.is X ∙ y.code.code.is) g refl (omega arith) (omega arith) r.used (omega arith)

pub ruleset coded_ways = (put-fine, put-kept, fine, faulty, noted-unlike, judged-few, judged-room, coded-fault, coded-few, coded-low, coded-go, coded-fits)

-- text_fault
module _ (X : List ℕ) (used v : ℕ) where
  pub text-long : most_text < v → outside_row ≡ text_wrong X used v
  unfolding text_wrong
  text-long h = rw (lt-leb v most_text h)

  module _ (h : v ≤ most_text) where
    module _ (k : used ≤ length X) where
      pub text-short : length X - used < v → text_bytes ≡ text_wrong X used v
      unfolding text_wrong texts_at
      text-short g = rw (le-leb v most_text h, lt-leb v (length (drop used X)) (omega (arith, length-drop used X)))

      pub text-checked : (n : ℕ) (l : List ℕ) → v ≤ length X - used → n ≡ text_fault l → l ≡ take (used + v - used) (drop used X) → n ≡ text_wrong X used v
      unfolding text_wrong texts_at
      text-checked n l g e f =
          let z : used + v - used ≡ v = omega arith in
          rw (le-leb v most_text h, le-leb v (length (drop used X)) (omega (arith, length-drop used X))) (e ∙ ap text_fault (f ∙ rw z))

pub ruleset text_fault_ways = (text-long, text-short, text-checked)

-- text_value
text-tested : (v : ℕ) (T : List ℕ) (w : ℕ) → w ≡ cond (leb v most_text) (cond (leb v (length T)) (text_fault (take v T)) text_bytes) outside_row
    → (0 < w → simple_out text v T ≡ fault w) × (w ≡ 0 → (simple_out text v T ≡ got (code5 v ++ bytes (take v T), drop v T)) × (v ≤ most_text) × (v ≤ length T))
unfolding simple_out code_out fits bits_of
text-tested v T w e = elim (dec_le v most_text) [
  | yes h ↦ elim (dec_le v (length T)) [
    | yes k ↦
        let t : text_fault (take v T) ≡ w = sym (e ∙ rw (le-leb v most_text h, le-leb v (length T) k)) in
        let c : leb v (min most_text (2 ^ 32 - 1)) ≡ true = le-leb v (min most_text (2 ^ 32 - 1)) (omega arith) in (
          λ p. then _ (tested-then outside_row c refl) (under-then text_bytes k (passes-fault _ (λ y. omega arith) ∙ ap fault t)),
          (λ z. (then _ (tested-then outside_row c refl) (under-then text_bytes k (passes_then (t ∙ z) refl)), h, k)),
        )
    | no k ↦
        let t : w ≡ text_bytes = e ∙ rw (le-leb v most_text h, lt-leb v (length T) (omega arith)) in
        let c : leb v (min most_text (2 ^ 32 - 1)) ≡ true = le-leb v (min most_text (2 ^ 32 - 1)) (omega arith) in
        (λ p. rw t (then _ (tested-then outside_row c refl) (under-fault text_bytes _ (omega arith))), (λ z. absurd (omega arith)))
  ]
  | no h ↦
      let t : w ≡ outside_row = e ∙ rw (lt-leb v most_text (omega arith)) in
      let c : leb v (min most_text (2 ^ 32 - 1)) ≡ false = lt-leb v (min most_text (2 ^ 32 - 1)) (omega arith) in
      (λ p. rw t (then-fault _ (tested-fault outside_row _ c)), (λ z. absurd (omega arith)))
]

drop-drop : (a b : ℕ) (l : List ℕ) → drop b (drop a l) ≡ drop (a + b) l
drop-drop zero b l = let e : 0 + b ≡ b = omega arith in rw e
drop-drop (suc a) b [] = drop-nil b ∙ sym (drop-nil (suc a + b))
drop-drop (suc a) b (x ∷ l) = drop-drop a b l ∙ let e : suc a + b ≡ suc (a + b) = omega arith in rw e

module _ (L X : List ℕ) (c : Spot) (N : List ℕ) (v : ℕ) (r : Ready L X N c) (z : 0 ≡ judged L c.event (wanted kinds.value v 0)) where
  tested : (w : ℕ) → w ≡ text_wrong X c.used v → (0 < w → simple_out text v (texts_at X c.used) ≡ fault w)
      × (w ≡ 0 → (simple_out text v (texts_at X c.used) ≡ got (code5 v ++ bytes (take v (texts_at X c.used)), drop v (texts_at X c.used))) × (v ≤ most_text) × (v ≤ length (texts_at X c.used)))
  unfolding text_wrong
  tested w e = text-tested v (texts_at X c.used) w e

  pub text-refused : (e : Refusal) → number_of e ≡ text_wrong X c.used v → Walked L X (noted (wanted kinds.value v 0) (simple_out text v (texts_at X c.used)) (events_at L c.event)) c N (Err (record { why = e; at = c.event })) N
  text-refused e p = noted-fault L X c N (wanted kinds.value v 0) _ r z e ((tested (number_of e) p).0 (some e))

  module _ (y : 0 ≡ text_wrong X c.used v) where
    text-fine : (v ≤ most_text) × (c.used + v ≤ length X)
    unfolding texts_at
    text-fine = let t = (tested 0 y).1 refl in let u = r.used in (t.1, omega (arith, t.2, length-drop c.used X))

    pub text-small : v ≤ most_text
    text-small = text-fine.0

    pub text-place : c.used < 2 ^ 32
    text-place = let a = r.short in let d = r.few in let i = r.inside in omega arith

    pub text-end : FitsIn w64 (c.used + v)
    text-end = let a = r.short in let d = r.few in let i = r.inside in let f = text-fine.0 in record { fits = omega arith }

    module _ (k : Bits) (l : k.0 ≡ length (code5 v)) (s : v < 2 ^ 32) where
      text-sum : c.bits + k.0 + 8 * v < 2 ^ 32
      text-sum = let f = text-fine.0 in let a = r.small in let d = r.few in let i = r.inside in let g = code5-short v s in omega arith

      pub text-part : FitsIn w32 (c.bits + k.0)
      text-part = let t = text-sum in record { fits = omega arith }

      pub text-eight : FitsIn w32 (8 * v)
      text-eight = let t = text-sum in record { fits = omega arith }

      pub text-bits : FitsIn w32 (c.bits + k.0 + 8 * v)
      text-bits = let t = text-sum in record { fits = omega arith }

      pub text-go : (n : ℕ) (M : List ℕ) → n ≡ text_note v c.used → M ≡ keeps N c.event n
          → Walked L X (noted (wanted kinds.value v 0) (simple_out text v (texts_at X c.used)) (events_at L c.event)) c N (Ok (record { event = c.event + 1; used = c.used + v; bits = c.bits + k.0 + 8 * v })) M
      unfolding texts_at
      text-go n M m p =
          let t = (tested 0 y).1 refl in
          let f = text-fine in
          let few = t.1 in
          let long : length (take v (drop c.used X)) ≡ v = length-take v (drop c.used X) ∙ omega (arith, t.2) in
          let size = length-append (code5 v) (bytes (take v (drop c.used X))) in
          let size8 = length-bytes (take v (drop c.used X)) in
          let five5 = code5-short v s in
          noted-got L X c N (wanted kinds.value v 0) _ r z (code5 v ++ bytes (take v (drop c.used X))) n M (record { event = c.event + 1; used = c.used + v; bits = c.bits + k.0 + 8 * v })
          (t.0 ∙ ap (λ (u : List ℕ). got (code5 v ++ bytes (take v (drop c.used X)), u)) (drop-drop c.used v X))
          (rw m (note-counted X v c.used few text-place))
          p refl (omega arith) (omega arith) f.1 (omega arith)

pub ruleset text_ways = (put-fine, fine, faulty, noted-unlike, judged-few, judged-room, text-refused, text-small, text-place, text-end, text-eight, text-part, text-bits, text-go)

-- note_date: the milliseconds are those of the event's second word
cut_off : (l m a b : List ℕ) → length l ≡ length m → l ++ a ≡ m ++ b → a ≡ b
cut_off [] [] a b h e = e
cut_off [] (y ∷ m) a b h e = absurd (omega arith)
cut_off (x ∷ l) [] a b h e = absurd (omega arith)
cut_off (x ∷ l) (y ∷ m) a b h e = cut_off l m a b (omega arith) (ap (drop 1) e)

same-clock : (clock : Bool) (days ms p q : ℕ) → q < 2 ^ 32 → got (stamp_bits clock days ms) ≡ code_out (stamp clock) (joined p q) → stamp_bits clock days (q % 134217728) ≡ stamp_bits clock days ms
unfolding stamp_bits bits_of fits day_bits day_fits
same-clock false days ms p q s e = refl
same-clock true days ms p q s e =
    let g = got-fits (stamp true) (joined p q) (digits 32 days ++ digits 32 ms) (sym e) in
    go (day_in (joined p q)) refl g.0 g.1
  where
    go : (d : Option ℕ) → day_in (joined p q) ≡ d → fits (stamp true) (joined p q) ≡ true → digits 32 days ++ digits 32 ms ≡ bits_of (stamp true) (joined p q) → digits 32 days ++ digits 32 (q % 134217728) ≡ digits 32 days ++ digits 32 ms
    go (Some n) w f g =
        let k : clock_in (joined p q) ≡ q % 134217728 = omega arith in
        let h : digits 32 days ++ digits 32 ms ≡ digits 32 n ++ digits 32 (q % 134217728) = g ∙ rw (w, k) in
        ap (λ (l : List ℕ). digits 32 days ++ l) (sym (cut_off (digits 32 days) (digits 32 n) (digits 32 ms) (digits 32 (q % 134217728)) (length_digits 32 days ∙ sym (length_digits 32 n)) h))
    go None w f g = absurd (let z : false ≡ true = sym (rw w) ∙ f in true≢false (sym z))

module _ (L X : List ℕ) (c : Spot) (N : List ℕ) (clock : Bool) (p q : ℕ) (r : Ready L X N c) (z : 0 ≡ judged L c.event (wanted kinds.value p q))
    (s : Stamping) (e : stamp_is clock s ≡ code_out (stamp clock) (joined p q)) where
  pub date-refused : (n : Refusal) → s ≡ Err n
      → Walked L X (noted (wanted kinds.value p q) (simple_out (dated (stamp clock)) (joined p q) (texts_at X c.used)) (events_at L c.event)) c N (Err (record { why = n; at = c.event })) N
  unfolding simple_out stamp_is
  date-refused n w = noted-fault L X c N (wanted kinds.value p q) _ r z n (then-fault _ (sym e ∙ rw w))

  module _ (day : Stamp) (w : s ≡ Ok day) (h : SizedNote) (g : DateNote h (stamp_bits clock day.days (q % 134217728))) where
    pub date-fits : FitsIn w32 (c.bits + h.bits)
    date-fits = let k = g.short in let a = r.small in let d = r.few in let i = r.inside in record { fits = omega arith }

    pub date-go : (n : ℕ) (M : List ℕ) → q < 2 ^ 32 → n ≡ h.note → M ≡ keeps N c.event n
        → Walked L X (noted (wanted kinds.value p q) (simple_out (dated (stamp clock)) (joined p q) (texts_at X c.used)) (events_at L c.event)) c N
        (Ok (record { event = c.event + 1; used = c.used; bits = c.bits + h.bits })) M
    unfolding simple_out stamp_is
    date-go n M small m k =
        let out : code_out (stamp clock) (joined p q) ≡ got (stamp_bits clock day.days day.ms) = sym e ∙ rw w in
        let same = same-clock clock day.days day.ms p q small (sym out) in
        let long : h.bits ≡ length (stamp_bits clock day.days day.ms) = g.long ∙ ap length same in
        let few = g.short in
        noted-got L X c N (wanted kinds.value p q) _ r z (stamp_bits clock day.days day.ms) n M (record { event = c.event + 1; used = c.used; bits = c.bits + h.bits })
        (then _ out refl) (rw m (g.note.is X ∙ same)) k refl (omega arith) (omega arith) r.used (omega arith)

pub ruleset date_ways = (put-fine, put-kept, fine, faulty, noted-unlike, judged-few, judged-room, date-refused, date-fits, date-go)

-- value, pick, count: an item by itself is an event noted
module _ (L X : List ℕ) (c : Spot) (N : List ℕ) (s : Judgement) (M : List ℕ) where
  abbrev T : List ℕ
  T = texts_at X c.used

  abbrev Event : Bare
  Event = event_at L c.event

  pub item-as : (i : Item) (f : Bare) (m : Res (List ℕ × List ℕ)) → as_item i Event ≡ f → item_out i (word_of i Event) T ≡ m
      → Walked L X (noted f m (events_at L c.event)) c N s M → Walks L X (alone i) c N s M
  item-as i f m e g h = walked_as s (alone-noted L c.event i T ∙ rw (e, g)) h

  module _ (v : ℕ) (z : v ≡ get_or L (4 * c.event + 1) 0) where
    module _ (simple b d : ℕ) (f : form_t.Form) (e : form_is f ≡ simple_of simple b d) where
      -- by the form, what the event's words are as a value, and this value's words
      value_as : (sm : Simple) (q value : ℕ) → form_is f ≡ sm → value_of sm v Event.q ≡ value → first_word sm value ≡ v → second_word sm value ≡ q
          → Walked L X (noted (wanted 3 v q) (simple_out sm value T) (events_at L c.event)) c N s M → Walks L X (alone (valued simple b d)) c N s M
      unfolding event_of word_of
      value_as sm q value g m x y h =
          let k : simple_of simple b d ≡ sm = sym e ∙ g in
          let w : value_of (simple_of simple b d) Event.p Event.q ≡ value = rw (k, ← z) m in
          item-as (valued simple b d) (wanted 3 v q) (simple_out sm value T) (rw (w, k, x, y)) (out-valued (word_of (valued simple b d) Event) T simple b d ∙ rw (w, k)) h

      pub value-number : (code : code_t.Code) → f ≡ fv.Number code → Walked L X (noted (wanted 3 v 0) (simple_out (plain (code_is code)) v T) (events_at L c.event)) c N s M → Walks L X (alone (valued simple b d)) c N s M
      unfolding form_is value_of first_word second_word
      value-number code w h = value_as (plain (code_is code)) 0 v (rw w) refl refl refl h

      pub value-text : f ≡ fv.Text → Walked L X (noted (wanted 3 v 0) (simple_out text v T) (events_at L c.event)) c N s M → Walks L X (alone (valued simple b d)) c N s M
      unfolding form_is value_of first_word second_word
      value-text w h = value_as text 0 v (rw w) refl refl refl h

      pub value-dated : (clock : Bool) (q : ℕ) → f ≡ fv.Dated clock → q ≡ get_or L (4 * c.event + 2) 0 → q < 2 ^ 32
          → Walked L X (noted (wanted 3 v q) (simple_out (dated (stamp clock)) (joined v q) T) (events_at L c.event)) c N s M → Walks L X (alone (valued simple b d)) c N s M
      unfolding form_is value_of first_word second_word
      value-dated clock q w y l h =
          let j = joined-parts v q l in
          value_as (dated (stamp clock)) q (joined v q) (rw w) (rw (← y)) j.0 j.1 h

    pub picked-way : (n : ℕ) → Walked L X (noted (wanted 4 v 0) (simple_out (plain (code_is (cv.Plain (iv.Choice n)))) v T) (events_at L c.event)) c N s M → Walks L X (alone (picked n)) c N s M
    unfolding event_of word_of code_is inner_is
    picked-way n h = item-as (picked n) (wanted 4 v 0) (simple_out (plain (choice n)) v T) (rw z) (out-picked (word_of (picked n) Event) T n ∙ rw (← z)) h

    pub counted-way : (least most : ℕ) (code : code_t.Code) → code_is code ≡ times_code least most → Walked L X (noted (wanted 5 v 0) (simple_out (plain (code_is code)) v T) (events_at L c.event)) c N s M
        → Walks L X (alone (counted least most)) c N s M
    unfolding event_of word_of
    counted-way least most code e h = item-as (counted least most) (wanted 5 v 0) (simple_out (plain (code_is code)) v T) (rw z) (out-counted (word_of (counted least most) Event) T least most ∙ rw (← z, e)) h

-- where a kind is judged, so is every item of that kind; else its words are there
module _ (L X : List ℕ) (c : Spot) (N : List ℕ) (r : Ready L X N c) where
  pub item-unlike : (i : Item) (k : ℕ) (y : Refusal) → (as_item i (event_at L c.event)).kind ≡ k → KindJudged L c.event k (number_of y) → Walks L X (alone i) c N (Err (record { why = y; at = c.event })) N
  item-unlike i k y e h =
      let f = as_item i (event_at L c.event) in
      let j : number_of y ≡ judged L c.event f = h.wrong (some y) f.p f.q ∙ ap (λ (x : ℕ). judged L c.event (wanted x f.p f.q)) (sym e) in
      item-as L X c N (Err (record { why = y; at = c.event })) N i f _ refl refl (noted-unlike L X c N f _ r y j)

  pub value-unlike : (simple b d : ℕ) (y : Refusal) → KindJudged L c.event 3 (number_of y) → Walks L X (alone (valued simple b d)) c N (Err (record { why = y; at = c.event })) N
  unfolding event_of
  value-unlike simple b d y h = item-unlike (valued simple b d) 3 y refl h

  pub picked-unlike : (m : ℕ) (y : Refusal) → KindJudged L c.event 4 (number_of y) → Walks L X (alone (picked m)) c N (Err (record { why = y; at = c.event })) N
  unfolding event_of
  picked-unlike m y h = item-unlike (picked m) 4 y refl h

  pub counted-unlike : (least most : ℕ) (y : Refusal) → KindJudged L c.event 5 (number_of y) → Walks L X (alone (counted least most)) c N (Err (record { why = y; at = c.event })) N
  unfolding event_of
  counted-unlike least most y h = item-unlike (counted least most) 5 y refl h

pub picked-spelt : (n v : ℕ) (s : Spelling) → Spelt 40 (code_out (inner_is (iv.Choice n)) v) s → Spelt 41 (code_out (code_is (cv.Plain (iv.Choice n))) v) s
picked-spelt n v s h = number-plain (cv.Plain (iv.Choice n)) v s (iv.Choice n) refl h

pub counted-spelt : (least most v : ℕ) (code : code_t.Code) → code_is code ≡ times_code least most → (s : Spelling) → Spelt 41 (code_out (times_code least most) v) s → Spelt 41 (code_out (code_is code) v) s
counted-spelt least most v code e s h = rw e h

pub ruleset value_ways = (put-kept, kind-fine, kind-faulty, value-unlike, word-first, word-second, value-number, value-text, value-dated)

pub ruleset pick_ways = (put-kept, kind-fine, kind-faulty, picked-unlike, word-first, word-second, picked-spelt, picked-way)

pub ruleset count_ways = (put-kept, kind-fine, kind-faulty, counted-unlike, word-first, word-second, counted-spelt, counted-way)
