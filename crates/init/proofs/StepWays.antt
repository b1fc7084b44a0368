-- Ways through the functions that write an item.
use Prim.Native.Nat.{ℕ, ◌+◌, ◌≤◌}
use mathlib.Core.Path.{◌≡◌, refl, sym, ap, ◌∙◌}
use mathlib.Core.Bool.{Bool, true, false, cond}
use mathlib.Core.List.{List, [], ◌++◌}
use native.Mathlib.Omega.{arith}
use native.Mathlib.Decide.{dec_le, ℕ_discrete}
use borrow.Author.Tests.{le-leb, lt-leb, eq-eqb, ne_eqb}
use lib.Dec.{leb, eqb}
use lib.ListN.{length}
use Rattle.numbers.specs.Refusal.{no_reading, no_schemas, many_schemas}
use Rattle.std.specs.Prelude.{Result, Ok, Err, Option, Some, None}
use Rattle.numbers.specs.declared.refusal.Refusal.TheVariants as refusal
use Rattle.numbers.specs.declared.refusal.Fault.{Fault}
use Rattle.numbers.specs.Refused.{number_of}
use Rattle.numbers.specs.Limit.{init_words, most_schemas, most_word}
use Rattle.init.specs.declared.Item.{Item}
use Rattle.init.specs.declared.Item.TheVariants.{Schemas}
use Rattle.init.specs.declared.Slot.{Slot}
use Rattle.init.specs.declared.Slot.TheVariants as slots
use Rattle.init.specs.declared.Phase.{Phase}
use Rattle.init.specs.declared.Phase.TheVariants as phase
use Rattle.init.specs.declared.writing.Desk.{Desk}
use Rattle.init.specs.Items.{head_of, two}
use Rattle.init.specs.Plan.{plan}
use Rattle.init.specs.Plan.Plan.{done}
use Rattle.init.specs.Phases.{item_of, slot_of, rest_of, ends, goes, plan_of, reach, grown, rank, spare}
use Rattle.init.specs.Promises.{Follows}
use Rattle.init.specs.Reads.{slot_index}
use Rattle.init.specs.Write.{Writing, value_of, content_of, lies_of, bytes_for, on_value, index, word_in, there_of, used_by, emit, write}
use Rattle.init.specs.Write.Value.{value, wrong}
use Rattle.init.specs.Write.Writing.{refused}
use Rattle.init.specs.Writes.{value_is, value_in, most_of, Values, Page, page, inked, UsesIs, Put, Worded, Writes, Onward, Stepped, Finished, wholly, desk}
use Rattle.init.proofs.WriteWays.{inked-append}
use Rattle.init.proofs.Found.{slot-lies}

module _ (i : Item) (given : List ℕ) (st : Desk) (a v u at : ℕ) (m m' : List ℕ) (t : Bool) (e : t ≡ lies_of (content_of i) (length given) a v) where
  pub lies-true : t ≡ true → lies_of (content_of i) (length given) a v ≡ true
  lies-true f = cc

  pub value-goes : (k : Option ℕ) (ph : Phase) → t ≡ true → page m' k ≡ inked (page m st.ink) (bytes_for i given a v)
      → Follows (rest_of st.phase v) init_words (rank st.phase + spare (slot_of st.phase)) ph
      → Put i given st a v u at m (Ok (record { phase = ph; used = u; ink = k })) m'
  value-goes k ph f g h = (lies-true f, g, refl, h)

  pub value-stops : t ≡ false → Put i given st a v u at m (Err (record { why = refusal.TextBytes; at = at + 1 })) m'
  value-stops f = ((cc), refl, refl)

pub ruleset value-ways = (lies-true, value-goes, value-stops)

few-schemas : (a b v : ℕ) → value_of Schemas a b ≡ value v → v ≤ most_schemas
unfolding value_of
few-schemas a b v e = elim (dec_le a most_schemas) [
  | no h ↦ absurd (let g : wrong many_schemas 0 ≡ value v = rw (ne_eqb a 0 (λ z. omega arith), lt-leb a most_schemas (omega arith)) at e in let z : ◌≡◌ {A = ℕ} 0 1 = cc in omega arith)
  | yes h ↦ some (a) h e
]
  where
    some : (x : ℕ) → x ≤ most_schemas → cond (eqb x 0) (wrong no_schemas 0) (cond (leb x most_schemas) (value x) (wrong many_schemas 0)) ≡ value v → v ≤ most_schemas
    some x h f = elim (ℕ_discrete x 0) [
      | yes z ↦ absurd (let g : wrong no_schemas 0 ≡ value v = rw (eq-eqb _ _ z) at f in let y : ◌≡◌ {A = ℕ} 0 1 = cc in omega arith)
      | no z ↦ let g : value x ≡ value v = rw (ne_eqb _ _ z, le-leb _ _ h) at f in let y : x ≡ v = cc in omega arith
    ]

grown-lies : (ph : Phase) (a b v : ℕ) → reach ph ≤ init_words → value_of (item_of ph) a b ≡ value v → grown ph v ≤ init_words
unfolding grown reach item_of
grown-lies phase.Profile a b v h e = omega arith
grown-lies phase.UnitByte a b v h e = omega arith
grown-lies phase.NoFlags a b v h e = omega arith
grown-lies phase.Length a b v h e = omega arith
grown-lies (phase.Flags n) a b v h e = omega arith
grown-lies (phase.Schemas f) a b v h e = let g = few-schemas a b v e in omega arith
grown-lies (phase.Uri l) a b v h e = h
grown-lies (phase.Hint l) a b v h e = h
grown-lies (phase.Codecs l) a b v h e = h
grown-lies (phase.Codec l) a b v h e = h
grown-lies (phase.Types l) a b v h e = h
grown-lies (phase.OneType l) a b v h e = h
grown-lies phase.Formats a b v h e = omega arith
grown-lies phase.NoFormats a b v h e = omega arith
grown-lies phase.Description a b v h e = omega arith
grown-lies phase.End a b v h e = omega arith

module _ (i : Item) (given : List ℕ) (st : Desk) (a b u at : ℕ) (m m' : List ℕ) (r : Values) (e : value_is r ≡ value_of i a b) where
  judged : (v : ℕ) → r ≡ Ok v → value_of i a b ≡ value v
  unfolding value_is
  judged v f = sym e ∙ ap value_is f

  pub number-lies : (v : ℕ) → r ≡ Ok v → i ≡ item_of st.phase → reach st.phase ≤ init_words → grown st.phase v ≤ init_words
  number-lies v f g h = let k : value_of (item_of st.phase) a b ≡ value v = rw g at (judged v f) in grown-lies st.phase a b v h k

  pub number_small : (v : ℕ) → r ≡ Ok v → value_in r ≤ most_of (head_of i) → v ≤ most_of (head_of i)
  unfolding value_in
  number_small v f h = rw f at h

  pub words-stop : (f : Fault ℕ) (k : ℕ) → r ≡ Err f → k ≡ f.at → Worded i given st a b u at m (Err (record { why = f.why; at = at + k })) m'
  unfolding emit on_value value_is
  words-stop f k w z = λ g. let h : value_of i a b ≡ wrong (number_of f.why) f.at = sym e ∙ ap value_is w in rw (h, z)

  pub words-go : (v : ℕ) (o : Result Desk (Fault ℕ)) → r ≡ Ok v → Put i given st a v u at m o m' → Worded i given st a b u at m o m'
  unfolding emit on_value
  words-go v (Ok st') f (l, k, x, y) =
      record { number = v; same = λ g. rw (judged v f, l); inks = k; uses = x; follows = y }
  words-go v (Err w) f (l, x, y) = λ g. rw (judged v f, l, x, y)

pub ruleset words-ways = (number-lies, number_small, words-stop, words-go)

-- one item of the plan
write_step : (ph : Phase) → ends ph ≡ false → (init codecs given : List ℕ) (used : ℕ) (out : List ℕ)
    → write init codecs given (plan_of ph) used out
    ≡ cond (there_of (slot_of ph) (item_of ph) (length codecs) used)
    (emit (item_of ph) given (word_in (slot_of ph) init codecs used 0) (word_in (slot_of ph) init codecs used 1) (index (slot_of ph) used)
    (λ v bytes. write init codecs given (rest_of ph v) (used_by (slot_of ph) (item_of ph) used) (out ++ bytes)))
    (refused no_reading (init_words + length codecs))
unfolding plan_of goes write
write_step ph e init codecs given used out = rw e

spends : (sl : Slot) (i : Item) (used : ℕ) → used + spare sl ≤ used_by sl i used
unfolding used_by spare
spends (slots.Init j) i used = omega arith
spends slots.Codecs i used = wide (two i)
  where
    wide : (t : Bool) → used + 1 ≤ used + cond t 2 1
    wide true = omega arith
    wide false = omega arith

module _ (st : Desk) (init codecs given : List ℕ) (n : ℕ) (i : Item) (sl : Slot) (item-is : i ≡ item_of st.phase) (slot_is : sl ≡ slot_of st.phase) where
  pub slot_small : reach st.phase ≤ init_words → slot_index sl ≤ init_words
  slot_small h = let g = slot-lies st.phase h in rw slot_is (omega arith)

  pub index-small : (at used : ℕ) → reach st.phase ≤ init_words → at ≡ index sl used → used ≤ n → n ≤ most_word → at ≤ init_words + most_word
  unfolding index slot_index
  index-small at used h e f f' = by sl (slot_small h) e
    where
      by : (x : Slot) → slot_index x ≤ init_words → at ≡ index x used → at ≤ init_words + most_word
      by (slots.Init j) g k = omega arith
      by slots.Codecs g k = omega arith

  module _ (count : length codecs ≡ n) (goes : ends st.phase ≡ false) (o : Option ℕ) (us : UsesIs sl i n st.used o) (m m' : List ℕ) where
    pub item-missing : o ≡ None → (m₀ : List ℕ) (answer : Writing) → Writes init codecs given m₀ answer st m
        → Stepped init codecs given n m₀ answer st (Err (record { why = refusal.NoReading; at = init_words + n })) m'
    item-missing e m₀ answer w =
        let u : there_of sl i n st.used ≡ false = rw e at us in
        let u' : there_of (slot_of st.phase) (item_of st.phase) n st.used ≡ false = rw (item-is, slot_is) at u in
        w.comes ∙ write_step st.phase goes init codecs given st.used w.out ∙ rw (count, u')

    pub item-steps : (u a b at : ℕ) (r : Result Desk (Fault ℕ)) → a ≡ word_in sl init codecs st.used 0 → b ≡ word_in sl init codecs st.used 1
        → at ≡ index sl st.used → st.used ≤ n → Worded i given st a b u at m r m' → o ≡ Some u → (m₀ : List ℕ) (answer : Writing) → Writes init codecs given m₀ answer st m
        → Stepped init codecs given n m₀ answer st r m'
    item-steps u a b at r ea eb eat few wd e m₀ answer w =
        let us' : (u ≡ used_by sl i st.used) × (u ≤ n) × (there_of sl i n st.used ≡ true) = rw e at us in
        let th : there_of (slot_of st.phase) (item_of st.phase) n st.used ≡ true = rw (item-is, slot_is) at us'.2 in
        let c : answer
        ≡ emit i given a b at (λ v bytes. write init codecs given (rest_of st.phase v) u (w.out ++ bytes)) =
        w.comes ∙ write_step st.phase goes init codecs given st.used w.out ∙ rw (count, th, ea, eb, eat, us'.0, item-is, slot_is) in
        by r wd c us'.0 us'.1
      where
        by : (r : Result Desk (Fault ℕ)) → Worded i given st a b u at m r m'
            → answer ≡ emit i given a b at (λ v bytes. write init codecs given (rest_of st.phase v) u (w.out ++ bytes)) → u ≡ used_by sl i st.used → u ≤ n
            → Stepped init codecs given n m₀ answer st r m'
        by (Err w) x c y z = c ∙ x _
        by (Ok st') x c y z =
            let s = spends sl i st.used in
            let f = x.follows.falls in
            let sp : spare sl ≡ spare (slot_of st.phase) = rw slot_is in
            record {
              writes = record {
                out = w.out ++ bytes_for i given a x.number;
                inks = x.inks ∙ ap (λ (y' : Page). inked y' (bytes_for i given a x.number)) w.inks ∙ sym (inked-append (page m₀ (Some 0)) w.out (bytes_for i given a x.number));
                comes = c ∙ x.same _ ∙ rw (x.follows.comes, x.uses);
              };
              lies = x.follows.lies;
              uses = omega (arith, x.uses);
              falls = omega (arith, x.uses, f, s, sp);
            }

pub ruleset step-ways = (slot_small, index-small, item-missing, item-steps)

-- where a writing starts, and where it ends
pub start-writes : (init codecs given m₀ : List ℕ) → Writes init codecs given m₀ (wholly init codecs given) desk m₀
unfolding plan_of goes ends item_of slot_of rest_of plan inked
start-writes init codecs given m₀ = record { out = []; inks = refl; comes = refl }

at-end : (ph : Phase) → ends ph ≡ true → plan_of ph ≡ done
unfolding plan_of goes
at-end ph e = rw e

pub writes-done : (init codecs given m₀ : List ℕ) (n : ℕ) (answer : Writing) (st : Desk) (m : List ℕ) → ends st.phase ≡ true → st.used ≤ n
    → Writes init codecs given m₀ answer st m → Finished m₀ n answer st.used st.ink m
unfolding write
writes-done init codecs given m₀ n answer st m e h w = record { out = w.out; inks = w.inks; uses = h; comes = w.comes ∙ rw (at-end st.phase e) }

module _ (init codecs given : List ℕ) (n : ℕ) (m₀ : List ℕ) (answer : Writing) (st : Desk) (o : Result Desk (Fault ℕ)) (m : List ℕ)
    (t : Stepped init codecs given n m₀ answer st o m) where
  pub step-stops : (f : Fault ℕ) → o ≡ Err f → answer ≡ refused (number_of f.why) f.at
  step-stops f x = rw x at t

  pub step-goes : (st' : Desk) → o ≡ Ok st' → Onward init codecs given n m₀ answer st st' m
  step-goes st' x = rw x at t
