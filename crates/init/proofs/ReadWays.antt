-- Ways through the functions that read item by item.
use Prim.Native.Nat.{ℕ, ◌+◌, ◌-◌, ◌*◌, ◌/◌, ◌≤◌}
use mathlib.Core.Path.{◌≡◌, refl, sym, ap, ◌∙◌}
use mathlib.Core.Bool.{Bool, true, false, cond}
use mathlib.Core.List.{List, [], ◌++◌}
use native.Mathlib.Omega.{arith}
use native.Mathlib.Decide.{dec_le}
use borrow.Author.Tests.{le-leb, lt-leb}
use lib.ListN.{length, drop, length-append, length-drop}
use lib.Seq.{sets, sets-eq, take_at, drop_at, drop-drop}
use Rattle.buffers.specs.Bytes.{four, bytes_of, spelled}
use Rattle.buffers.proofs.BytesLaws.{bytes-length, spelled-append}
use Rattle.std.specs.Prelude.{Result, Ok, Err}
use Rattle.numbers.specs.Refusal.{event_room}
use Rattle.numbers.specs.declared.refusal.Refusal.{Refusal}
use Rattle.numbers.specs.Refused.{number_of}
use Rattle.numbers.specs.Limit.{init_words, most_message}
use Rattle.wire.specs.Res.{got, fault}
use Rattle.init.specs.declared.Item.{Item}
use Rattle.init.specs.declared.Slot.{Slot}
use Rattle.init.specs.declared.Slot.TheVariants as slot
use Rattle.init.specs.declared.Phase.{Phase}
use Rattle.init.specs.declared.items.Found.{Found}
use Rattle.init.specs.declared.items.Words.{Words}
use Rattle.init.specs.declared.reading.State.{State}
use Rattle.init.specs.Items.{item_at, two, one, other, laid, words, head_of}
use Rattle.init.specs.Found.{found_is, told}
use Rattle.init.specs.Plan.{plan}
use Rattle.init.specs.Plan.Plan.{done}
use Rattle.init.specs.Phases.{item_of, slot_of, rest_of, ends, goes, plan_of, reach, grown, spare}
use Rattle.init.specs.Read.{Reading, on_item, store, read}
use Rattle.init.specs.Read.Reading.{refused}
use Rattle.init.specs.Reads.{words_in, width_in, slot_index, store_of, Carried, Reads, Gone, Turned, Done, Stopped, start, whole}
use Rattle.init.specs.Reads.Store.{stored, full}
use Rattle.init.proofs.Found.{item-seen, slot-lies, grown-lies, spare-spends, spends}

-- one word or two
laid-length : (t : Bool) (a b : ℕ) → length (laid t a b) ≡ cond t 2 1
unfolding laid
laid-length true a b = refl
laid-length false a b = refl

told-laid : (t : Bool) (a b : ℕ) → words_in (told t a b) ≡ laid t a b
unfolding laid
told-laid true a b = refl
told-laid false a b = refl

told-width : (t : Bool) (a b : ℕ) → width_in (told t a b) ≡ cond t 2 1
told-width true a b = refl
told-width false a b = refl

-- words behind those that stand over a buffer
pub more-words : (l ws b : List ℕ) (u : ℕ) → length l ≡ u → 4 * (u + length ws) ≤ length b
    → sets (bytes_of l ++ drop (4 * u) b) (4 * u) (bytes_of ws) ≡ bytes_of (l ++ ws) ++ drop (4 * (u + length ws)) b
more-words l ws b u e h =
    let P = bytes_of l in
    let n : length P ≡ 4 * u = bytes-length l ∙ ap (λ (x : ℕ). 4 * x) e in
    let m : length (bytes_of ws) ≡ 4 * length ws = bytes-length ws in
    let all : length (P ++ drop (4 * u) b) ≡ length P + (length b - 4 * u) = length-append P (drop (4 * u) b) ∙ ap (λ (x : ℕ). length P + x) (length-drop (4 * u) b) in
    let g : 4 * u + length (bytes_of ws) ≡ 4 * (u + length ws) = omega arith in
    sets-eq (bytes_of ws) (P ++ drop (4 * u) b) (4 * u) (omega arith)
    ∙ ap (λ (x : List ℕ). x ++ bytes_of ws ++ drop (4 * u + length (bytes_of ws)) (P ++ drop (4 * u) b)) (take_at P (drop (4 * u) b) (4 * u) n)
    ∙ ap (λ (x : List ℕ). P ++ bytes_of ws ++ x)
    (sym (drop-drop (length (bytes_of ws)) (4 * u) (P ++ drop (4 * u) b))
    ∙ ap (drop (length (bytes_of ws))) (drop_at P (drop (4 * u) b) (4 * u) n)
    ∙ drop-drop (length (bytes_of ws)) (4 * u) b
    ∙ ap (λ (j : ℕ). drop j b) g)
    ∙ ap (λ (x : List ℕ). x ++ drop (4 * (u + length ws)) b) (sym (spelled-append four l ws))

-- what a store does to the reading
pub record Stays (slot : Slot) (room at : ℕ) (ws init l b : List ℕ) (u : ℕ) (init' codecs' : List ℕ) : Type 0 where
  pub words : List ℕ
  pub count : length words ≡ u
  pub stands : codecs' ≡ bytes_of words ++ drop (4 * u) b
  pub fits : 4 * u ≤ length b
  pub few : u ≤ length l + length ws * spare slot
  pub same : (f : List ℕ → List ℕ → Reading) → store slot room at ws init l f ≡ f init' words

module _ (at used : ℕ) (ws init l b codecs : List ℕ) (n : length l ≡ used) (st : codecs ≡ bytes_of l ++ drop (4 * used) b) (fits : 4 * used ≤ length b) where
  same_size : length codecs ≡ length b
  same_size =
      let e = ap length st ∙ length-append (bytes_of l) (drop (4 * used) b) ∙ ap (λ (x : ℕ). length (bytes_of l) + x) (length-drop (4 * used) b) in
      omega (arith, bytes-length l)

  full-stops : (slot : Slot) (init' codecs' : List ℕ) → full init' codecs' ≡ store_of slot ws used init codecs → (f : List ℕ → List ℕ → Reading)
      → store slot (length b / 4) at ws init l f ≡ refused event_room at
  unfolding store_of store
  full-stops (slot.Init i) init' codecs' e f = absurd (let z : ◌≡◌ {A = ℕ} 0 1 = cc in omega arith)
  full-stops slot.Codecs init' codecs' e f = elim (dec_le (used + length ws) (length codecs / 4)) [
    | yes h ↦ absurd (let g = rw (le-leb _ _ h) at e in let z : ◌≡◌ {A = ℕ} 0 1 = cc in omega arith)
    | no h ↦ let k = same_size in rw (n, lt-leb (used + length ws) (length b / 4) (omega arith))
  ]

  store_goes : (slot : Slot) (u : ℕ) (init' codecs' : List ℕ) → stored u init' codecs' ≡ store_of slot ws used init codecs → Stays slot (length b / 4) at ws init l b u init' codecs'
  unfolding store_of store spare
  store_goes (slot.Init i) u init' codecs' e =
      let e₀ : u ≡ used = cc in
      let e₁ : init' ≡ sets init i ws = cc in
      let e₂ : codecs' ≡ codecs = cc in
      record {
        words = l;
        count = n ∙ sym e₀;
        stands = rw (e₂, e₀) st;
        fits = rw e₀ fits;
        few = omega arith;
        same = λ f. rw e₁;
      }
  store_goes slot.Codecs u init' codecs' e = elim (dec_le (used + length ws) (length codecs / 4)) [
    | no h ↦ absurd (let g = rw (lt-leb (used + length ws) (length codecs / 4) (omega arith)) at e in let z : ◌≡◌ {A = ℕ} 0 1 = cc in omega arith)
    | yes h ↦
        let k = same_size in
        let g : stored u init' codecs' ≡ stored (used + length ws) init (sets codecs (4 * used) (bytes_of ws)) = rw (le-leb _ _ h) at e in
        let e₀ : u ≡ used + length ws = cc in
        let e₁ : init' ≡ init = cc in
        let e₂ : codecs' ≡ sets codecs (4 * used) (bytes_of ws) = cc in
        let big : 4 * (used + length ws) ≤ length b = omega arith in
        record {
          words = l ++ ws;
          count = length-append l ws ∙ omega arith;
          stands = rw (e₂, e₀, st) (more-words l ws b used n big);
          fits = rw e₀ big;
          few = omega arith;
          same = λ f. rw (n, le-leb (used + length ws) (length b / 4) (omega arith), e₁);
        }
  ]

-- one item of the plan
read_step : (ph : Phase) → ends ph ≡ false → (s : List ℕ) (wall room at : ℕ) (init l : List ℕ)
    → read s wall room (plan_of ph) at init l
    ≡ on_item (item_at (item_of ph) s wall at) at
    (λ r. store (slot_of ph) room at (words (item_of ph) r.0 r.1) init l (λ init' l'. read s wall room (rest_of ph r.0) r.2 init' l'))
unfolding plan_of goes read
read_step ph e s wall room at init l = rw e

words-length : (i : Item) (v p : ℕ) → length (words i v p) ≡ cond (two i) 2 1
unfolding words
words-length i v p = laid-length (two i) (one i v p) (other i v p)

-- words in codecs are no more than twice the bytes read
near : (sl' : Slot) (m : ℕ) (t : Bool) (u q d at p l used : ℕ) → m ≡ cond t 2 1 → u ≤ l + m * spare sl' → spare sl' ≤ d → l ≡ used → used ≤ 2 * at
    → at + d ≤ p → p ≤ q → u ≤ 2 * q
unfolding spare
near (slot.Init j) m t u q d at p l used x₀ x₁ x₂ x₃ x₄ x₅ x₆ = omega arith
near slot.Codecs m true u q d at p l used x₀ x₁ x₂ x₃ x₄ x₅ x₆ = omega arith
near slot.Codecs m false u q d at p l used x₀ x₁ x₂ x₃ x₄ x₅ x₆ = omega arith

module _ (st : State) (s : List ℕ) (wall : ℕ) (i : Item) (f : Result Found Refusal) (same : i ≡ item_of st.phase) (goes : ends st.phase ≡ false)
    (e : found_is f ≡ item_at i s wall st.at) where
  here : (x : Found) → f ≡ Ok x → item_at (item_of st.phase) s wall st.at ≡ got (x.number, x.content, x.end)
  unfolding found_is
  here x g = rw same at (sym e ∙ ap found_is g)

  -- a refusal of the item
  pub item-stops : (e' : Refusal) → f ≡ Err e' → (init codecs b : List ℕ) (answer : Reading) → Reads s b wall answer st init codecs
      → answer ≡ refused (number_of e') st.at
  unfolding found_is on_item
  item-stops e' g init codecs b answer r =
      let h : item_at (item_of st.phase) s wall st.at ≡ fault (number_of e') = rw same at (sym e ∙ ap found_is g) in
      r.comes ∙ read_step st.phase goes s wall (length b / 4) st.at init r.words ∙ rw h

  module _ (it : Found) (g : f ≡ Ok it) where
    pub place-lies : wall ≤ most_message → it.content ≤ most_message
    place-lies h = let a = (item-seen (item_of st.phase) s wall st.at it.number it.content it.end (here it g)).passed in omega (arith, a.next, a.within)

    pub next-lies : reach st.phase ≤ init_words → grown st.phase it.number ≤ init_words
    next-lies h = grown-lies st.phase it.number h (item-seen (item_of st.phase) s wall st.at it.number it.content it.end (here it g)).passed.judged

    module _ (sl : Slot) (w : Words) (k : w ≡ told (two i) (one i it.number it.content) (other i it.number it.content)) (at_slot : sl ≡ slot_of st.phase) where
      told-words : words_in w ≡ words (item_of st.phase) it.number it.content
      unfolding words
      told-words = rw (k, same) (told-laid _ _ _)

      pub slot-fits : (n : ℕ) → n ≡ init_words → reach st.phase ≤ init_words → slot_index sl + width_in w ≤ n
      slot-fits n m h = rw (m, k, same, at_slot, told-width (two (item_of st.phase)) (one (item_of st.phase) it.number it.content) (other (item_of st.phase) it.number it.content)) (slot-lies st.phase h)

      module _ (init codecs init' codecs' : List ℕ) where
        reaches : (b : List ℕ) (answer : Reading) (r : Reads s b wall answer st init codecs)
            → answer
            ≡ store (slot_of st.phase) (length b / 4) st.at (words (item_of st.phase) it.number it.content) init r.words
            (λ init'' l. read s wall (length b / 4) (rest_of st.phase it.number) it.end init'' l)
        unfolding on_item
        reaches b answer r = r.comes ∙ read_step st.phase goes s wall (length b / 4) st.at init r.words ∙ rw (here it g)

        -- no room, or the next state
        pub item-goes : (o : Result State Refusal) → Carried sl (words_in w) st it.number it.end init codecs o init' codecs' → (b : List ℕ) (answer : Reading)
            → Reads s b wall answer st init codecs → Turned s b wall answer st o init' codecs'
        item-goes (Err e') (x, z) b answer r =
            let z' : full init' codecs' ≡ store_of (slot_of st.phase) (words (item_of st.phase) it.number it.content) st.used init codecs = z ∙ rw (told-words, at_slot) in
            reaches b answer r
            ∙ full-stops st.at st.used (words (item_of st.phase) it.number it.content) init r.words b codecs r.count r.stands r.room (slot_of st.phase) init' codecs'
            z' _
            ∙ rw x
        item-goes (Ok st') (x, z, n) b answer r =
            let z' : stored st'.used init' codecs' ≡ store_of (slot_of st.phase) (words (item_of st.phase) it.number it.content) st.used init codecs = z ∙ rw (told-words, at_slot) in
            let y = store_goes st.at st.used (words (item_of st.phase) it.number it.content) init r.words b codecs r.count r.stands r.room (slot_of st.phase) st'.used init' codecs' z' in
            let a = item-seen (item_of st.phase) s wall st.at it.number it.content it.end (here it g) in
            let c = spare-spends st.phase goes in
            let few : st'.used ≤ 2 * it.end =
            near (slot_of st.phase) (length (words (item_of st.phase) it.number it.content)) (two (item_of st.phase)) st'.used it.end (spends (head_of (item_of st.phase))) st.at it.content
            (length r.words) st.used (words-length (item_of st.phase) it.number it.content) y.few c r.count r.few a.goes (omega (arith, a.passed.next)) in
            record {
              reads = record {
                words = y.words;
                count = y.count;
                stands = y.stands;
                room = y.fits;
                few = rw x few;
                within = rw x a.passed.within;
                comes = reaches b answer r ∙ y.same _ ∙ rw (n.comes, x);
              };
              lies = n.lies;
              falls = omega (arith, n.falls, c, a.goes, a.passed.next, a.passed.within, r.within);
            }

pub ruleset turn-ways = (item-stops, place-lies, next-lies, slot-fits, item-goes)

-- where a reading starts, and where it ends
pub start-reads : (s b : List ℕ) (wall : ℕ) (init : List ℕ) → Reads s b wall (whole s b wall init) start init b
unfolding plan_of goes ends item_of slot_of rest_of plan spelled
start-reads s b wall init = record { words = []; count = refl; stands = refl; room = omega arith; few = omega arith; within = omega arith; comes = refl }

at-end : (ph : Phase) → ends ph ≡ true → plan_of ph ≡ done
unfolding plan_of goes
at-end ph e = rw e

pub reads-done : (s b : List ℕ) (wall : ℕ) (answer : Reading) (st : State) (init codecs : List ℕ) → ends st.phase ≡ true → Reads s b wall answer st init codecs
    → Done b wall answer st.at st.used init codecs
unfolding read
reads-done s b wall answer st init codecs e r = record {
  words = r.words;
  count = r.count;
  stands = r.stands;
  room = r.room;
  few = r.few;
  within = r.within;
  comes = r.comes ∙ rw (at-end st.phase e);
}

module _ (s b : List ℕ) (wall : ℕ) (answer : Reading) (st : State) (o : Result State Refusal) (init codecs : List ℕ) (t : Turned s b wall answer st o init codecs) where
  pub turn-stops : (e : Refusal) → o ≡ Err e → st.at ≤ wall → Stopped wall answer (number_of e) st.at
  turn-stops e x h = record { within = h; comes = rw x at t }

  pub turn-goes : (st' : State) → o ≡ Ok st' → Gone s b wall answer st st' init codecs
  turn-goes st' x = rw x at t
