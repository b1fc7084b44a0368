-- Each way through the functions of an element's codes.
use Prim.Native.Nat.{ℕ, zero, suc, ◌+◌, ◌-◌, ◌*◌, ◌^◌, ◌<◌, ◌≤◌, ◌%◌}
use mathlib.Core.Path.{◌≡◌, refl, sym, ap, ◌∙◌}
use mathlib.Core.Bool.{Bool, true, false, not, cond}
use mathlib.Core.List.{List, [], ◌∷◌, ◌++◌}
use native.Mathlib.Omega.{arith}
use native.Mathlib.Nat.{lt_of_lt_of_le}
use borrow.Author.Tests.{lt-ltb, le-ltb, eq-eqb, ne_eqb, eqb-true, ltb-true, not-true}
use mir.Val.{Fits as FitsIn}
use mir.Syntax.{w32, w64}
use lib.Dec.{ltb, eqb}
use lib.ListN.{length, get_or, drop}
use lib.Seq.{drop-cons}
use lib.Arith.{digits_lt}
use lib.Pow.{pow-add, pow_mono, shl_exact}
use Rattle.numbers.specs.Refusal.{outside_row}
use Rattle.numbers.specs.Kind as kinds
use Rattle.wire.specs.Bits.{digits}
use Rattle.wire.specs.declared.Coded.{Coded}
use Rattle.wire.specs.Res.{got, fault}
use Rattle.wire.proofs.Res.{then, then-fault, tested-then, tested-fault}
use Rattle.wire.specs.Width.{width}
use Rattle.wire.proofs.Width.{width-holds, width-under, width-pow}
use Rattle.wire.specs.Coded.{Codes}
use Rattle.wire.proofs.WriteWays.{digits-split}
use Rattle.table.specs.First.Verdict.{right}
use Rattle.table.specs.Valid.{verdict}
use Rattle.table.specs.Words.{word_at, types_in}
use Rattle.table.specs.Rows.{table_of}
use Rattle.table.specs.Keeps.{TypesOk}
use Rattle.table.specs.Views.{listed_at, Listed}
use Rattle.table.proofs.CastLaws.{derived-ok, substitutes-ok}
use Rattle.table.specs.declared.answers.TypeList.{TypeList}
use Rattle.value.specs.Code.{bits_of, fits, code_out, word_less, Code, choice, shifted}
use Rattle.value.specs.Simple.{one_of}
use Rattle.model.specs.Model.{Types, chosen, default_type, sends, codes}
use Rattle.model.specs.Modes.{Lists, types_by}
use Rattle.model.specs.Items.{substitute_code, type_code}
use Rattle.model.specs.Write.{Bare, Out, coded, as_cast, place_in, standing, codes_out, casts}
use Rattle.model.proofs.OutLaws.{casts-none}
use Rattle.model.specs.Whole.{event_at}
use Rattle.model.specs.declared.Choices.{Choices}
use Rattle.writer_parts.specs.declared.Spot.{Spot}
use Rattle.writer_parts.specs.declared.judging.Words.{Words}
use Rattle.std.specs.Prelude.{Ok, Err}
use Rattle.numbers.specs.declared.refusal.Refusal.{Refusal}
use Rattle.numbers.specs.declared.refusal.Refusal.TheVariants as why
use Rattle.numbers.specs.Refused.{number_of}
use Rattle.writer_parts.specs.Notes.{Spelling, note_bits, keeps, Noted, Short, most_choices, Flagged}
use Rattle.writer_parts.specs.Walk.{events_in, events_at, texts_at, between, Ready, wanted, judged, KindJudged}
use Rattle.writer_parts.specs.Codes.{Rowed, Chosen, Placed, Stands, Spelled, Spells, Casts}
use Rattle.writer_parts.proofs.NoteLaws.{spells-none}
use Rattle.writer_parts.proofs.NoteWays.{coded-long, none_is, some_is}
use Rattle.writer_parts.proofs.WalkLaws.{went, events-count, judged-in, taken-like, taken-unlike}
use Rattle.writer_parts.proofs.PutWays.{put-kept}
use Rattle.writer_parts.proofs.JudgingWays.{some, like as like-words, kind-fine, kind-faulty, word-first, word-second, kind-room, noted-spelt, noted-got}

-- one_of, of at most most_choices
few-width : (n : ℕ) → n ≤ most_choices → width n ≤ 10
few-width n h = width-under n 10 (omega arith)

module _ (n k : ℕ) (small : n ≤ most_choices) (h : k ≤ n) where
  pub one-of-none : n ≡ 0 → Short 11 (record { size = 0; bits = 0 }) (bits_of (one_of n) k)
  unfolding one_of bits_of digits
  one-of-none z =
      let k0 : k ≡ 0 = omega arith in
      let w0 : width 1 ≡ 0 = width-pow 0 in
      rw (z, k0, w0) (record { code = record { is = refl; low = omega arith }; few = omega arith })

  module _ (some : n ≡ 0 → ⊥) where
    one-of-some : one_of n ≡ Code.some (shifted 1 (choice n))
    unfolding one_of
    one-of-some = let e : n ≡ suc (n - 1) = omega arith in rw e

    pub one-of-off : k ≡ 0 → Short 11 (record { size = 1; bits = 0 }) (bits_of (one_of n) k)
    one-of-off z = rw (one-of-some, none_is (shifted 1 (choice n)) k z) (record { code = record { is = refl; low = omega arith }; few = omega arith })

    pub one-of-few : (w : ℕ) → w ≡ width n → w ≤ 40
    one-of-few w e = rw e (omega (arith, few-width n small))

    module _ (z : k ≡ 0 → ⊥) (w x : ℕ) (e : w ≡ width n) (f : x ≡ k - 1) where
      less : word_less 1 k ≡ k - 1
      less = omega arith

      pub one-of-low : x < 2 ^ w
      one-of-low = rw (e, f) (omega (arith, width-holds n))

      pub one-of-on : (r : Coded) → Flagged 1 (record { size = w; bits = x }) r → Short 11 r (bits_of (one_of n) k)
      unfolding bits_of
      one-of-on r g =
          let q : Codes (record { size = w; bits = x }) (digits (width n) (k - 1)) = record { is = rw (e, f); low = one-of-low } in
          let l = g.long in
          let t : w ≤ 10 = rw e (few-width n small) in
          rw (one-of-some, some_is (shifted 1 (choice n)) k z, less) (record { code = g.is (digits (width n) (k - 1)) q; few = omega arith })

pub ruleset one_of_ways = (one-of-none, one-of-off, one-of-few, one-of-low, one-of-on)

-- one code behind another
module _ (a b : Coded) (fa : a.size ≤ 11) (fb : b.size ≤ 11) (la : a.bits < 2 ^ a.size) (lb : b.bits < 2 ^ b.size) where
  raised : a.bits * 2 ^ b.size % 2 ^ 64 ≡ a.bits * 2 ^ b.size
  raised = shl_exact {a = a.bits} a.size b.size 64 la (omega arith)

  both_under : a.bits * 2 ^ b.size + b.bits < 2 ^ (a.size + b.size)
  both_under = rw (pow-add 2 a.size b.size) (digits_lt la lb)

  pub pair-long : FitsIn w32 (a.size + b.size)
  pair-long = record { fits = omega arith }

  pub pair-shift : b.size < 64
  pair-shift = omega arith

  pub pair_fits : FitsIn w64 (a.bits * 2 ^ b.size % 2 ^ 64 + b.bits)
  pair_fits = record { fits = rw raised (lt_of_lt_of_le both_under (pow_mono {i = a.size + b.size} {j = 64} (omega arith))) }

  pub pair-done : Short 22 (record { size = a.size + b.size; bits = a.bits * 2 ^ b.size % 2 ^ 64 + b.bits }) (digits a.size a.bits ++ digits b.size b.bits)
  pair-done = record { code = record { is = rw (raised, digits-split a.size b.size a.bits b.bits lb); low = rw raised both_under }; few = omega arith }

pub ruleset pair_ways = (pair-long, pair-shift, pair_fits, pair-done)

-- due
sends-first : (a b : List ℕ) → 0 < length a → sends a b ≡ true
unfolding sends
sends-first [] b h = absurd (omega arith)
sends-first (x ∷ a) b h = refl

sends-second : (a b : List ℕ) → length a ≤ 0 → sends a b ≡ ltb 0 (length b)
unfolding sends
sends-second [] [] h = sym (le-ltb 0 0 (omega arith))
sends-second [] (x ∷ b) h = sym (lt-ltb 0 (suc (length b)) (omega arith))
sends-second (x ∷ a) b h = absurd (omega arith)

module _ (l : List ℕ) (c : Choices) (t row : ℕ) (s : TypeList) (h : Lists l (cond c.substitutes ((table_of l).substitutes row) []) s) where
  pub due-swap : 0 < s.count → true ≡ codes (types_by l c t row)
  unfolding codes
  due-swap z = let e = h.listed.count-is in sym (sends-first _ _ (omega arith))

  pub due-types : s.count ≤ 0 → (d : TypeList) → Lists l (cond c.derived ((table_of l).derived t) []) d → ltb 0 d.count ≡ codes (types_by l c t row)
  unfolding codes
  due-types z d g = let e = h.listed.count-is in rw g.listed.count-is (sym (sends-second _ _ (omega arith)))

pub due-nothing : (l : List ℕ) (c : Choices) (t row : ℕ) → Rowed l c row → not c.any ≡ true → false ≡ codes (types_by l c t row)
unfolding codes sends
due-nothing l c t row h e = let n = h.neither (not-true c.any e) in rw (n.0, n.1) refl

pub ruleset due_ways = (due-nothing, due-swap, due-types)

-- default_type
chosen_more : (t : ℕ) (types : List ℕ) (q : ℕ) → (q ≡ 0 → ⊥) → chosen t types q ≡ get_or types (q - 1) 0
unfolding chosen
chosen_more t types zero z = absurd (z refl)
chosen_more t types (suc k) z = let e : suc k - 1 ≡ k = omega arith in rw e

module _ (l : List ℕ) (s : TypeList) (t q : ℕ) where
  pub default-own : q ≡ 0 → Chosen l s t q t
  unfolding chosen
  default-own z = record { is = λ types h. rw z }

  pub default-swap : (q ≡ 0 → ⊥) → q ≤ s.count → (r : ℕ) → r ≡ word_at l (listed_at s (q - 1)) → Chosen l s t q r
  default-swap z g r e = record { is = λ types h. e ∙ h.each (q - 1) (omega arith) ∙ sym (chosen_more t types q z) }

pub ruleset default_ways = (default-own, default-swap)

-- place_in: i types are passed
pub record Passed (l : List ℕ) (s : TypeList) (p i : ℕ) : Type 0 where
  pub is : (types : List ℕ) → Listed l types s → place_in p types ≡ i + place_in p (drop i types)

module _ (l : List ℕ) (s : TypeList) (p : ℕ) where
  pub place-start : Passed l s p 0
  place-start = record { is = λ types h. omega arith }

  module _ (i one : ℕ) (h : Passed l s p i) (e : one ≡ word_at l (listed_at s i)) (g : i < s.count) where
    next-is : (types : List ℕ) → Listed l types s → drop i types ≡ one ∷ drop (i + 1) types
    next-is types k =
        let n = k.count-is in
        let on : i + 1 ≡ suc i = omega arith in
        rw on (drop-cons types i 0 (omega arith) ∙ ap (λ (x : ℕ). x ∷ drop (suc i) types) (sym (e ∙ k.each i g)))

    pub place_here : p ≡ one → Placed l s p (i + 1)
    unfolding place_in
    place_here f = record { is = λ types k. sym (h.is types k ∙ rw (next-is types k, eq-eqb p one f)) }

    pub place-on : (p ≡ one → ⊥) → Passed l s p (i + 1)
    unfolding place_in
    place-on f = record {
      is = λ types k.
          let n : i + suc (place_in p (drop (i + 1) types)) ≡ i + 1 + place_in p (drop (i + 1) types) = omega arith in
          h.is types k ∙ rw (next-is types k, ne_eqb p one f) n;
    }

  pub place-past : (i : ℕ) → Passed l s p i → i ≤ s.count → s.count ≤ i → Placed l s p (s.count + 1)
  unfolding place_in
  place-past i h a b = record { is = λ types k. let n = k.count-is in let e : i ≡ s.count = omega arith in rw (← e) (sym (h.is types k ∙ rw (all-dropped i types (omega arith)))) }
    where
      all-dropped : (i : ℕ) (types : List ℕ) → length types ≤ i → drop i types ≡ []
      all-dropped zero [] h = refl
      all-dropped (suc i) [] h = refl
      all-dropped zero (x ∷ l) h = absurd (omega arith)
      all-dropped (suc i) (x ∷ l) h = all-dropped i l (omega arith)

pub ruleset place_ways = (place-start, place_here, place-on, place-past)

-- standing
module _ (l : List ℕ) (s : TypeList) (p t : ℕ) where
  pub standing-own : p ≡ t → Stands l s t p 0
  unfolding standing
  standing-own e = record { is = λ types h. rw (eq-eqb p t e) }

  pub standing-far : (p ≡ t → ⊥) → (r : ℕ) → Placed l s p r → Stands l s t p r
  unfolding standing
  standing-far e r k = record { is = λ types h. rw (ne_eqb p t e) (k.is types h) }

pub ruleset standing_ways = (standing-own, standing-far)

-- one of n, or none: what the writer's test says
one-of-fits : (n k : ℕ) → k ≤ n → n ≤ most_choices → code_out (one_of n) k ≡ got (bits_of (one_of n) k)
unfolding code_out one_of fits
one-of-fits n k h s = tested-then outside_row (go n k h s) refl
  where
    go : (n k : ℕ) → k ≤ n → n ≤ most_choices → fits (one_of n) k ≡ true
    go zero k h s = lt-ltb k 1 (omega arith)
    go (suc n) zero h s = refl
    go (suc n) (suc k) h s = rw (lt-ltb (suc k) (2 ^ 32) (omega arith)) (lt-ltb (word_less 1 (suc k)) (suc n) (omega arith))

one-of-over : (n k : ℕ) → n < k → code_out (one_of n) k ≡ fault outside_row
unfolding code_out one_of fits
one-of-over n k h = tested-fault outside_row _ (go n k h)
  where
    go : (n k : ℕ) → n < k → fits (one_of n) k ≡ false
    go zero k h = le-ltb k 1 (omega arith)
    go (suc n) zero h = absurd (omega arith)
    go (suc n) (suc k) h = word (ltb (suc k) (2 ^ 32)) refl
      where
        word : (u : Bool) → ltb (suc k) (2 ^ 32) ≡ u → cond u (ltb (word_less 1 (suc k)) (suc n)) false ≡ false
        word true e = le-ltb (word_less 1 (suc k)) (suc n) (omega (arith, ltb-true (suc k) (2 ^ 32) e))
        word false e = refl

-- places are counted from 1
place-some : (p : ℕ) (l : List ℕ) → place_in p l ≡ 0 → ⊥
unfolding place_in
place-some p [] h = omega arith
place-some p (x ∷ l) h = go (eqb p x) h
  where
    go : (u : Bool) → cond u 1 (suc (place_in p l)) ≡ 0 → ⊥
    go true h = omega arith
    go false h = omega arith

-- a type that stands in a list is one of it
place-in : (p : ℕ) (l : List ℕ) → place_in p l ≤ length l → get_or l (place_in p l - 1) 0 ≡ p
unfolding place_in
place-in p [] h = absurd (omega arith)
place-in p (x ∷ l) h = go (eqb p x) refl (λ k. place-in p l k) h
  where
    go : (u : Bool) → eqb p x ≡ u → (place_in p l ≤ length l → get_or l (place_in p l - 1) 0 ≡ p)
        → cond u 1 (suc (place_in p l)) ≤ suc (length l) → get_or (x ∷ l) (cond u 1 (suc (place_in p l)) - 1) 0 ≡ p
    go true e f h = sym (eqb-true p x e)
    go false e f h =
        let n = place-some p l in
        let on : suc (place_in p l) - 1 ≡ suc (place_in p l - 1) = omega arith in
        rw on (f (omega arith))

-- the derived types of a type of the table, where type codes are sent
module _ (l : List ℕ) (valid : verdict l ≡ right) (c : Choices) (t : ℕ) (known : t < types_in l) where
  derived-known : TypesOk (types_in l) most_choices (cond c.derived ((table_of l).derived t) [])
  derived-known = go c.derived
    where
      go : (u : Bool) → TypesOk (types_in l) most_choices (cond u ((table_of l).derived t) [])
      go true = derived-ok l valid t known
      go false = record { known = λ k g. absurd (omega arith); few = omega arith }

  pub spell-types : (d : TypeList) → Lists l (cond c.derived ((table_of l).derived t) []) d → d.count ≤ most_choices
  spell-types d g = let e = g.listed.count-is in let f = derived-known.few in omega arith

-- spell
module _ (l : List ℕ) (valid : verdict l ≡ right) (c : Choices) (t row p q : ℕ) (type_known : t < types_in l) (rowed : Rowed l c row)
    (s : TypeList) (h : Lists l (cond c.substitutes ((table_of l).substitutes row) []) s) where
  abbrev y : Types
  y = types_by l c t row

  swaps-ok : TypesOk (types_in l) most_choices y.substitutes
  swaps-ok = go c.substitutes refl
    where
      go : (u : Bool) → c.substitutes ≡ u → TypesOk (types_in l) most_choices (cond u ((table_of l).substitutes row) [])
      go true e = substitutes-ok l valid row (rowed.known e)
      go false e = record { known = λ k g. absurd (omega arith); few = omega arith }

  pub spell-swaps : s.count ≤ most_choices
  spell-swaps = let e = h.listed.count-is in let f = swaps-ok.few in omega arith

  pub spell-over : s.count < q → Spells l y p q (Err why.OutsideRow)
  unfolding codes_out substitute_code
  spell-over z = let e = h.listed.count-is in record { is = then-fault _ (one-of-over (length y.substitutes) q (omega arith)) }

  module _ (z : q ≤ s.count) (own : ℕ) (o : Chosen l s t q own) where
    own_is : own ≡ default_type y q
    unfolding default_type
    own_is = o.is y.substitutes h.listed

    pub own-known : own < types_in l
    unfolding default_type chosen
    own-known = rw own_is (go q refl)
      where
        go : (k : ℕ) → q ≡ k → chosen t y.substitutes k < types_in l
        go zero e = type_known
        go (suc k) e = let n = h.listed.count-is in swaps-ok.known k (omega arith)

    types-ok : TypesOk (types_in l) most_choices (y.derived own)
    types-ok = derived-known l valid c own own-known

    module _ (d : TypeList) (g : Lists l (cond c.derived ((table_of l).derived own) []) d) (k : ℕ) (w : Stands l d own p k) where
      stands : standing p own (y.derived own) ≡ k
      stands = sym (w.is (y.derived own) g.listed)

      pub spell-far : d.count < k → Spells l y p q (Err why.OutsideRow)
      unfolding codes_out substitute_code type_code
      spell-far f =
          let a = h.listed.count-is in
          let b = g.listed.count-is in
          record {
            is = then _ (one-of-fits (length y.substitutes) q (omega arith) swaps-ok.few)
                (rw (← own_is, stands) (then-fault _ (one-of-over (length (y.derived own)) k (omega arith))));
          }

      module _ (f : k ≤ d.count) where
        effective-known : p < types_in l
        unfolding standing
        effective-known = go (eqb p own) refl (stands ∙ refl)
          where
            go : (u : Bool) → eqb p own ≡ u → cond u 0 (place_in p (y.derived own)) ≡ k → p < types_in l
            go true e x = rw (eqb-true p own e) own-known
            go false e x =
                let b = g.listed.count-is in
                let i = place-in p (y.derived own) (omega arith) in
                let j = place-some p (y.derived own) in
                rw (← i) (types-ok.known (place_in p (y.derived own) - 1) (omega arith))

        module _ (a b : Coded) (A : Short 11 a (bits_of (one_of s.count) q)) (B : Short 11 b (bits_of (one_of d.count) k)) where
          pub spell-pair : (a.size ≤ 11) × (b.size ≤ 11) × (a.bits < 2 ^ a.size) × (b.bits < 2 ^ b.size)
          spell-pair = (A.few, B.few, A.code.low, B.code.low)

          pub spell-note : (n : Coded) → Short 22 n (digits a.size a.bits ++ digits b.size b.bits) → Spells l y p q (Ok n)
          unfolding codes_out substitute_code type_code
          spell-note n e =
              let u = h.listed.count-is in
              let v = g.listed.count-is in
              record {
                is = record {
                  gives = record {
                    bits = bits_of (one_of s.count) q ++ bits_of (one_of d.count) k;
                    out = then _ (one-of-fits (length y.substitutes) q (omega arith) swaps-ok.few)
                        (rw (← own_is, stands, u, v) (then _ (one-of-fits (length (y.derived own)) k (omega arith) types-ok.few) refl));
                    code = rw (A.code.is, B.code.is) at e;
                  };
                  known = effective-known;
                };
              }

pub ruleset spell_ways = (spell-swaps, spell-over, own-known, spell-types, spell-far, spell-pair, spell-note)

-- note_due
module _ (l L X : List ℕ) (c : Spot) (N : List ℕ) (r : Ready L X N c) (y : Types) (due : codes y ≡ true) where
  pub due-unlike : (x : Refusal) → KindJudged L c.event kinds.cast (number_of x) → Casts l L X y c N (Err (record { why = x; at = c.event })) N
  unfolding casts
  due-unlike x h =
      let e = event_at L c.event in
      record { is = record { out = λ k. rw due (taken-unlike L c.event (wanted kinds.cast e.p e.q) as_cast _ refl (number_of x) (h.wrong (some x) e.p e.q) (some x) r.inside); inside = r.inside } }

  module _ (judging : KindJudged L c.event kinds.cast 0) (w : Words) (first : w.p ≡ get_or L (4 * c.event + 1) 0) (second : w.q ≡ get_or L (4 * c.event + 2) 0)
      (s : Spelling) (h : Spells l y w.p w.q s) where
    abbrev p : ℕ
    p = w.p

    abbrev q : ℕ
    q = w.q

    cast_is : as_cast (event_at L c.event) ≡ wanted kinds.cast p q
    cast_is = rw (first, second)

    z : 0 ≡ judged L c.event (wanted kinds.cast p q)
    z = like-words L c.event kinds.cast p q (judging.there refl) (judging.same refl) first second

    like : judged L c.event (wanted kinds.cast p q) ≡ 0
    like = sym z

    coded-is : (k : ℕ → List ℕ → List Bare → Out) → casts (codes y) y (events_at L c.event) k
        ≡ coded (codes_out y p q) (suc (length (events_at L (c.event + 1)))) (λ w. k p w (events_at L (c.event + 1)))
    unfolding casts
    coded-is k = rw due (taken-like L c.event (wanted kinds.cast p q) as_cast _ cast_is like ∙ rw (first, second))

    pub due-refused : (n : Refusal) → s ≡ Err n → Casts l L X y c N (Err (record { why = n; at = c.event })) N
    unfolding coded
    due-refused n w· =
        let i = judged-in L c.event (wanted kinds.cast p q) like in
        let f : codes_out y p q ≡ fault (number_of n) = rw w· at h.is in
        let m : suc (length (events_at L (c.event + 1))) ≡ events_in L - c.event = omega (arith, events-count L (c.event + 1)) in
        record { is = record { out = λ k. coded-is k ∙ rw (f, m); inside = r.inside } }

    module _ (n : Coded) (w· : s ≡ Ok n) where
      spelled : Spelled l y p q n
      spelled = rw w· at h.is

      pub due-few : n.size ≤ 41
      due-few = let f = spelled.gives.code.few in omega arith

      pub due-low : n.bits < 2 ^ n.size
      due-low = spelled.gives.code.code.low

      pub due-noted : (x : ℕ) → Noted x (digits n.size n.bits) → (M : List ℕ) → M ≡ keeps N c.event x → Casts l L X y c N (Ok (p, record { event = c.event + 1; used = c.used; bits = c.bits + n.size })) M
      unfolding coded
      due-noted x o M m =
          let g = spelled.gives in
          let e : Spot = record { event = c.event + 1; used = c.used; bits = c.bits + n.size } in
          let few = g.code.few in
          let long = coded-long n g.bits g.code.code in
          let is : note_bits X x ≡ g.bits = o.is X ∙ g.code.code.is in
          let step = went (noted-got L X c N (wanted kinds.cast p q) (got (g.bits, texts_at X c.used)) r z g.bits x M e refl is m refl (omega arith) (omega arith) r.used (omega arith)) e refl in
          let spelt : between X M c e ≡ g.bits = noted-spelt L X c N (wanted kinds.cast p q) (got (g.bits, texts_at X c.used)) r z g.bits x M e is m refl in
          record {
            is = record {
              out = λ k. coded-is k ∙ rw (g.out, spelt);
              known = spelled.known;
              counts = step.counts;
              onward = step.onward;
              texts = refl;
              ready = step.ready;
              before = step.before;
            };
          }

module _ (L X : List ℕ) (c : Spot) (N : List ℕ) (r : Ready L X N c) where
  pub due-fits : (l : List ℕ) (y : Types) (p q : ℕ) (s : Spelling) → Spells l y p q s → (n : Coded) → s ≡ Ok n → FitsIn w32 (c.bits + n.size)
  due-fits l y p q s h n w =
      let k : Spelled l y p q n = rw w at h.is in
      let f = k.gives.code.few in
      let a = r.small in
      let d = r.few in
      let i = r.inside in
      record { fits = omega arith }

  pub due-next : (k : ℕ) → KindJudged L c.event k 0 → FitsIn w64 (c.event + 1)
  due-next k h = let i = h.there refl in let f = r.few in record { fits = omega arith }

pub ruleset note_due_ways = (put-kept, kind-fine, kind-faulty, word-first, word-second, kind-room, due-next, due-fits, due-unlike, due-refused, due-few, due-low, due-noted)

-- note_codes
module _ (l L X : List ℕ) (c : Choices) (t row : ℕ) (a : Spot) (N : List ℕ) (d : Bool) (e : d ≡ codes (types_by l c t row)) where
  pub codes-due : d ≡ true → codes (types_by l c t row) ≡ true
  codes-due f = sym e ∙ f

  pub codes-none : d ≡ false → Ready L X N a → t < types_in l → Casts l L X (types_by l c t row) a N (Ok (t, a)) N
  codes-none f r k =
      let z : a.event - a.event ≡ 0 = omega arith in
      let n : between X N a a ≡ [] = rw z (spells-none X N a.event) in
      record {
        is = record {
          out = λ k. casts-none (types_by l c t row) (events_at L a.event) k (sym e ∙ f) ∙ rw n;
          known = k;
          counts = rw n (omega arith);
          onward = omega arith;
          texts = refl;
          ready = r;
          before = λ j h. refl;
        };
      }

pub ruleset codes_ways = (codes-due, codes-none)
