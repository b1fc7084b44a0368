-- Each way through an element's codes; and what they can say.
use Prim.Native.Nat.{ℕ, zero, suc, ◌+◌, ◌-◌, ◌%◌, ◌^◌, ◌<◌, ◌≤◌}
use mathlib.Core.Path.{◌≡◌, refl, sym, ◌∙◌}
use mathlib.Core.Bool.{Bool, true, false, cond}
use mathlib.Core.List.{List, [], ◌∷◌}
use native.Mathlib.Omega.{arith}
use borrow.Author.Tests.{lt-ltb, le-leb, lt-leb}
use lib.ListN.{length, get_or}
use Rattle.numbers.specs.Refusal.{past_end, too_large, no_such_code}
use Rattle.numbers.specs.Kind as kinds
use Rattle.wire.specs.Res.{Res, got, fault, ◌>>=◌, Ensures}
use Rattle.wire.proofs.Res.{bind, gives, under, then, then-fault, under-then}
use Rattle.wire.specs.Bits.{num, fixed_at}
use Rattle.wire.specs.Width.{least_from, width}
use Rattle.wire.specs.Answer.{Read, read_is}
use Rattle.wire.proofs.ReadWays.{read-value, read-refuse}
use Rattle.wire.specs.declared.Bits.{Bits}
use Rattle.std.specs.Prelude.{Ok, Err}
use Rattle.numbers.specs.declared.refusal.Refusal.{Refusal}
use Rattle.value.specs.Code.{choice, shifted, choice_at, some_of, code_at}
use Rattle.value.specs.Simple.{one_of}
use Rattle.table.specs.First.Verdict.{right}
use Rattle.table.specs.Valid.{verdict}
use Rattle.table.specs.Words.{word_at, types_in, particles_in}
use Rattle.table.specs.Rows.{table_of}
use Rattle.table.specs.Views.{listed_at, Listed}
use Rattle.table.specs.declared.answers.TypeList.{TypeList}
use Rattle.table.proofs.CastLaws.{derived-ok, substitutes-ok}
use Rattle.model.specs.Model.{Types, only, chosen, default_type, effective_type, sends, codes}
use Rattle.model.specs.Model.Nodes.{none}
use Rattle.model.specs.Model.Answer.{given}
use Rattle.model.specs.Items.{substitute_code, type_code, codes_at}
use Rattle.model.specs.Modes.{types_by}
use Rattle.model.specs.Read.{cast_at}
use Rattle.model.specs.declared.Choices.{Choices}
use Rattle.reader_parts.specs.declared.Cast.{Cast}
use Rattle.reader_parts.specs.declared.Cursor.{Cursor}
use Rattle.reader_parts.specs.Out.{Step, step_view, outcome, Stores}
use Rattle.reader_parts.specs.Codes.{Picked, pick_is, pick_at, Picks, sends_of, coded_is, Says, Tells}
use Rattle.reader_parts.proofs.Laws.{outcome-none}

-- one of n is under n; none or one of n is at most n
pub choice-in : (b : ℕ → ℕ) (n wall at : ℕ) → Ensures (choice_at b n wall at) (λ x. x.0 < n)
unfolding choice_at
choice-in b n wall at = bind {P = λ x. Unit {0}} (record { says = λ x e. tt }) (λ x u. under no_such_code λ k. gives (omega arith))

one_in : (b : ℕ → ℕ) (n wall at : ℕ) → Ensures (code_at (one_of n) b wall at) (λ x. x.0 ≤ n)
unfolding one_of code_at some_of
one_in b zero wall at = record { says = λ x e. let k = (choice-in b 1 wall at).says x e in omega arith }
one_in b (suc n) wall at = bind {P = λ x. Unit {0}} (record { says = λ x e. tt }) (λ x u. go x.0 x.1)
  where
    go : (f p : ℕ) → Ensures (some_of (code_at (shifted 1 (choice (suc n))) b wall) f p) (λ x. x.0 ≤ suc n)
    go zero p = gives (omega arith)
    go (suc f) p = bind (bind (choice-in b (suc n) wall p) (λ x k. under too_large λ h. gives {Q = λ y. y.0 ≤ suc n} (omega arith))) (λ x k. under no_such_code λ h. gives k)

-- one_of
module _ (b : ℕ → ℕ) (n wall at : ℕ) where
  abbrev One : Read → Type 0
  One r = read_is r ≡ code_at (one_of n) b wall at

  pub one_none : (r : Read) → n ≡ 0 → read_is r ≡ choice_at b 1 wall at → One r
  unfolding one_of code_at
  one_none r z e = rw z e

  module _ (z : n ≡ 0 → ⊥) (r : Read) (e : read_is r ≡ choice_at b 2 wall at) where
    some_of_lem : n ≡ suc (n - 1)
    some_of_lem = omega arith

    pub one-refuse : (m : Refusal) → r ≡ Err m → One (Err m)
    unfolding one_of code_at read_is
    one-refuse m h = rw some_of_lem (sym (then-fault _ (read-refuse e h)))

    module _ (f : ℕ) (p : Bits) (h : r ≡ Ok (f, p)) where
      pub one-off : f ≡ 0 → One (Ok (0, p))
      unfolding one_of code_at read_is some_of
      one-off k = rw some_of_lem (sym (then _ (read-value e h) (rw k)))

      module _ (k : f ≡ 0 → ⊥) (x : Read) (g : read_is x ≡ choice_at b n wall p.0) where
        flag_on : f ≡ suc (f - 1)
        flag_on = omega arith

        one_on : (c : Res (ℕ × ℕ)) → some_of (code_at (shifted 1 (choice n)) b wall) (suc (f - 1)) p.0 ≡ c → code_at (one_of n) b wall at ≡ c
        unfolding one_of code_at
        one_on c i = rw some_of_lem (then _ (read-value e h) (rw flag_on (rw some_of_lem at i)))

        pub one-cut : (m : Refusal) → x ≡ Err m → One (Err m)
        unfolding code_at read_is some_of
        one-cut m i = sym (one_on _ (then-fault _ (then-fault _ (read-refuse g i))))

        module _ (v : ℕ) (q : Bits) (i : x ≡ Ok (v, q)) where
          in-here : v < n
          in-here = (choice-in b n wall p.0).says (v, q.0) (read-value g i)

          pub one-fits : n < 2 ^ 32 → v + 1 < 4294967296
          one-fits l = let k = in-here in omega arith

          pub one-read : n < 2 ^ 32 → (w : ℕ) → w ≡ v + 1 → One (Ok (w, q))
          unfolding code_at read_is some_of
          one-read l w j =
              let k = in-here in
              let up : (1 + v) % 2 ^ 32 ≡ w = omega arith in
              sym (one_on _ (then _ (then _ (read-value g i) (under-then too_large (omega arith) refl)) (under-then no_such_code (omega arith) (rw up refl))))

pub ruleset one-ways = (one_none, one-refuse, one-off, one-cut, one-fits, one-read)

-- pick
module _ (l : List ℕ) (b : ℕ → ℕ) (wall at own : ℕ) (list : TypeList) (r : Read) (e : read_is r ≡ code_at (one_of list.count) b wall at) where
  here : (types : List ℕ) → Listed l types list → read_is r ≡ code_at (one_of (length types)) b wall at
  here types h = rw h.count-is at e

  pub pick-wrong : (n : Refusal) → r ≡ Err n → Picks l b wall at own list (Err n)
  unfolding pick_is pick_at
  pick-wrong n f = record { says = λ types h. sym (then-fault _ (read-refuse (here types h) f)) }

  module _ (k : ℕ) (p : Bits) (f : r ≡ Ok (k, p)) where
    pub pick-own : k ≡ 0 → Picks l b wall at own list (Ok (own, 0, p))
    unfolding pick_is pick_at chosen
    pick-own z = record { says = λ types h. sym (then _ (read-value (here types h) f) (rw z)) }

    pub pick-listed : (t : ℕ) → (k ≡ 0 → ⊥) → t ≡ word_at l (listed_at list (k - 1)) → Picks l b wall at own list (Ok (t, k, p))
    unfolding pick_is pick_at chosen
    pick-listed t z g =
        let few = (one_in b list.count wall at).says (k, p.0) (read-value e f) in
        let more : k ≡ suc (k - 1) = omega arith in
        record {
          says = λ types h.
              let is : t ≡ get_or types (k - 1) 0 = g ∙ h.each (k - 1) (omega arith) in
              sym (then _ (read-value (here types h) f) (rw more (rw is refl)));
        }

pub ruleset pick-ways = (pick-wrong, pick-own, pick-listed)

-- nothing to choose from
module _ (b : ℕ → ℕ) (wall at : ℕ) where
  none_in : at ≤ wall → code_at (one_of 0) b wall at ≡ got (0, at)
  unfolding one_of code_at choice_at fixed_at width least_from num ◌>>=◌
  none_in h =
      let z : at + 0 ≡ at = omega arith in
      rw (z, le-leb at wall h) (under-then no_such_code (omega arith) refl)

  none-past : wall < at → code_at (one_of 0) b wall at ≡ fault past_end
  unfolding one_of code_at choice_at fixed_at width least_from num ◌>>=◌
  none-past h =
      let z : at + 0 ≡ at = omega arith in
      rw (z, lt-leb at wall h)

  -- an element's codes are then of no bits
  pub codes-none : (t : ℕ) → at ≤ wall → codes_at (only t) b wall at ≡ got (t, 0, at)
  unfolding codes_at substitute_code type_code default_type effective_type chosen
  codes-none t h = then _ (none_in h) (then _ (none_in h) refl)

  pub codes-past : (t : ℕ) → wall < at → codes_at (only t) b wall at ≡ fault past_end
  unfolding codes_at substitute_code
  codes-past t h = then-fault _ (none-past h)

-- an element's codes, as one pick after another
module _ (y : Types) (b : ℕ → ℕ) (wall at : ℕ) where
  abbrev cast-as : (substitute : ℕ) → ℕ × ℕ × ℕ → Res (ℕ × ℕ × ℕ)
  cast-as k (e, j, q) = got (e, k, q)

  abbrev cast-from : ℕ × ℕ × ℕ → Res (ℕ × ℕ × ℕ)
  cast-from (d, k, p) = pick_at d (y.derived d) b wall p >>= cast-as k

  codes-picks : codes_at y b wall at ≡ (pick_at y.own y.substitutes b wall at >>= cast-from)
  unfolding codes_at substitute_code type_code default_type effective_type pick_at ◌>>=◌
  codes-picks = go (code_at (one_of (length y.substitutes)) b wall at) refl
    where
      D : ℕ → ℕ
      D k = chosen y.own y.substitutes k

      second : (k : ℕ) (n : Res (ℕ × ℕ)) → ◌>>=◌ {B = ℕ × ℕ × ℕ} n (λ (j, q). got (chosen (D k) (y.derived (D k)) j, k, q))
          ≡ (◌>>=◌ {B = ℕ × ℕ × ℕ} n (λ (j, q). got (chosen (D k) (y.derived (D k)) j, j, q)) >>= cast-as k)
      second k (fault e) = refl
      second k (got x) = refl

      go : (m : Res (ℕ × ℕ)) → code_at (one_of (length y.substitutes)) b wall at ≡ m
          → codes_at y b wall at ≡ (pick_at y.own y.substitutes b wall at >>= cast-from)
      go (fault n) e = rw e refl
      go (got (k, p)) e = rw e (second k (code_at (one_of (length (y.derived (D k)))) b wall p))

-- a flag bit is sent, by the lists
sends-of : (s d : List ℕ) → sends_of (length s) (length d) ≡ sends s d
unfolding sends
sends-of [] [] = refl
sends-of [] (t ∷ d) = rw (lt-ltb 0 (suc (length d)) (omega arith))
sends-of (t ∷ s) d = rw (lt-ltb 0 (suc (length s)) (omega arith))

-- with no substitutes the own type stays
own-stays : (own : ℕ) (b : ℕ → ℕ) (wall at : ℕ) → Ensures (pick_at own [] b wall at) (λ x. x.0 ≡ own)
unfolding pick_at chosen
own-stays own b wall at =
    bind (one_in b 0 wall at) (λ x h.
    let z : x.0 ≡ 0 = omega arith in
    gives (rw z))

-- codes
module _ (l : List ℕ) (choices : Choices) (t row : ℕ) (b : ℕ → ℕ) (wall at : ℕ) (swaps : TypeList)
    (L : Listed l (cond choices.substitutes ((table_of l).substitutes row) []) swaps) (r : Picked) (h : Picks l b wall at t swaps r) where
  abbrev y : Types
  y = types_by l choices t row

  first_is : pick_is r ≡ pick_at t y.substitutes b wall at
  first_is = h.says y.substitutes L

  pub says_first : (n : Refusal) → r ≡ Err n → Says y b wall at (Err n)
  unfolding coded_is pick_is
  says_first n e = record { says = sym (codes-picks y b wall at ∙ then-fault _ (sym first_is ∙ rw e)); sent = tt }

  module _ (own k : ℕ) (p : Bits) (e : r ≡ Ok (own, k, p)) (casts : TypeList) (D : Listed l (cond choices.derived ((table_of l).derived own) []) casts)
      (x : Picked) (g : Picks l b wall p.0 own casts x) where
    picked-is : pick_at t y.substitutes b wall at ≡ got (own, k, p.0)
    unfolding pick_is
    picked-is = sym first_is ∙ rw e

    second_is : pick_is x ≡ pick_at own (y.derived own) b wall p.0
    second_is = g.says (y.derived own) D

    pub says_second : (n : Refusal) → x ≡ Err n → Says y b wall at (Err n)
    unfolding coded_is pick_is
    says_second n f = record { says = sym (codes-picks y b wall at ∙ then _ picked-is (then-fault _ (sym second_is ∙ rw f))); sent = tt }

    sent_is : (s : List ℕ) → y.substitutes ≡ s → sends s (y.derived own) ≡ sends s (y.derived t)
    unfolding sends
    sent_is [] f =
        let own_is : own ≡ t = (own-stays t b wall at).says (own, k, p.0) (rw f at picked-is) in
        rw own_is
    sent_is (a ∷ s) f = refl

    pub says-as : (effective j : ℕ) (q : Bits) (sent : Bool) → x ≡ Ok (effective, j, q) → sent ≡ sends_of swaps.count casts.count
        → Says y b wall at (Ok (record { effective = effective; substitute = k; next = q; sent = sent }))
    unfolding coded_is pick_is codes
    says-as effective j q sent f i =
        let cast_is : pick_at own (y.derived own) b wall p.0 ≡ got (effective, j, q.0) = sym second_is ∙ rw f in
        record {
          says = sym (codes-picks y b wall at ∙ then _ picked-is (then _ cast_is refl));
          sent = i ∙ rw (L.count-is, D.count-is) (sends-of y.substitutes (y.derived own)) ∙ sent_is y.substitutes refl;
        }

pub ruleset says-ways = (says_first, says_second, says-as)

-- the effective type is one of the table's
pick_known : (T own : ℕ) (types : List ℕ) (b : ℕ → ℕ) (wall at : ℕ) → own < T → ((k : ℕ) → k < length types → get_or types k 0 < T)
    → Ensures (pick_at own types b wall at) (λ x. x.0 < T)
unfolding pick_at chosen
pick_known T own types b wall at h known = bind (one_in b (length types) wall at) (λ x few. gives (go x.0 few))
  where
    go : (k : ℕ) → k ≤ length types → chosen own types k < T
    go zero few = h
    go (suc k) few = known k (omega arith)

module _ (l : List ℕ) (valid : verdict l ≡ right) (choices : Choices) (t row : ℕ) (b : ℕ → ℕ) (wall at : ℕ) (h : t < types_in l)
    (g : choices.substitutes ≡ true → row < particles_in l) where
  substitutes-known : (k : ℕ) → k < length (types_by l choices t row).substitutes → get_or (types_by l choices t row).substitutes k 0 < types_in l
  substitutes-known = go choices.substitutes g
    where
      go : (c : Bool) → (c ≡ true → row < particles_in l) → (k : ℕ) → k < length (cond c ((table_of l).substitutes row) []) → get_or (cond c ((table_of l).substitutes row) []) k 0 < types_in l
      go true f k i = (substitutes-ok l valid row (f refl)).known k i
      go false f k i = absurd (omega arith)

  derived-known : (d : ℕ) → d < types_in l → (k : ℕ) → k < length ((types_by l choices t row).derived d) → get_or ((types_by l choices t row).derived d) k 0 < types_in l
  derived-known d f = go choices.derived
    where
      go : (c : Bool) (k : ℕ) → k < length (cond c ((table_of l).derived d) []) → get_or (cond c ((table_of l).derived d) []) k 0 < types_in l
      go true k i = (derived-ok l valid d f).known k i
      go false k i = absurd (omega arith)

  pub codes-known : Ensures (codes_at (types_by l choices t row) b wall at) (λ x. x.0 < types_in l)
  codes-known =
      rw (codes-picks (types_by l choices t row) b wall at)
      (bind (pick_known (types_in l) t _ b wall at h substitutes-known) (λ (d, k, p) f.
      bind (pick_known (types_in l) d _ b wall p f (derived-known d f)) (λ (e, j, q) i. gives i)))

-- tell
module _ (x : Cast) (c : Cursor) (E : List ℕ) where
  pub tells-sent : (s : Step) (E' : List ℕ) → x.sent ≡ true → Stores kinds.cast x.effective x.substitute x.next.0 c E s E' → Tells x c E s E'
  unfolding cast_at
  tells-sent s E' e h = record { says = λ T π. rw e (h.says T π) }

  pub tells-nothing : (d : Cursor) → x.sent ≡ false → d.at ≡ x.next → d.count ≡ c.count → d.used ≡ c.used → Tells x c E (Ok d) E
  unfolding cast_at step_view outcome
  tells-nothing d e f g h = record { says = λ T π. rw e (outcome-none d π E T ∙ (λ i. outcome (given none (f i).0) record { at = f i; count = g i; used = h i } π E T)) }

pub ruleset tell-ways = (tells-sent, tells-nothing)
