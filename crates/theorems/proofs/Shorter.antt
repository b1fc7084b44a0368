-- SHORTER (`shorten`): whatever is so by the grammar is so too with every TheLength in its shortest form: the same events but for their bits, the
-- same texts, and no more bits. Inner lengths get shorter first, and so the values of outer ones are smaller.
use Prim.Native.Nat.{ℕ, suc, ◌+◌, ◌*◌, ◌^◌, ◌<◌, ◌≤◌}
use mathlib.Core.Path.{◌≡◌, refl, sym, ap, ap₂, ◌∙◌}
use mathlib.Core.Bool.{Bool, true, false, true≢false}
use mathlib.Core.List.{List, [], ◌∷◌, ◌++◌}
use native.Mathlib.Nat.{pow-le-pow_right}
use native.Mathlib.Omega.{arith}
use native.Mathlib.Decide.{dec_le}
use lib.ListN.{length, length-append}
use Rattle.numbers.specs.Kind as kinds
use Rattle.wire.specs.Number.{more, code_of5, code5}
use Rattle.wire.proofs.Groups.{more-shortest}
use Rattle.wire.proofs.WriteWays.{length-code_of5}
use Rattle.wire.proofs.Width.{width-pow}
use Rattle.wire.proofs.BitLaws.{length_digits}
use Rattle.value.specs.Code.{bits_of}
use Rattle.model.specs.Model.{event, end, Item, event_of, Types, Plan, Nodes, flag_of, tree_bits}
use Rattle.model.specs.Model.Plan.{item, element}
use Rattle.model.specs.Model.Nodes.{none, leaf, node}
use Rattle.model.specs.Items.{Lengths, flag, ItemIs, Length, free, long, coded, Measures, InGroups, HeadIs, no_head, flag_off, flag_on, head_on, CodesAre}
use Rattle.model.specs.Grammar.{Bits, opens, cast_in, Is, nothing, an_item, an_element, a_blank}
use Rattle.model.specs.Write.{Bare, bare}
use Rattle.model.proofs.Sums.{is_sum, cast-sum}
use Rattle.theorems.specs.Content.{cast_of}
use Rattle.theorems.specs.Lists.{lists, spells}
use Rattle.theorems.specs.Shortest.{flag_bits}
use Rattle.theorems.proofs.Choices.{cast-lists, cast-spells}
use Rattle.theorems.proofs.Shortest.{Tight, tight-cast}

-- THE SHORTEST GROUPS: they hold the number, and no fewer do
pub in-groups : (n : ℕ) → n < 2 ^ 32 → InGroups (more 7 n) n
in-groups n h = let s = more-shortest 7 n h in record { few = s.1; holds = s.0.holds }

-- at most 8 groups hold less than 2 ^ 32
pub groups-small : (k n : ℕ) → InGroups k n → n < 2 ^ 32
groups-small k n h = omega (arith, h.holds, pow-le-pow_right {n = 16} (omega arith) {i = suc k} {j = 8} (omega (arith, h.few)))

groups-least : (k n : ℕ) → InGroups k n → more 7 n ≤ k
groups-least k n h = elim (dec_le (more 7 n) k) [
  | yes l ↦ l
  | no l ↦
      let s = more-shortest 7 n (groups-small k n h) in
      absurd (omega (arith, h.holds, s.0.least, pow-le-pow_right {n = 16} (omega arith) {i = suc k} {j = more 7 n} (omega arith), pow-le-pow_right {n = 16} (omega arith) {i = 1} {j = suc k} (omega arith)))
]

length-shortest : (n : ℕ) → length (code5 n) ≡ 5 * (more 7 n + 1)
unfolding code5
length-shortest n = length-code_of5 (more 7 n) n

-- as long as the shortest, it is the shortest
pub groups-one : (k n : ℕ) → length (code_of5 k n) ≡ length (code5 n) → code_of5 k n ≡ code5 n
unfolding code5
groups-one k n e =
    let z : k ≡ more 7 n = omega (arith, e, length-code_of5 k n, length-code_of5 (more 7 n) n) in
    rw z

groups-longer : (k n m : ℕ) → InGroups k n → m ≤ n → length (code5 m) ≤ length (code_of5 k n)
groups-longer k n m h l =
    let g : InGroups k m = record { few = h.few; holds = omega (arith, h.holds) } in
    omega (arith, length-shortest m, length-code_of5 k n, groups-least k m g)

pub flag_one : length (bits_of flag 1) ≡ 1
unfolding bits_of
flag_one = length_digits _ 1 ∙ width-pow 1

-- a head over no more bits: none where there was none, else the shortest
record ShortHead (mode : Lengths) (h : Length) (s : List ℕ) (n : ℕ) : Type 0 where
  over : Length
  bits : List ℕ
  is : HeadIs mode over bits
  same : coded over ≡ coded h
  measures : Measures over n
  few : length bits ≤ length s
  tight : coded over ≡ true → length bits ≡ flag_bits mode + length (code5 n)

bare-head : {mode : Lengths} {s : List ℕ} → HeadIs mode free s → (n : ℕ) → ShortHead mode free s n
bare-head o n = record { over = free; bits = _; is = o; same = refl; measures = tt; few = omega arith; tight = λ e. absurd (true≢false (sym e)) }

short-head : {mode : Lengths} {h : Length} {s : List ℕ} → HeadIs mode h s → (m n : ℕ) → Measures h m → n ≤ m → ShortHead mode h s n
unfolding code5
short-head no_head m n e l = bare-head no_head n
short-head flag_off m n e l = bare-head flag_off n
short-head (flag_on {n = v} k g) m n e l =
    let small : n < 2 ^ 32 = omega (arith, groups-small k v g) in
    let long-was = length-append (bits_of flag 1) (code_of5 k v) in
    let long-is = length-append (bits_of flag 1) (code5 n) in
    record {
      over = long n;
      bits = bits_of flag 1 ++ code5 n;
      is = flag_on (more 7 n) (in-groups n small);
      same = refl;
      measures = refl;
      few = omega (arith, groups-longer k v n g (omega arith));
      tight = λ c. omega (arith, flag_one);
    }
short-head (head_on {n = v} k g) m n e l =
    let small : n < 2 ^ 32 = omega (arith, groups-small k v g) in
    record {
      over = long n;
      bits = code5 n;
      is = head_on (more 7 n) (in-groups n small);
      same = refl;
      measures = refl;
      few = groups-longer k v n g (omega arith);
      tight = λ c. omega arith;
    }

module _ (mode : Lengths) (held : ℕ → Bool) where
  pub record ShorterAt (P : Plan) (ns : Nodes) (w : List ℕ) (at : ℕ) : Type 0 where
    pub tree : Nodes
    pub is : Is mode held P at tree w
    pub tight : Tight (flag_bits mode) tree
    pub list : (M : List Bare) → lists tree M ≡ lists ns M
    pub text : (U : List ℕ) → spells tree U ≡ spells ns U

  -- the bits are the same at every place
  pub record Shorter (P : Plan) (ns : Nodes) (w : List ℕ) : Type 0 where
    pub bits : List ℕ
    pub few : length bits ≤ length w
    pub placed : (at : ℕ) → ShorterAt P ns bits at

  item-shorter : {i : Item} {k : ℕ → Plan} {v : ℕ} {ts w x : List ℕ} {r : Nodes} (from : ℕ) → ItemIs i v ts w → Shorter (k v) r x
      → Shorter (item i k) (leaf from (event_of i v (length w)) ts r) (w ++ x)
  unfolding lists spells
  item-shorter {i} {v} {ts} {w} {x} from h b = record {
    bits = w ++ b.bits;
    few = omega (arith, b.few, length-append w x, length-append w b.bits);
    placed = λ at.
        let q = b.placed (at + length w) in
        record {
          tree = leaf at (event_of i v (length w)) ts q.tree;
          is = an_item h q.is;
          tight = q.tight;
          list = λ M. rw (q.list M);
          text = λ U. rw (q.text U);
        };
  }

  blank-shorter : {name t k : ℕ} {y : Types} {f : ℕ → Plan} {P : Plan} {s c x : List ℕ} {r : Nodes} (from : ℕ) (w : List ℕ)
      → HeadIs mode (long (length (c ++ w))) s → CodesAre y t k c → held t ≡ false → Bits w → Shorter P r x
      → Shorter (element name y f P) (leaf from (event kinds.blank name t (length (s ++ (c ++ w)))) [] r) ((s ++ (c ++ w)) ++ x)
  unfolding lists spells
  blank-shorter {name} {t} {s} {c} {x} from w o d z u b =
      let all = s ++ (c ++ w) in
      record {
        bits = all ++ b.bits;
        few = omega (arith, b.few, length-append all x, length-append all b.bits);
        placed = λ at.
            let q = b.placed (at + length all) in
            record {
              tree = leaf at (event kinds.blank name t (length all)) [] q.tree;
              is = a_blank w o d z u q.is;
              tight = q.tight;
              list = λ M. rw (q.list M);
              text = λ U. q.text U;
            };
      }

  -- an element whose head is s, over what is inside it and before what comes behind it
  element-shorter : {name t k : ℕ} {y : Types} {f : ℕ → Plan} {P : Plan} {h : Length} {s c w x : List ℕ} {i r : Nodes} (from : ℕ)
      → CodesAre y t k c → held t ≡ true → (a : Shorter (f t) i w) → ShortHead mode h s (length (c ++ a.bits)) → Shorter P r x
      → Shorter (element name y f P) (node (opens name t h from (length s)) (cast_in y (from + length s) t k (length c) i) r) ((s ++ (c ++ w)) ++ x)
  unfolding lists spells
  element-shorter {name} {t} {k} {y} {s} {c} {w} {x} {i} {r} from d z a head b =
      let v = a.bits in
      let o = head.bits in
      let was = length-append c w in
      let now = length-append c v in
      record {
        bits = (o ++ (c ++ v)) ++ b.bits;
        few =
            let whole-was = length-append s (c ++ w) in
            let whole-now = length-append o (c ++ v) in
            omega (arith, a.few, b.few, head.few, length-append (s ++ (c ++ w)) x, length-append (o ++ (c ++ v)) b.bits);
        placed = λ at.
            let p = a.placed (at + length (o ++ c)) in
            let q = b.placed (at + length (o ++ (c ++ v))) in
            let place = at + length o in
            let sum : length (c ++ v) ≡ tree_bits (cast_in y place t k (length c) p.tree) =
            omega (arith, cast-sum y place t k c p.tree d, is_sum mode held p.is) in
            record {
              tree = node (opens name t head.over at (length o)) (cast_in y place t k (length c) p.tree) q.tree;
              is = an_element head.is d z p.is head.measures q.is;
              tight = (
                λ e. head.tight e ∙ ap (λ (n : ℕ). flag_bits mode + length (code5 n)) sum,
                tight-cast (flag_bits mode) y place t k (length c) p.tree p.tight,
                q.tight,
              );
              list = λ M.
                  ap₂ ◌∷◌ (λ j. record { kind = kinds.start; p = name; q = flag_of (head.same j) })
                  (cast-lists y place t k (length c) p.tree (bare end ∷ lists q.tree M)
                  ∙ ap (λ (R : List Bare). cast_of y t k ++ R)
                  (ap (λ (R : List Bare). lists p.tree (bare end ∷ R)) (q.list M) ∙ p.list (bare end ∷ lists r M))
                  ∙ sym (cast-lists y (from + length s) t k (length c) i (bare end ∷ lists r M)));
              text = λ U.
                  cast-spells y place t k (length c) p.tree (spells q.tree U)
                  ∙ ap (spells p.tree) (q.text U)
                  ∙ p.text (spells r U)
                  ∙ sym (cast-spells y (from + length s) t k (length c) i (spells r U));
            };
      }

  pub shorten : {P : Plan} {at : ℕ} {ns : Nodes} {w : List ℕ} → Is mode held P at ns w → Shorter P ns w
  unfolding lists spells
  shorten nothing = record {
    bits = [];
    few = omega arith;
    placed = λ at. record { tree = none; is = nothing; tight = tt; list = λ M. refl; text = λ U. refl };
  }
  shorten (an_item {at} h j) = item-shorter at h (shorten j)
  shorten (an_element {at} {c} {w} o d z g m j) =
      let a = shorten g in
      let head = short-head o (length (c ++ w)) (length (c ++ a.bits)) m (omega (arith, a.few, length-append c w, length-append c a.bits)) in
      element-shorter at d z a head (shorten j)
  shorten (a_blank {at} w o d z u j) = blank-shorter at w o d z u (shorten j)
