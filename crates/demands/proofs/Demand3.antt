-- DEMAND 3 of `bim_read`, both halves.
use Prim.Native.Nat.{ℕ, ◌+◌, ◌/◌, ◌≤◌}
use mathlib.Core.Path.{◌≡◌, refl, ap, ◌∙◌}
use mathlib.Core.Bool.{Bool, true, false, cond}
use mathlib.Core.List.{List, [], ◌++◌}
use mathlib.Core.Option.{Option, none, some}
use native.Mathlib.Omega.{arith}
use lib.ListN.{length, length-append}
use Rattle.numbers.specs.Kind as kinds
use Rattle.numbers.specs.Limit.{most_names, most_word}
use Rattle.table.specs.First.Verdict.{right}
use Rattle.buffers.specs.Bytes.{words_of}
use Rattle.model.specs.Model.{event, Types, codes, Mark, Nodes, Path, Plan}
use Rattle.model.specs.Model.Nodes.{leaf}
use Rattle.model.specs.Items.{Lengths, Mode}
use Rattle.model.specs.Grammar.{cast_in, Is, nothing, an_item, an_element, a_blank}
use Rattle.model.proofs.Plain.{item-plain}
use Rattle.theorems.specs.Less.{outermost, replaced, first_bare}
use Rattle.theorems.specs.Open.{StillOpen, Excuse}
use Rattle.model.specs.Whole.{Reply, accepted, declined, outcome, texts_left, after_verdict, reading}
use Rattle.theorems.specs.Demand3 as model
use Rattle.theorems.proofs.Demand3 as model-laws
use Rattle.call_parts.specs.Area.{area_of, area_bytes, place_word}
use Rattle.call_parts.specs.Calls.{Back, table_verdict, read_bytes, events_back, read_call}
use Rattle.reads.proofs.Paths.{path-most}
use Rattle.demands.specs.Demands.{less, Pair, Reading, Reads, new, SecondAccepts, OnlyFirstAccepts}
use Rattle.demands.proofs.WholeTables.{right-whole, checked-right}
use Rattle.demands.proofs.Demand2.{tells, call-tells, is-accepted, accepts_only}

pair-words : (t t' : List ℕ) (party : ℕ) → Pair t t' party → model.Pair (words_of t) (words_of t') party
pair-words t t' party p = record {
  first_right = (right-whole t (checked-right t p.first_valid)).1;
  second_right = (right-whole t' (checked-right t' p.second_valid)).1;
  alike = p.alike;
  holds = p.holds;
}

tells-less : (e x : ℕ) (mode : Mode) (o : Option (Mark × Path)) (tree : Nodes) (used : ℕ)
    → tells e x (model.says_less mode o tree used) ≡ less e x mode o tree used
unfolding model.says_less less outcome events_back texts_left
tells-less e x mode none tree used = refl
tells-less e x mode (some (m, π)) tree used = refl

-- the codes' event is no Blank
open-past-cast : {new : ℕ → Bool} {p : ℕ} {ρ π : Path} (y : Types) (at t k n : ℕ) (i : Nodes) → StillOpen new p ρ π (cast_in y at t k n i) → StillOpen new p ρ π i
unfolding cast_in
open-past-cast {new} {p} {ρ} {π} y at t k n i = go (codes y)
  where
    go : (u : Bool) → StillOpen new p ρ π (cond u (leaf at (event kinds.cast t k n) [] i) i) → StillOpen new p ρ π i
    go true (StillOpen.here e f b lo hi) = absurd (omega arith)
    go true (StillOpen.past o) = o
    go false o = o

-- a place in an element that a tree shows as a Blank is one of the tree's
open-within : {mode : Lengths} {held : ℕ → Bool} {P : Plan} {at : ℕ} {ns : Nodes} {w : List ℕ}
    (new : ℕ → Bool) (p : ℕ) (ρ π : Path) → Is mode held P at ns w → StillOpen new p ρ π ns
    → p ≤ at + length w
open-within new p ρ π nothing o = elim o [ ]
open-within new p ρ π (an_item {i} {v} {w} {x} h j) (StillOpen.here k n b lo hi) = absurd (item-plain i v (length w) k)
open-within new p ρ π (an_item {i} {v} {w} {x} h j) (StillOpen.past o) =
    let r = open-within new p ρ π j o in omega (arith, length-append w x)
open-within new p ρ π (an_element {t} {k} {y} {at} {s} {c} {w} {x} {i} h d z g m j) (StillOpen.inside o) =
    let r = open-within new p ρ _ g (open-past-cast y (at + length s) t k (length c) i o) in
    omega (arith, length-append s c, length-append c w, length-append s (c ++ w), length-append (s ++ (c ++ w)) x)
open-within new p ρ π (an_element {s} {c} {w} {x} h d z g m j) (StillOpen.beyond o) =
    let r = open-within new p ρ π j o in omega (arith, length-append (s ++ (c ++ w)) x)
open-within new p ρ π (a_blank {s} {c} {x} w h d z u j) (StillOpen.here k n b lo hi) = omega (arith, length-append (s ++ (c ++ w)) x)
open-within new p ρ π (a_blank {s} {c} {x} w h d z u j) (StillOpen.past o) =
    let r = open-within new p ρ π j o in omega (arith, length-append (s ++ (c ++ w)) x)

word_small : (p : ℕ) → p ≤ most_word → place_word p ≡ p
word_small p h = omega arith

word-twice : (p : ℕ) → place_word (place_word p) ≡ place_word p
word-twice p = omega arith

module _ (t t' : List ℕ) (party name type : ℕ) (s : List ℕ) (e x : ℕ) (pair : Pair t t' party) where
  abbrev N : ℕ → Bool
  N = new t t' party

  pub second_accepts : (read_call t' party name type s e x area_bytes).number ≡ 0 → SecondAccepts t t' party name type s e x
  second_accepts c =
      let r = accepts_only t' party name type s e x c in
      let is = is-accepted t' party name type s e x r.reading in
      record {
        mode = r.mode;
        tree = r.tree;
        used = r.used;
        reading = r.reading;
        second = r.shows;
        first = call-tells t party name type s e x (checked-right t pair.first_valid)
            ∙ ap (tells e x) (model-laws.second_accepts (words_of t) (words_of t') party (pair-words t t' party pair) name type s (e / 4) x
            r.mode r.tree r.used is)
            ∙ tells-less e x r.mode (first_bare (outermost N [] r.tree)) (replaced N r.tree) r.used;
      }

  -- the place in the area excuses as the place itself does
  word-excuse : (mode : Mode) (tree : Nodes) (used n p : ℕ) (ρ : Path) → Reading t party name type s e x mode tree used
      → Excuse N [] tree n p ρ → Excuse N [] tree n (place_word p) ρ
  word-excuse mode tree used n p ρ r (Excuse.no_slot k) = Excuse.no_slot k
  word-excuse mode tree used n p ρ r (Excuse.no_bytes k) = Excuse.no_bytes k
  word-excuse mode tree used n p ρ r (Excuse.still_open o) =
      let i = r.is.is in
      let f = i.found in
      let below = open-within N p ρ [] f.is o in
      let next = f.stands.next in
      let within = f.within in
      let few = i.mode-byte.few in
      rw (word_small p (omega arith)) (Excuse.still_open o)

  pub only_first_accepts : (read_call t party name type s e x area_bytes).number ≡ 0
      → ((read_call t' party name type s e x area_bytes).number ≡ 0 → ⊥) → OnlyFirstAccepts t t' party name type s e x
  unfolding read_bytes after_verdict outcome events_back texts_left area_of
  only_first_accepts c z = go (reading (words_of t') party name type s (e / 4) x) refl z
    where
      R : Reads t party name type s e x
      R = accepts_only t party name type s e x c

      right' : table_verdict t' ≡ right
      right' = checked-right t' pair.second_valid

      path-short : (q : Reply) → reading (words_of t') party name type s (e / 4) x ≡ q → length (outcome q).path ≤ most_names
      path-short q y = rw (right', y) at (path-most t' party name type s e x)

      go : (q : Reply) → reading (words_of t') party name type s (e / 4) x ≡ q
          → ((read_call t' party name type s e x area_bytes).number ≡ 0 → ⊥) → OnlyFirstAccepts t t' party name type s e x
      go (accepted mode ns used) y z =
          absurd (z (ap (λ (b : Back). b.number) (call-tells t' party name type s e x right' ∙ ap (tells e x) y)))
      go (declined n p π) y z =
          let is = is-accepted t party name type s e x R.reading in
          let k = model-laws.only_first_accepts (words_of t) (words_of t') party (pair-words t t' party pair) name type s (e / 4) x
          R.mode R.tree R.used n p π is y in
          record {
            mode = R.mode;
            tree = R.tree;
            used = R.used;
            reading = R.reading;
            first = R.shows;
            number = n;
            place = place_word p;
            path = π;
            second = call-tells t' party name type s e x right' ∙ ap (tells e x) y ∙ rw (word-twice p);
            place-fits = omega arith;
            path-fits = path-short (declined n p π) y;
            excuse = word-excuse R.mode R.tree R.used n p π R.reading k;
          }
