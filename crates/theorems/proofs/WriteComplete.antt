-- WRITER COMPLETE (`is-written`): what is so by the grammar, has no Blank, and every TheLength in its shortest form, is written, as the same bits.
use Prim.Native.Nat.{ℕ, ◌+◌}
use mathlib.Core.Path.{◌≡◌, refl, sym, ap, ◌∙◌}
use mathlib.Core.Bool.{Bool, true, false, cond}
use mathlib.Core.List.{List, [], ◌∷◌, ◌++◌}
use native.Mathlib.Omega.{arith}
use lib.ListN.{length, length-append}
use Rattle.numbers.specs.Kind as kinds
use Rattle.table.specs.Valid.{once}
use Rattle.wire.specs.Number.{code_of5, code5}
use Rattle.value.specs.Code.{bits_of}
use Rattle.model.specs.Model.{event, end, event_of, Types, codes, default_type, Plan, Nodes, flag_of, tree_bits}
use Rattle.model.specs.Model.Nodes.{leaf}
use Rattle.model.specs.Items.{Lengths, flag, Length, free, long, coded, Measures, HeadIs, no_head, flag_off, flag_on, head_on, CodesAre}
use Rattle.model.specs.Grammar.{cast_in, Is, nothing, an_item, an_element, a_blank}
use Rattle.model.specs.Write.{Bare, bare, Out, wrote, as_item, flag_in, as_start, length_of, head_out, casts, element_out, write}
use Rattle.theorems.specs.Content.{word, cast_of}
use Rattle.theorems.specs.Lists.{lists, spells}
use Rattle.theorems.specs.Shortest.{flag_bits}
use Rattle.model.proofs.ItemOut.{item_out_lem, bare-event, word_back}
use Rattle.model.specs.Plain.{Plain}
use Rattle.model.proofs.Sums.{codes-none, is_sum, cast-sum}
use Rattle.model.proofs.OutLaws.{taken_then, coded-then, put_then, along_then, allowed_then, casts-then, casts-none, sealed-then}
use Rattle.theorems.proofs.Choices.{codes-out, cast-sent, cast-unsent, cast-lists, cast-spells}
use Rattle.theorems.proofs.Neat.{Neat}
use Rattle.theorems.proofs.Shortest.{Tight, cast-tight}
use Rattle.theorems.proofs.Shorter.{groups-one, flag_one}

-- a head of as many bits as the shortest one
head-out : {mode : Lengths} {h : Length} {s : List ℕ} → HeadIs mode h s → (n : ℕ) → Measures h n → (coded h ≡ true → length s ≡ flag_bits mode + length (code5 n)) → head_out mode h ≡ s
unfolding head_out bits_of
head-out no_head n m t = refl
head-out flag_off n m t = refl
head-out (flag_on {n = v} k g) n m t =
    let a = length-append (bits_of flag 1) (code_of5 k v) in
    let b : length (code_of5 k v) ≡ length (code5 v) = omega (arith, t refl, flag_one, ap (λ (x : ℕ). length (code5 x)) m) in
    rw (groups-one k v b)
head-out (head_on {n = v} k g) n m t =
    let b : length (code_of5 k v) ≡ length (code5 v) = omega (arith, t refl, ap (λ (x : ℕ). length (code5 x)) m) in
    rw (groups-one k v b)

flag_is : {mode : Lengths} {h : Length} {s : List ℕ} → HeadIs mode h s → flag_in mode (flag_of (coded h)) ≡ flag_of (coded h)
unfolding flag_in flag_of
flag_is no_head = refl
flag_is flag_off = omega arith
flag_is (flag_on k h) = omega arith
flag_is (head_on k h) = refl

length-is : (h : Length) (n : ℕ) → Measures h n → length_of (flag_of (coded h)) n ≡ h
unfolding flag_of
length-is free n m = refl
length-is (long k) n m = ap long (sym m)

-- codes that are so, with their event where there is one, are written where no type stands twice
casts-back : {y : Types} {t k : ℕ} {c : List ℕ} → CodesAre y t k c → once (default_type y k ∷ y.derived (default_type y k)) ≡ true
    → (N : List Bare) (g : ℕ → List ℕ → List Bare → Out) → casts (codes y) y (cast_of y t k ++ N) g ≡ g t c N
casts-back {y} {t} {k} {c} d o N g = go (codes y) refl
  where
    go : (u : Bool) → codes y ≡ u → casts (codes y) y (cast_of y t k ++ N) g ≡ g t c N
    go true z = ap (λ (L : List Bare). casts (codes y) y (L ++ N) g) (cast-sent y t k z) ∙ casts-then y (word kinds.cast t k) N g z refl (codes-out d o) refl
    go false z =
        let e = codes-none d z in
        ap (λ (L : List Bare). casts (codes y) y (L ++ N) g) (cast-unsent y t k z) ∙ casts-none y N g z ∙ rw (e.0, e.1)

-- no Blank inside, whether the choice's event stands there or not
plain-cast : (y : Types) (at t k n : ℕ) (ns : Nodes) → Plain (cast_in y at t k n ns) → Plain ns
unfolding cast_in
plain-cast y at t k n ns h = go (codes y) h
  where
    go : (u : Bool) → Plain (cond u (leaf at (event kinds.cast t k n) [] ns) ns) → Plain ns
    go true h = h.1
    go false h = h

module _ (mode : Lengths) (held : ℕ → Bool) where
  element-written : (name : ℕ) (g : ℕ → List Bare → List ℕ → Out) {y : Types} {t k : ℕ} {h : Length} {s c w T U : List ℕ} {N M : List Bare}
      → HeadIs mode h s → CodesAre y t k c → once (default_type y k ∷ y.derived (default_type y k)) ≡ true → held t ≡ true → Measures h (length (c ++ w))
      → (coded h ≡ true → length s ≡ flag_bits mode + length (code5 (length (c ++ w))))
      → g t N T ≡ wrote w (bare end ∷ M) U
      → element_out mode held g name y (bare (event kinds.start name (flag_of (coded h)) 0) ∷ (cast_of y t k ++ N)) T ≡ wrote (s ++ (c ++ w)) M U
  unfolding element_out
  element-written name g {h} {c} {w} {N} x d o z m l e =
      taken_then (as_start mode name) _ _ _ (λ k. record { kind = kinds.start; p = name; q = flag_is x k })
      (casts-back d o N _
      ∙ allowed_then _ z (rw (sealed-then mode (flag_of (coded h)) c e, length-is h (length (c ++ w)) m, head-out x (length (c ++ w)) m l)))

  pub is-written : {P : Plan} {at : ℕ} {ns : Nodes} {w : List ℕ} → Is mode held P at ns w → Neat P → Plain ns → Tight (flag_bits mode) ns → (M : List Bare) (U : List ℕ)
      → write mode held P (lists ns M) (spells ns U) ≡ wrote w M U
  unfolding write lists spells
  is-written nothing q p l M U = refl
  is-written (an_item {i} {v} {ts} {w} {r} h j) q p l M U =
      let e = word_back i v (length w) ts w h in
      let d : as_item i (bare (event_of i v (length w))) ≡ bare (event_of i v (length w)) = rw e (bare-event i v 0 (length w)) in
      taken_then (as_item i) _ _ _ d (rw e (coded-then _ _ (item_out_lem i (spells r U) h) (put_then w (is-written j (q v ts w h) p.1 l M U))))
  is-written (an_element {name} {t} {k} {y} {at} {h} {s} {c} {w} {i} {r} x d z g m j) q p l M U =
      let place = at + length s in
      let neat = q.0 t k c d in
      let plain = plain-cast y place t k (length c) i p.0 in
      let inner = is-written g neat.1 plain (cast-tight (flag_bits mode) y place t k (length c) i l.1) (bare end ∷ lists r M) (spells r U) in
      let sum : tree_bits (cast_in y place t k (length c) i) ≡ length (c ++ w) = omega (arith, cast-sum y place t k c i d, is_sum mode held g, length-append c w) in
      rw (cast-lists y place t k (length c) i (bare end ∷ lists r M), cast-spells y place t k (length c) i (spells r U))
      (along_then _ (element-written name _ x d neat.0 z m (rw sum at l.0) inner) (put_then (s ++ (c ++ w)) (is-written j q.1 p.1 l.2 M U)))
  is-written (a_blank w h d z u j) q p l M U = absurd (p.0 refl)
