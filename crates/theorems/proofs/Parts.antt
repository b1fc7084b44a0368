-- A plan after another: what stands is the two after one another. So the grammar may be read row by row.
use Prim.Native.Nat.{ℕ, ◌+◌}
use mathlib.Core.Path.{◌≡◌, refl, sym, ap, ◌∙◌}
use mathlib.Core.Bool.{Bool}
use mathlib.Core.List.{List, [], ◌++◌, append_assoc}
use native.Mathlib.Omega.{arith}
use lib.ListN.{length, length-append}
use Rattle.numbers.specs.Kind as kinds
use Rattle.model.specs.Model.{event, event_of, Plan, Nodes, ◌then◌}
use Rattle.model.specs.Model.Plan.{done, deep, item, element}
use Rattle.model.specs.Model.Nodes.{none, leaf, node}
use Rattle.model.specs.Items.{Lengths}
use Rattle.model.specs.Grammar.{opens, cast_in, Is, nothing, an_item, an_element, a_blank}
use Rattle.model.proofs.Join.{join}

module _ (mode : Lengths) (held : ℕ → Bool) where
  moved : {P : Plan} {at to : ℕ} {ns : Nodes} {w : List ℕ} → at ≡ to → Is mode held P at ns w → Is mode held P to ns w
  moved e i = rw e at i

  pub is_join : {P Q : Plan} {at : ℕ} {ns ms : Nodes} {w x : List ℕ} → Is mode held P at ns w → Is mode held Q (at + length w) ms x → Is mode held (join P Q) at (ns then ms) (w ++ x)
  unfolding join ◌then◌
  is_join nothing j = moved (omega arith) j
  is_join {x} (an_item {w} {x = y} h i) j = rw (append_assoc w y x) (an_item h (is_join i (moved (omega (arith, length-append w y)) j)))
  is_join {x} (an_element {s} {c} {w} {x = y} h d z g m i) j =
      rw (append_assoc (s ++ (c ++ w)) y x) (an_element h d z g m (is_join i (moved (omega (arith, length-append (s ++ (c ++ w)) y)) j)))
  is_join {x} (a_blank {s} {c} {x = y} w h d z u i) j =
      rw (append_assoc (s ++ (c ++ w)) y x) (a_blank w h d z u (is_join i (moved (omega (arith, length-append (s ++ (c ++ w)) y)) j)))

  pub record Split (P Q : Plan) (at : ℕ) (ks : Nodes) (z : List ℕ) : Type 0 where
    pub ns : Nodes
    pub ms : Nodes
    pub w : List ℕ
    pub x : List ℕ
    pub first : Is mode held P at ns w
    pub second : Is mode held Q (at + length w) ms x
    pub tree : ks ≡ ns then ms
    pub bits : z ≡ w ++ x

  pub is-split : (P : Plan) {Q : Plan} {at : ℕ} {ks : Nodes} {z : List ℕ} → Is mode held (join P Q) at ks z → Split P Q at ks z
  unfolding join ◌then◌
  is-split done i = record { ns = none; ms = _; w = []; x = _; first = nothing; second = moved (omega arith) i; tree = refl; bits = refl }
  is-split (item i k) {at} (an_item {v} {ts} {w} {r} h j) =
      let s = is-split (k v) j in
      record {
        ns = leaf at (event_of i v (length w)) ts s.ns;
        ms = s.ms;
        w = w ++ s.w;
        x = s.x;
        first = an_item h s.first;
        second = moved (omega (arith, length-append w s.w)) s.second;
        tree = ap (leaf at (event_of i v (length w)) ts) s.tree;
        bits = ap (λ (l : List ℕ). w ++ l) s.bits ∙ sym (append_assoc w s.w s.x);
      }
  is-split (element name y f P) {at} (an_element {t} {k} {h = l} {s = o} {c} {w} {i} {r} h d z g m j) =
      let s = is-split P j in
      let all = o ++ (c ++ w) in
      let inner = cast_in y (at + length o) t k (length c) i in
      record {
        ns = node (opens name t l at (length o)) inner s.ns;
        ms = s.ms;
        w = all ++ s.w;
        x = s.x;
        first = an_element h d z g m s.first;
        second = moved (omega (arith, length-append all s.w)) s.second;
        tree = ap (node (opens name t l at (length o)) inner) s.tree;
        bits = ap (λ (l : List ℕ). all ++ l) s.bits ∙ sym (append_assoc all s.w s.x);
      }
  is-split (element name y f P) {at} (a_blank {t} {s = o} {c} {r} w h d z u j) =
      let s = is-split P j in
      let all = o ++ (c ++ w) in
      record {
        ns = leaf at (event kinds.blank name t (length all)) [] s.ns;
        ms = s.ms;
        w = all ++ s.w;
        x = s.x;
        first = a_blank w h d z u s.first;
        second = moved (omega (arith, length-append all s.w)) s.second;
        tree = ap (leaf at (event kinds.blank name t (length all)) []) s.tree;
        bits = ap (λ (l : List ℕ). all ++ l) s.bits ∙ sym (append_assoc all s.w s.x);
      }
  -- nothing stands where nothing more may come; and nothing is a row too many
  is-split deep i = elim i [ ]

  pub done_none : {at : ℕ} {ns : Nodes} {w : List ℕ} → Is mode held done at ns w → ns ≡ none
  done_none nothing = refl

  pub no-deep : {P : Plan} {at : ℕ} {ns : Nodes} {w : List ℕ} → Is mode held P at ns w → P ≡ deep → ⊥
  no-deep nothing e = let z : ◌≡◌ {A = ℕ} 0 1 = cc in omega arith
  no-deep (an_item h j) e = let z : ◌≡◌ {A = ℕ} 0 1 = cc in omega arith
  no-deep (an_element h d z g m j) e = let y : ◌≡◌ {A = ℕ} 0 1 = cc in omega arith
  no-deep (a_blank w h d z u j) e = let y : ◌≡◌ {A = ℕ} 0 1 = cc in omega arith
