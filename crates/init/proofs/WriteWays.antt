-- Bytes one after another, and the words at an item's slot.
use Prim.Native.Nat.{ℕ, ◌+◌, ◌<◌}
use mathlib.Core.Path.{◌≡◌, refl, sym, ap, ◌∙◌}
use mathlib.Core.List.{List, [], ◌∷◌, ◌++◌}
use native.Mathlib.Numerals.{add-one}
use lib.ListN.{length, get_or, take, replicate, replicate-append-replicate}
use lib.Seq.{take-suc}
use Rattle.init.specs.declared.page.Page.{Page}
use Rattle.init.specs.Writes as page
use Rattle.init.specs.Writes.{dot, inked}
use Rattle.init.specs.Inks.{Inks}

pub inked-append : (p : page.Page) (l m : List ℕ) → inked p (l ++ m) ≡ inked (inked p l) m
unfolding inked
inked-append p [] m = refl
inked-append p (x ∷ l) m = inked-append (dot p.bytes p.at x) l m

-- bytes behind bytes
pub both : (a b c : Page) (l m : List ℕ) → Inks a l b → Inks b m c → Inks a (l ++ m) c
both a b c l m e f = record {
  same = f.same ∙ e.same;
  inks = f.inks ∙ ap (λ (x : page.Page). inked x m) e.inks ∙ sym (inked-append (page.page a.message.now a.ink) l m);
}

-- one more of a stretch, and of zeros
pub stretch-more : (a b c : Page) (s : List ℕ) (i x : ℕ) → i < length s → x ≡ get_or s i 0 → Inks a (take i s) b → Inks b (x ∷ []) c → Inks a (take (i + 1) s) c
stretch-more a b c s i x l e f g =
    let t : take (i + 1) s ≡ take i s ++ x ∷ [] =
    ap (λ (j : ℕ). take j s) (add-one i) ∙ take-suc s i 0 l ∙ ap (λ (y : ℕ). take i s ++ y ∷ []) (sym e) in
    rw t (both a b c _ _ f g)

pub zeros-more : (a b c : Page) (i : ℕ) → Inks a (replicate i 0) b → Inks b (0 ∷ []) c → Inks a (replicate (i + 1) 0) c
zeros-more a b c i f g = let t : replicate i 0 ++ 0 ∷ [] ≡ replicate {A = ℕ} (i + 1) 0 = replicate-append-replicate i 1 0 in rw (← t) (both a b c _ _ f g)

pub none_yet : (a : Page) → Inks a [] a
unfolding inked
none_yet a = record { same = refl; inks = refl }
