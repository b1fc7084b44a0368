-- A name pushed, as the names of the path have it.
use Prim.Native.Nat.{ℕ, zero, suc, ◌+◌, ◌<◌, ◌≤◌}
use mathlib.Core.Path.{◌≡◌, refl}
use mathlib.Core.List.{List, ◌∷◌}
use native.Mathlib.Omega.{arith}
use native.Mathlib.Numerals.{add-one}
use lib.ListN.{length, set}
use lib.Seq.{get_or-set_same, get_or-set_other}
use Rattle.reader_parts.specs.declared.Path.{Path}
use Rattle.reader_parts.specs.Paths.{back, names_of, Pushed}

back-set : (l : List ℕ) (n i x : ℕ) → n ≤ i → back (set l i x) n ≡ back l n
unfolding back
back-set l zero i x h = refl
back-set l (suc n) i x h = cc (get_or-set_other l i n x 0 (λ e. omega arith), back-set l n i x (omega arith))

pub back-push : (l : List ℕ) (n x : ℕ) → n < length l → back (set l n x) (n + 1) ≡ x ∷ back l n
unfolding back
back-push l n x h = rw (add-one n, back) (cc (get_or-set_same l n x 0 h, back-set l n n x (omega arith)))

pub push-names : (p r : Path) (x : ℕ) → p.count < length p.names → r.names ≡ set p.names p.count x → r.count ≡ p.count + 1 → Pushed p x r
unfolding names_of
push-names p r x h e f =
    record {
      names = rw (e, f) (back-push p.names p.count x h);
      count = f;
    }
