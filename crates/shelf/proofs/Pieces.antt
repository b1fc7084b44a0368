-- Every kept record is a piece of one stretch.
use Rattle.std.proofs.Common.{◌≡◌, ℕ, zero, suc, ◌+◌, ◌-◌, Bool, true, false, cond, eqb, ltb, leb, List, [], ◌∷◌, ◌++◌, length, sym, refl, ap, arith, leb-true}
use Rattle.shelf.specs.Stream.{byte_at, length_at, next}
use Rattle.shelf.specs.Block.{bytes_from}
use Rattle.shelf.specs.Judge.{used_at, first_at}
use Rattle.shelf.specs.Salvage.{Stretch, stretches}
use Rattle.shelf.specs.Saved.{Each, Among, records_by, records_in, data_of, whole_by, whole_records, PieceOf, Piece, NothingElse}
use Rattle.shelf.proofs.Bytes.{bytes-long}
use Rattle.shelf.proofs.Laid.{Laid, all_laid}
use Rattle.shelf.proofs.Through.{all_whole}

each_append : {A : Type 0} {P : A → Type 0} {xs ys : List A} → Each A P xs → Each A P ys → Each A P (xs ++ ys)
each_append Each.none q = q
each_append (Each.one p r) q = Each.one p (each_append r q)

pub each-so : {A : Type 0} {P Q : A → Type 0} → ((x : A) → P x → Q x) → {xs : List A} → Each A P xs → Each A Q xs
each-so f Each.none = Each.none
each-so f (Each.one {x = x} p r) = Each.one (f x p) (each-so f r)

-- records read in a list are pieces of it
pieces-by : (g : ℕ) (d : List ℕ) (p : ℕ) → Each (List ℕ) (PieceOf d) (records_by g (byte_at d) (length d) p)
unfolding records_by
pieces-by zero d p = Each.none
pieces-by (suc g) d p = by (ltb (p + 1) (length d)) (leb (next (byte_at d) p) (length d)) refl (pieces-by g d (next (byte_at d) p))
  where
    by : (t u : Bool) → leb (next (byte_at d) p) (length d) ≡ u → Each (List ℕ) (PieceOf d) (records_by g (byte_at d) (length d) (next (byte_at d) p))
        → Each (List ℕ) (PieceOf d) (cond t (cond u (bytes_from (byte_at d) p (6 + length_at (byte_at d) p) ∷ records_by g (byte_at d) (length d) (next (byte_at d) p)) []) [])
    by false u e r = Each.none
    by true false e r = Each.none
    by true true e r =
        let n = bytes-long (byte_at d) p (6 + length_at (byte_at d) p) in
        let l = leb-true (next (byte_at d) p) (length d) e in
        Each.one {x = bytes_from (byte_at d) p (6 + length_at (byte_at d) p)} (record { place = p; inside = omega arith; bytes = ap (bytes_from (byte_at d) p) (sym n) }) r

whole-pieces : (k : ℕ) (f : List ℕ) (i : ℕ) (d : List ℕ) (at : ℕ) → Each (List ℕ) (PieceOf d) (whole_by k f i d at)
unfolding whole_by
whole-pieces zero f i d at = Each.none
whole-pieces (suc k) f i d at = by (eqb (first_at f i) 65535) (whole-pieces k f (i + 1) d (at + used_at f i))
  where
    by : (t : Bool) → Each (List ℕ) (PieceOf d) (whole_by k f (i + 1) d (at + used_at f i)) → Each (List ℕ) (PieceOf d) (cond t (whole_by k f (i + 1) d (at + used_at f i)) (records_in d (at + first_at f i)))
    by true r = r
    by false r = pieces-by (length d) d (at + first_at f i)

all-pieces : (f : List ℕ) {ss : List Stretch} → Each Stretch (Laid f) ss → ((s : Stretch) → Among Stretch s ss → Among Stretch s (stretches f)) → Each (List ℕ) (Piece f) (whole_records f ss)
unfolding whole_records
all-pieces f Each.none in-it = Each.none
all-pieces f (Each.one {x = s} {xs = ss} l ls) in-it =
    let r = l.run in
    each_append
    (each-so (λ (x : List ℕ) (p : PieceOf (data_of f s) x). record { of = s; stretch = in-it s Among.here; consecutive = record { within = r.within; fine = r.fine; numbers = r.follows }; piece = p })
    (whole-pieces (s.last - s.first) f s.first (data_of f s) 0))
    (all-pieces f ls (λ t a. in-it t (Among.there a)))

-- (a)
pub nothing-else : NothingElse
nothing-else f = rw (all_whole f).1 (all-pieces f (all_laid f) (λ s a. a))
