-- A walk's answer as a step with the path that is to be told: by the walk itself, or by who opened the innermost element.
use Prim.Native.Nat.{ℕ, ◌+◌, ◌<◌}
use mathlib.Core.Path.{◌≡◌, refl, ap, ◌∙◌}
use mathlib.Core.List.{List, ◌∷◌}
use lib.ListN.{length, set}
use Rattle.std.specs.Prelude.{Result, Ok, Err}
use Rattle.numbers.specs.declared.refusal.Fault.{Fault}
use Rattle.wire.specs.declared.Bits.{Bits}
use Rattle.reader_parts.proofs.Laws.{outcome-go, outcome-stop}
use Rattle.reader_parts.specs.Out.{Step, step_view}
use Rattle.reader_parts.proofs.PathLaws.{back-push}
use Rattle.reader_parts.specs.Paths.{back, names_of}
use Rattle.reader_parts.specs.declared.Cursor.{Cursor}
use Rattle.reader_parts.specs.declared.Path.{Path}
use Rattle.reader.specs.declared.refusal_path.Halt.{Halt}
use Rattle.reader.specs.declared.refusal_path.Halt.TheVariants.{Untold, Told}
use Rattle.reader.specs.RefusalPath.{Walk, walks, step_of, view, Named}

-- a refusal, by what its one field is
pub err_is : {T E : Type 0} {r : Result T E} {x : E} (y : E) → r ≡ Err x → x ≡ y → r ≡ Err y
err_is y e f = e ∙ ap Err f

-- a walk that did not go on
pub record Stopped (w : Walk) : Type 0 where
  pub fault : Fault Bits
  pub refused : step_of w ≡ Err fault

pub halted : (e : Halt) → Stopped (Err e)
halted (Untold e) = record { fault = e; refused = refl }
halted (Told e k) = record { fault = e; refused = refl }

-- one that is not Ok
pub halts : (w : Walk) → ((c : Cursor) → w ≡ Ok c → ⊥) → Stopped w
halts (Ok c) z = absurd (z c refl)
halts (Err h) z = halted h

-- a leaf speaks for every path
pub leaf-view : (s : Step) (w : Walk) → w ≡ walks s → (π N E T : List ℕ) → view w π N E T ≡ step_view s π E T
leaf-view (Ok c) w g π N E T = rw g
leaf-view (Err e) w g π N E T = rw g

-- named, case by case
module _ (name : ℕ) (path : Path) (w : Walk) (N : List ℕ) where
  abbrev π : List ℕ
  π = names_of path

  pub named-go : (c : Cursor) → w ≡ Ok c → Named name π w N (Ok c) N
  named-go c g = record { says = λ o d E T E' T' h. outcome-go (Ok c) (name ∷ π) E' T' o d (name ∷ π) E T (rw g at h) c refl π }

  pub named-told : (e : Fault Bits) (k : ℕ) → w ≡ Err (Told e k) → Named name π w N (Err (Told e k)) N
  named-told e k g = record { says = λ o d E T E' T' h. outcome-stop (Err e) (back N k) E' T' o d (name ∷ π) E T (rw g at h) e refl π }

  -- N₁ are the path's names, copied
  pub named_here : (e : Fault Bits) (N₁ : List ℕ) → w ≡ Err (Untold e) → N₁ ≡ path.names → path.count < length N₁ → Named name π w N (Err (Told e (path.count + 1))) (set N₁ path.count name)
  unfolding names_of
  named_here f N₁ g e k = record {
    says = λ o d E T E' T' h.
        rw (pushed)
        (outcome-stop (Err f) (name ∷ π) E' T' o d (name ∷ π) E T (rw g at h) f refl π);
  }
    where
      pushed : back (set N₁ path.count name) (path.count + 1) ≡ name ∷ back path.names path.count
      pushed = rw e (back-push path.names path.count name (rw e at k))

pub ruleset named-ways = (named-go, named-told, named_here)

-- the names that were told, as a path
pub heard-names : (p : Path) (N : List ℕ) → p.names ≡ N → names_of p ≡ back N p.count
unfolding names_of
heard-names p N e = rw e
