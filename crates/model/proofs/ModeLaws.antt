-- What an element has to choose from, as the code has it, is what the plan has.
use Prim.Native.Nat.{ℕ, ◌<◌}
use mathlib.Core.Path.{◌≡◌, refl, sym}
use mathlib.Core.Bool.{Bool, true, false, cond}
use mathlib.Core.List.{List, []}
use native.Mathlib.Omega.{arith}
use Rattle.table.specs.First.Verdict.{right}
use Rattle.table.specs.Valid.{verdict}
use Rattle.table.specs.Words.{particles_in}
use Rattle.table.specs.Rows.{table_of}
use Rattle.table.proofs.CastLaws.{no-substitutes}
use Rattle.model.specs.Model.{only, table_in, types_of}
use Rattle.model.specs.Modes.{offers, types_by, Choosing}
use Rattle.model.specs.declared.Choices.{Choices}

-- where nothing is offered, neither is
pub offers-neither : (substitutes derived : Bool) → (offers substitutes derived).any ≡ false → (substitutes ≡ false) × (derived ≡ false)
offers-neither substitutes derived = go substitutes refl
  where
    go : (u : Bool) → substitutes ≡ u → cond u true derived ≡ false → (substitutes ≡ false) × (derived ≡ false)
    go false e h = (e, h)
    go true e h = let z : ◌≡◌ {A = ℕ} 0 1 = cc in absurd (omega arith)

-- as the code tells them
module _ (substitutes derived : Bool) where
  pub offers-first : substitutes ≡ true → record { any = true; substitutes = substitutes; derived = derived } ≡ offers substitutes derived
  offers-first e = rw e refl

  pub offers-second : substitutes ≡ false → record { any = derived; substitutes = substitutes; derived = derived } ≡ offers substitutes derived
  offers-second e = rw e refl

pub ruleset offers-ways = (offers-first, offers-second)

module _ (l : List ℕ) (c : Choices) where
  pub types-by : verdict l ≡ right → Choosing l c → (type row : ℕ) → row < particles_in l → types_by l c type row ≡ types_of (table_in c.derived (table_of l)) type row
  types-by v h type row k = λ i. record { own = type; substitutes = go c.substitutes refl i; derived = λ t. cond c.derived ((table_of l).derived t) [] }
    where
      go : (u : Bool) → c.substitutes ≡ u → cond u ((table_of l).substitutes row) [] ≡ (table_of l).substitutes row
      go true e = refl
      go false e = sym (no-substitutes l v (h.none e) row k)

  -- the root chooses from nothing
  pub types-only : c.substitutes ≡ false → c.derived ≡ false → (type row : ℕ) → types_by l c type row ≡ only type
  types-only e f type row = rw (e, f)
