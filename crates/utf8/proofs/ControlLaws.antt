-- Control characters: one octet's test by its value, and the test of a list by its parts and by Controls.antt.
use Prim.Native.Nat.{ℕ, ◌<◌, ◌≤◌}
use mathlib.Core.Bool.{Bool, true, false, cond, ◌||◌}
use mathlib.Core.Path.{◌≡◌, refl, sym, subst}
use mathlib.Core.List.{List, [], ◌∷◌, ◌++◌}
use borrow.Author.Tests.{lt-ltb, le-ltb, ne_eqb, ltb-false, eqb-true}
use native.Mathlib.Omega.{arith}
use lib.Dec.{ltb, eqb}
use Rattle.utf8.specs.Controls.{Allowed, tab, line_feed, carriage_return, other, AllAllowed, none, more}
use Rattle.utf8.specs.Text.{is_control, has_control}
use Rattle.utf8.proofs.Look.{refuted}

module _ (x : ℕ) where
  pub control-past : 0x1F < x → false ≡ is_control x
  unfolding is_control
  control-past h = rw (le-ltb x 32 h)

  pub control-tab : x ≡ 9 → false ≡ is_control x
  unfolding is_control
  control-tab e = rw e

  pub control-line-feed : x ≡ 10 → false ≡ is_control x
  unfolding is_control
  control-line-feed e = rw e

  pub control-return : x ≡ 13 → false ≡ is_control x
  unfolding is_control
  control-return e = rw e

  pub control-found : x ≤ 0x1F → (x ≡ 9 → ⊥) → (x ≡ 10 → ⊥) → (x ≡ 13 → ⊥) → true ≡ is_control x
  unfolding is_control
  control-found h a b c = rw (lt-ltb x 32 (omega arith), ne_eqb x 9 a, ne_eqb x 10 b, ne_eqb x 13 c)

pub ruleset control-ways = (control-past, control-tab, control-line-feed, control-return, control-found)

-- over two parts, and over one octet at the end
pub control-append : (l m : List ℕ) → has_control (l ++ m) ≡ cond (has_control l) true (has_control m)
unfolding has_control
control-append [] m = refl
control-append (x ∷ l) m = go (is_control x) (control-append l m)
  where
    go : (b : Bool) → has_control (l ++ m) ≡ cond (has_control l) true (has_control m) → cond b true (has_control (l ++ m)) ≡ cond (cond b true (has_control l)) true (has_control m)
    go true e = refl
    go false e = e

pub cond-none : (b : Bool) → cond b true false ≡ b
cond-none true = refl
cond-none false = refl

or-cond : (b c : Bool) → (b || c) ≡ cond b true c
or-cond true c = refl
or-cond false c = refl

pub control-more : (l : List ℕ) (found : Bool) → found ≡ has_control l → (x : ℕ) (c : Bool) → c ≡ is_control x → (found || c) ≡ has_control (l ++ (x ∷ []))
unfolding has_control
control-more l found so_far x c h = rw (control-append, ← so_far, ← h, cond-none) (or-cond found c)

-- none, exactly where each octet is allowed
allowed-none : {x : ℕ} → Allowed x → is_control x ≡ false
allowed-none tab = sym (control-tab 9 refl)
allowed-none line_feed = sym (control-line-feed 10 refl)
allowed-none carriage_return = sym (control-return 13 refl)
allowed-none (other {x} h) = sym (control-past x h)

pub all-allowed : {l : List ℕ} → AllAllowed l → has_control l ≡ false
unfolding has_control
all-allowed none = refl
all-allowed (more a m) = rw (allowed-none a) (all-allowed m)

none_allowed : (x : ℕ) → is_control x ≡ false → Allowed x
unfolding is_control
none_allowed x e = go (ltb x 32) (eqb x 9) (eqb x 10) (eqb x 13) refl refl refl refl e
  where
    go : (a b c d : Bool) → ltb x 32 ≡ a → eqb x 9 ≡ b → eqb x 10 ≡ c → eqb x 13 ≡ d → cond a (cond b false (cond c false (cond d false true))) false ≡ false → Allowed x
    go false b c d p q r t e = other (ltb-false x 32 p)
    go true true c d p q r t e = subst Allowed (sym (eqb-true x 9 q)) tab
    go true false true d p q r t e = subst Allowed (sym (eqb-true x 10 r)) line_feed
    go true false false true p q r t e = subst Allowed (sym (eqb-true x 13 t)) carriage_return
    go true false false false p q r t e = refuted true refl e

pub allowed_all : (l : List ℕ) → has_control l ≡ false → AllAllowed l
unfolding has_control
allowed_all [] e = none
allowed_all (x ∷ l) e = go (is_control x) refl e (allowed_all l)
  where
    go : (b : Bool) → is_control x ≡ b → cond b true (has_control l) ≡ false → (has_control l ≡ false → AllAllowed l) → AllAllowed (x ∷ l)
    go true p e rest = refuted true refl e
    go false p e rest = more (none_allowed x p) (rest e)
