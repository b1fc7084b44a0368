-- An octet in a range and outside it: laws of `has`, and of `look` at its first row.
use Prim.Native.Nat.{ℕ, ◌≤◌, ◌<◌}
use mathlib.Core.Bool.{Bool, true, false}
use mathlib.Core.Path.{◌≡◌, refl}
use mathlib.Core.List.{List, [], ◌∷◌}
use borrow.Author.Tests.{le-leb, lt-leb}
use native.Mathlib.Decide.{dec_le}
use native.Mathlib.Omega.{arith}
use Rattle.utf8.specs.Rfc.{In}
use Rattle.utf8.specs.Text.{◌to◌, has}
use Rattle.utf8.specs.Steps.{Row, ◌leads◌, look}
use Rattle.utf8.specs.declared.State.{State}
use Rattle.utf8.specs.declared.State.TheVariants.{Wrong}

pub refuted : {A : Type 0} (b : Bool) → b ≡ true → b ≡ false → A
refuted b e f = let z : ◌≡◌ {A = ℕ} 0 1 = cc in absurd (omega arith)

module _ (lo hi x : ℕ) where
  pub has_in : In lo hi x → has (lo to hi) x ≡ true
  unfolding has
  has_in h = rw (le-leb lo x h.0, has) (le-leb x hi h.1)

  pub has-under : x < lo → has (lo to hi) x ≡ false
  unfolding has
  has-under h = rw (lt-leb lo x h, has)

  pub has-past : hi < x → has (lo to hi) x ≡ false
  unfolding has
  has-past h = elim (dec_le lo x) [ yes l ↦ rw (le-leb lo x l, has) (lt-leb x hi h) | no l ↦ has-under (omega arith) ]

  pub in-has : has (lo to hi) x ≡ true → In lo hi x
  in-has e = elim (dec_le lo x) [
    | yes l ↦ elim (dec_le x hi) [ yes h ↦ (l, h) | no h ↦ refuted (has (lo to hi) x) e (has-past (omega arith)) ]
    | no l ↦ refuted (has (lo to hi) x) e (has-under (omega arith))
  ]

  module _ (s : State) (rs : List Row) where
    pub look-here : lo ≤ x → x ≤ hi → s ≡ look ((lo to hi leads s) ∷ rs) x
    unfolding look
    look-here l h = rw (has_in (l, h), look)

    module _ (t : State) (e : s ≡ look rs x) where
      pub look-past : hi < x → s ≡ look ((lo to hi leads t) ∷ rs) x
      unfolding look
      look-past h = rw (has-past h, look) e

      pub look-under : x < lo → s ≡ look ((lo to hi leads t) ∷ rs) x
      unfolding look
      look-under h = rw (has-under h, look) e

pub look_none : (x : ℕ) → Wrong ≡ look [] x
unfolding look
look_none x = refl

pub ruleset look_ways = (look-here, look-past, look-under, look_none)
