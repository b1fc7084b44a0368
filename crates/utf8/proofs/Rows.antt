-- The first octet of a character: the rows of `Start` follow one another, so that one row at most has it.
use Prim.Native.Nat.{ℕ, suc, ◌≤◌, ◌<◌}
use mathlib.Core.Path.{◌≡◌}
use mathlib.Core.List.{List, [], ◌∷◌}
use lib.Dec.{lit≤}
use native.Mathlib.Omega.{arith}
use Rattle.utf8.specs.Rfc.{In}
use Rattle.utf8.specs.Text.{◌to◌}
use Rattle.utf8.specs.Steps.{Row, ◌leads◌, look, rows, next}
use Rattle.utf8.proofs.Look.{look-here, look-past, look-under, look_none}
use Rattle.utf8.specs.declared.State.{State}
use Rattle.utf8.specs.declared.State.TheVariants.{Start, Wrong}

-- a row stands among rows
pub data Among (row : Row) : List Row → Type 0 where
  here : {rs : List Row} → Among row (row ∷ rs)
  there : {other : Row} {rs : List Row} → Among row rs → Among row (other ∷ rs)

pub ruleset among = (here, there)

-- rows whose ranges follow one another, from k on and below m
data Ascend : ℕ → ℕ → List Row → Type 0 where
  ends : {k : ℕ} → Ascend k k []
  goes : {k m lo hi : ℕ} {s : State} {rs : List Row} → k ≤ lo → lo ≤ hi → Ascend (suc hi) m rs → Ascend k m ((lo to hi leads s) ∷ rs)

ascend-le : {k m : ℕ} {rs : List Row} → Ascend k m rs → k ≤ m
ascend-le ends = omega arith
ascend-le (goes l h a) = omega (arith, ascend-le a)

among-from : {k m lo hi : ℕ} {s : State} {rs : List Row} → Ascend k m rs → Among (lo to hi leads s) rs → k ≤ lo
among-from {lo = lo} {hi = hi} {s = s} (ends {k = k}) x5 = elim x5 [ ]
among-from (goes l h a) here = l
among-from (goes l h a) (there i) = omega (arith, among-from a i)

look-among : {k m lo hi x : ℕ} {s : State} {rs : List Row} → Ascend k m rs → Among (lo to hi leads s) rs → In lo hi x → s ≡ look rs x
look-among {lo = lo} {hi = hi} {s = s} (ends {k = k}) x13 w = elim x13 [ ]
look-among (goes l h a) here w = look-here _ _ _ _ _ w.0 w.1
look-among (goes l h a) (there i) w = look-past _ _ _ _ _ _ (look-among a i w) (omega (arith, among-from a i))

look-before : {k m : ℕ} {rs : List Row} (x : ℕ) → Ascend k m rs → x < k → Wrong ≡ look rs x
look-before x ends w = look_none x
look-before x (goes l h a) w = look-under _ _ _ _ _ _ (look-before x a (omega arith)) (omega arith)

look-after : {k m : ℕ} {rs : List Row} (x : ℕ) → Ascend k m rs → m ≤ x → Wrong ≡ look rs x
look-after x ends w = look_none x
look-after x (goes l h a) w = look-past _ _ _ _ _ _ (look-after x a w) (omega (arith, ascend-le a))

ruleset ascending = (ends, goes, lit≤, tt)

start-ascends : Ascend 0 0xF5 (rows Start)
unfolding rows
start-ascends = search ascending depth 20

-- an octet at the start of a character: in the range of a row, between the first two rows, and past the last
pub start-among : {lo hi x : ℕ} {s : State} → Among (lo to hi leads s) (rows Start) → In lo hi x → s ≡ next Start x
unfolding next
start-among = look-among start-ascends

pub start_between : (x : ℕ) → In 0x80 0xC1 x → Wrong ≡ next Start x
unfolding next rows
start_between x h = look-past _ _ _ _ _ _ (look-before {k = 0xC2} {m = 0xF5} x (search ascending depth 20) (omega arith)) (omega arith)

pub start-past : (x : ℕ) → 0xF4 < x → Wrong ≡ next Start x
unfolding next
start-past x h = look-after x start-ascends h
