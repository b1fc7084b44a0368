-- A refusal is told by its number: no two have the same.
use Rattle.std.specs.Prelude.{ℕ, ◌≡◌, List, [], ◌∷◌, get_or}
use mathlib.Core.Path.{refl, sym, ap, ◌∙◌}
use native.Mathlib.Omega.{arith}
use Rattle.numbers.specs.declared.refusal.Refusal.{Refusal}
use Rattle.numbers.specs.declared.refusal.Refusal.TheVariants as refusal
use Rattle.numbers.specs.Refused.{number_of}

-- by their numbers, with one that stands where a number has none
in_turn : List Refusal
in_turn =
    refusal.Table ∷ refusal.Table ∷ refusal.Root ∷ refusal.PayloadSize ∷ refusal.ModeByte ∷ refusal.PastEnd ∷ refusal.Depth ∷ refusal.EventRoom ∷ refusal.TextRoom ∷ refusal.NotHeld ∷ refusal.Length ∷ refusal.ContentShort ∷ refusal.NotShortest ∷ refusal.TooLarge ∷ refusal.NoSuchCode ∷ refusal.MinusZero ∷ refusal.NotUtf8 ∷ refusal.LeftOver ∷ refusal.NoReading ∷ refusal.Blank ∷ refusal.OutsideRow ∷ refusal.PayloadRoom ∷ refusal.WriteMode ∷ refusal.TextBytes ∷ refusal.AreaSize ∷ refusal.Control ∷ refusal.Party ∷ refusal.Table ∷ refusal.ReservedBits ∷ refusal.NoSchemas ∷ refusal.ManySchemas ∷ refusal.BlockCheck ∷ refusal.BlockTurn ∷ refusal.BlockLayout ∷ refusal.AdvancedFlag ∷ []

back : (e : Refusal) → get_or in_turn (number_of e) refusal.Table ≡ e
unfolding in_turn
back refusal.Table = refl
back refusal.Root = refl
back refusal.PayloadSize = refl
back refusal.ModeByte = refl
back refusal.PastEnd = refl
back refusal.Depth = refl
back refusal.EventRoom = refl
back refusal.TextRoom = refl
back refusal.NotHeld = refl
back refusal.Length = refl
back refusal.ContentShort = refl
back refusal.NotShortest = refl
back refusal.TooLarge = refl
back refusal.NoSuchCode = refl
back refusal.MinusZero = refl
back refusal.NotUtf8 = refl
back refusal.LeftOver = refl
back refusal.NoReading = refl
back refusal.Blank = refl
back refusal.OutsideRow = refl
back refusal.PayloadRoom = refl
back refusal.WriteMode = refl
back refusal.TextBytes = refl
back refusal.AreaSize = refl
back refusal.Control = refl
back refusal.Party = refl
back refusal.ReservedBits = refl
back refusal.NoSchemas = refl
back refusal.ManySchemas = refl
back refusal.BlockCheck = refl
back refusal.BlockTurn = refl
back refusal.BlockLayout = refl
back refusal.AdvancedFlag = refl

pub number-one : {a b : Refusal} → number_of a ≡ number_of b → a ≡ b
number-one {a} {b} e = sym (back a) ∙ ap (λ (n : ℕ). get_or in_turn n refusal.Table) e ∙ back b

-- none is 0
pub number-some : (e : Refusal) → number_of e ≡ 0 → ⊥
unfolding in_turn
number-some e z =
    let k : refusal.Table ≡ e = ap (λ (n : ℕ). get_or in_turn n refusal.Table) (sym z) ∙ back e in
    let m : 1 ≡ number_of e = ap number_of k in
    omega arith
