-- What must still come of a character in each state: so the states of Steps.antt read the lines of Text.antt.
use Prim.Native.Nat.{ℕ}
use mathlib.Core.Bool.{Bool, true, false}
use mathlib.Core.Path.{◌≡◌, refl, sym, ap, ◌∙◌}
use mathlib.Core.List.{List, [], ◌∷◌}
use mathlib.Core.Option.{Option, none, some}
use Rattle.utf8.specs.Text.{Range, ◌to◌, has, tail, lines, begun, open-lines, goes_on, has_control, fault_of, text_fault}
use Rattle.utf8.specs.Steps.{Row, ◌leads◌, look, rows, next, run, number_of}
use Rattle.utf8.specs.declared.State.{State}
use Rattle.utf8.specs.declared.State.TheVariants.{Start, OneLeft, TwoLeft, ThreeLeft, AfterE0, AfterED, AfterF0, AfterF4, Wrong}

-- what must still come of a character in a state; nothing can come where it is wrong
unfoldable pub left : State → Option (List Range)
left Start = some []
left OneLeft = some (tail ∷ [])
left TwoLeft = some (tail ∷ tail ∷ [])
left ThreeLeft = some (tail ∷ tail ∷ tail ∷ [])
left AfterE0 = some (0xA0 to 0xBF ∷ tail ∷ [])
left AfterED = some (0x80 to 0x9F ∷ tail ∷ [])
left AfterF0 = some (0x90 to 0xBF ∷ tail ∷ tail ∷ [])
left AfterF4 = some (0x80 to 0x8F ∷ tail ∷ tail ∷ [])
left Wrong = none

-- the lines that can go on there
unfoldable pub going : Option (List Range) → List (List Range)
going none = []
going (some wanted) = open-lines wanted

-- rows that lead where lines go on
data Tied : List Row → List (List Range) → Type 0 where
  ends : Tied [] []
  row : {r : Range} {s : State} {rest : List Range} {rs : List Row} {ls : List (List Range)} → left s ≡ some rest → Tied rs ls → Tied ((r leads s) ∷ rs) ((r ∷ rest) ∷ ls)

tied : (s : State) → Tied (rows s) (going (left s))
unfolding left rows going open-lines lines
tied Start = row refl (row refl (row refl (row refl (row refl (row refl (row refl (row refl (row refl ends))))))))
tied OneLeft = row refl ends
tied TwoLeft = row refl ends
tied ThreeLeft = row refl ends
tied AfterE0 = row refl ends
tied AfterED = row refl ends
tied AfterF0 = row refl ends
tied AfterF4 = row refl ends
tied Wrong = ends

picked : (s t : State) {o : Option (List Range)} {rest : List Range} (b : Bool) → left s ≡ some rest → left t ≡ o → left (elim b [ true ↦ s | false ↦ t ]) ≡ elim b [ true ↦ some rest | false ↦ o ]
picked s t true e f = e
picked s t false e f = f

tied-look : {rs : List Row} {ls : List (List Range)} (x : ℕ) → Tied rs ls → left (look rs x) ≡ begun ls x
unfolding look begun left
tied-look x ends = refl
tied-look x (row {r = r} {s = s} {rs = rs} e t) = picked s (look rs x) (has r x) e (tied-look x t)

-- what is left after a step is the rest of a line that went on
pub left-next : (s : State) (x : ℕ) → begun (going (left s)) x ≡ left (next s x)
unfolding next
left-next s x = sym (tied-look x (tied s))

-- the octets go on with what is left, as `goes_on` has it
goes_on_from : Option (List Range) → List ℕ → Bool
goes_on_from o l = elim o [ some wanted ↦ goes_on wanted l | none ↦ false ]

goes-cons : (o : Option (List Range)) (x : ℕ) (l : List ℕ) → goes_on_from o (x ∷ l) ≡ goes_on_from (begun (going o) x) l
unfolding goes_on_from goes_on begun going
goes-cons none x l = refl
goes-cons (some wanted) x l = refl

run-goes : (s : State) (l : List ℕ) (found : Bool) → fault_of (goes_on_from (left s) l) found ≡ number_of (run s l) found
unfolding run left fault_of goes_on_from goes_on
run-goes Start [] found = refl
run-goes OneLeft [] found = refl
run-goes TwoLeft [] found = refl
run-goes ThreeLeft [] found = refl
run-goes AfterE0 [] found = refl
run-goes AfterED [] found = refl
run-goes AfterF0 [] found = refl
run-goes AfterF4 [] found = refl
run-goes Wrong [] found = refl
run-goes s (x ∷ l) found = ap (λ (b : Bool). fault_of b found) (goes-cons (left s) x l ∙ ap (λ (o : Option (List Range)). goes_on_from o l) (left-next s x)) ∙ run-goes (next s x) l found

-- the states find what is wrong with a text
pub fault-run : (l : List ℕ) → text_fault l ≡ number_of (run Start l) (has_control l)
unfolding text_fault goes_on_from left
fault-run l = run-goes Start l (has_control l)
