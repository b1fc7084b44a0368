-- Laws of a reading octet by octet: over one octet at either end, over two parts, and for a loop.
use Prim.Native.Nat.{ℕ}
use mathlib.Core.Bool.{Bool}
use mathlib.Core.Path.{◌≡◌, refl, ◌∙◌}
use mathlib.Core.List.{List, [], ◌∷◌, ◌++◌}
use Rattle.utf8.specs.Text.{has_control, text_fault}
use Rattle.utf8.specs.Steps.{look, rows, next, run, number_of}
use Rattle.utf8.proofs.Left.{fault-run}
use Rattle.utf8.specs.declared.State.{State}
use Rattle.utf8.specs.declared.State.TheVariants.{Start, Wrong}

pub run-nil : (s : State) → run s [] ≡ s
unfolding run
run-nil s = refl

pub run-cons : (s : State) (x : ℕ) (l : List ℕ) → run s (x ∷ l) ≡ run (next s x) l
unfolding run
run-cons s x l = refl

pub run-append : (s : State) (l m : List ℕ) → run s (l ++ m) ≡ run (run s l) m
unfolding run
run-append s [] m = refl
run-append s (x ∷ l) m = run-append (next s x) l m

pub run-snoc : (s : State) (l : List ℕ) (x : ℕ) → run s (l ++ (x ∷ [])) ≡ next (run s l) x
run-snoc s l x = run-append s l (x ∷ []) ∙ run-cons (run s l) x [] ∙ run-nil (next (run s l) x)

-- what is wrong stays wrong
pub run-wrong : (l : List ℕ) → run Wrong l ≡ Wrong
unfolding run next rows look
run-wrong [] = refl
run-wrong (x ∷ l) = run-wrong l

-- for a loop: s is the state after the octets l
module _ (l : List ℕ) (s : State) (so_far : s ≡ run Start l) where
  pub run_more : (x : ℕ) (r : State) → r ≡ next s x → r ≡ run Start (l ++ (x ∷ []))
  run_more x r e = rw (run-snoc, ← so_far) e

  pub run-fault : (found : Bool) → found ≡ has_control l → (n : ℕ) → n ≡ number_of s found → n ≡ text_fault l
  run-fault found f n e = rw (fault-run, ← so_far, ← f) e
