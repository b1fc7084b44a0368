-- Each way through a head.
use Prim.Native.Nat.{ℕ, suc, ◌+◌, ◌-◌, ◌<◌, ◌≤◌}
use mathlib.Core.Path.{◌≡◌, refl, sym, ◌∙◌}
use native.Mathlib.Omega.{arith}
use Rattle.std.specs.Prelude.{Ok, Err}
use Rattle.numbers.specs.declared.refusal.Refusal.{Refusal}
use Rattle.numbers.specs.declared.refusal.Refusal.TheVariants as refusal
use Rattle.wire.specs.declared.Bits.{Bits}
use Rattle.wire.specs.declared.Number.{Number}
use Rattle.wire.proofs.Res.{then, then-fault, under-then, under-fault}
use Rattle.wire.specs.Answer.{Read, Numbered, read_is, number_is}
use Rattle.wire.specs.Number.{number5}
use Rattle.wire.proofs.ReadWays.{read-value, read-refuse, number-value, number-refuse}
use Rattle.value.specs.Code.{choice_at, code_at}
use Rattle.model.specs.Items.{length_at, head_at}
use Rattle.model.specs.Modes.{lengths_is}
use Rattle.model.specs.declared.Lengths.{Lengths}
use Rattle.model.specs.declared.Lengths.TheVariants.{Never, Optional, Always}
use Rattle.reader_parts.specs.declared.Head.TheVariants.{Bare, Sized}
use Rattle.reader_parts.specs.Heads.{Head, head_is, Heads, Measured}

-- TheLength
module _ (b : ℕ → ℕ) (wall at : ℕ) (r : Numbered) (e : number_is r ≡ number5 b wall at) where
  pub measured-refuse : (n : Refusal) → r ≡ Err n → Measured b wall at (Err n)
  unfolding head_is length_at
  measured-refuse n h = record { says = sym (then-fault _ (number-refuse e h)); within = tt }

  module _ (n : Number) (h : r ≡ Ok n) where
    past : wall < n.next.0 + n.value → Measured b wall at (Err refusal.Length)
    unfolding head_is length_at
    past k = record { says = sym (then _ (number-value e h) (under-fault _ _ k)); within = tt }

    pub measured-before : wall < n.next.0 → Measured b wall at (Err refusal.Length)
    measured-before k = past (omega arith)

    pub measured-past : n.next.0 ≤ wall → wall - n.next.0 < n.value → Measured b wall at (Err refusal.Length)
    measured-past j k = past (omega arith)

    pub measured-in : (end : Bits) → n.next.0 ≤ wall → n.value ≤ wall - n.next.0 → end.0 ≡ n.next.0 + n.value → Measured b wall at (Ok (Sized n.next end))
    unfolding head_is length_at
    measured-in end j k l = record { says = rw l (sym (then _ (number-value e h) (under-then _ (omega arith) refl))); within = omega arith }

pub ruleset measured-ways = (measured-refuse, measured-before, measured-past, measured-in)

-- by a flag
module _ (b : ℕ → ℕ) (wall at : ℕ) (r : Read) (e : read_is r ≡ choice_at b 2 wall at) where
  pub flagged-refuse : (n : Refusal) → r ≡ Err n → Heads Optional b wall at (Err n)
  unfolding head_is head_at lengths_is code_at
  flagged-refuse n h = record { says = sym (then-fault _ (read-refuse e h)); within = tt }

  module _ (v : ℕ) (next : Bits) (h : r ≡ Ok (v, next)) where
    pub flagged-off : v ≡ 0 → Heads Optional b wall at (Ok (Bare next))
    unfolding head_is head_at lengths_is code_at length_at
    flagged-off z = record { says = sym (then _ (read-value e h) (rw z)); within = tt }

    pub flagged-on : (x : Head) → (v ≡ 0 → ⊥) → Measured b wall next.0 x → Heads Optional b wall at x
    unfolding head_at lengths_is code_at length_at
    flagged-on x z m =
        let k : v ≡ suc (v - 1) = omega arith in
        record { says = m.says ∙ sym (then _ (read-value e h) (rw k)); within = m.within }

pub ruleset flagged-ways = (flagged-refuse, flagged-off, flagged-on)

-- by the length coding
module _ (b : ℕ → ℕ) (wall : ℕ) (at : Bits) (lengths : Lengths) where
  pub head_never : lengths ≡ Never → Heads lengths b wall at.0 (Ok (Bare at))
  unfolding head_is head_at lengths_is
  head_never z = record { says = rw z; within = tt }

  pub head-optional : (x : Head) → lengths ≡ Optional → Heads Optional b wall at.0 x → Heads lengths b wall at.0 x
  head-optional x z m = rw z m

  pub head-always : (x : Head) → lengths ≡ Always → Measured b wall at.0 x → Heads lengths b wall at.0 x
  unfolding head_at lengths_is
  head-always x z m = record { says = rw z m.says; within = m.within }

pub ruleset head-ways = (head_never, head-optional, head-always)
