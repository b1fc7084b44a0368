-- The mode byte as the code finds it, and the ways to it.
use Prim.Native.Nat.{ℕ, ◌<◌, ◌≤◌}
use mathlib.Core.Path.{◌≡◌, refl, sym, ◌∙◌}
use mathlib.Core.Bool.{Bool, true, false}
use mathlib.Core.List.{List}
use native.Mathlib.Omega.{arith}
use borrow.Author.Tests.{ltb-false}
use lib.Dec.{ltb}
use lib.ListN.{length, get_or}
use Rattle.std.specs.Prelude.{Ok, Err}
use Rattle.numbers.specs.Refused.{number_of}
use Rattle.numbers.specs.declared.refusal.Refusal.{Refusal}
use Rattle.numbers.specs.declared.refusal.Refusal.TheVariants as refusal
use Rattle.numbers.specs.Limit.{most_payload}
use Rattle.numbers.specs.Mode.{always_byte, never_byte, optional_byte}
use Rattle.wire.specs.Res.{fault}
use Rattle.table.specs.Words.{substitutes_in}
use Rattle.table.specs.Rows.{table_of}
use Rattle.model.specs.Modes.{lengths_is, offers}
use Rattle.model.specs.Whole.{mode, lengths_number, mode_byte, mode_of}
use Rattle.model.specs.declared.Choices.{Choices}
use Rattle.model.specs.declared.Lengths.{Lengths}
use Rattle.model.specs.declared.Lengths.TheVariants.{Never, Optional, Always}
use Rattle.model.proofs.ModeLaws.{offers-neither}
use Rattle.model.proofs.EntryWays.{mode_is_lem, mode-other, mode-empty, mode-long, mode-byte}
use Rattle.model.specs.declared.Mode.{Mode}
use Rattle.reader.specs.Front.{found_is, Makes, Finds}

-- a mode, by how many substitutes the table has
pub found_is_lem : (l : List ℕ) (party : ℕ) (lengths : Lengths) (derived : Bool) (swaps : ℕ) (choices : Choices) → swaps ≡ substitutes_in l → choices ≡ offers (ltb 0 swaps) derived
    → Makes l party lengths derived record { lengths = lengths; choices = choices; party = party }
unfolding found_is
found_is_lem l party lengths derived swaps choices e f =
    rw f (record { says = refl; choosing = (record { none = λ h. let k = ltb-false 0 swaps h in omega arith; neither = offers-neither (ltb 0 swaps) derived }, refl) })

module _ (l : List ℕ) (party : ℕ) (s : List ℕ) where
  abbrev D : ℕ
  D = (table_of l).derivations

  refuses : (n : Refusal) → mode_of D s ≡ fault (number_of n) → Finds l party s (Err n)
  unfolding found_is
  refuses n e = record { says = sym e; choosing = tt }

  pub front-empty : length s ≡ 0 → Finds l party s (Err refusal.PayloadSize)
  front-empty h = refuses refusal.PayloadSize (mode-empty D s (omega arith))

  module _ (h : length s ≡ 0 → ⊥) where
    pub front_long : most_payload < length s → Finds l party s (Err refusal.PayloadSize)
    front_long g = refuses refusal.PayloadSize (mode-long D s (omega arith) g)

    module _ (g : length s ≤ most_payload) where
      abbrev byte : ℕ
      byte = get_or s 0 0

      found : (k : Lengths) (derived : Bool) → (derived ≡ true → 0 < D) → byte ≡ mode_byte (mode (lengths_is k) derived) → (r : Mode) → Makes l party k derived r → Finds l party s (Ok r)
      found k derived d e r m =
          record { says = m.says ∙ sym (mode-byte D s (omega arith) g ∙ mode_is_lem D (mode (lengths_is k) derived) d byte e); choosing = m.choosing }

      module _ (r : Mode) where
        pub front-never : byte ≡ never_byte → Makes l party Never false r → Finds l party s (Ok r)
        unfolding mode_byte lengths_number lengths_is
        front-never e m = found Never false (λ z. absurd (let y : ◌≡◌ {A = ℕ} 0 1 = cc in omega arith)) e r m

        pub front-optional : byte ≡ optional_byte → Makes l party Optional false r → Finds l party s (Ok r)
        unfolding mode_byte lengths_number lengths_is
        front-optional e m = found Optional false (λ z. absurd (let y : ◌≡◌ {A = ℕ} 0 1 = cc in omega arith)) e r m

        pub front-always : byte ≡ always_byte → Makes l party Always false r → Finds l party s (Ok r)
        unfolding mode_byte lengths_number lengths_is
        front-always e m = found Always false (λ z. absurd (let y : ◌≡◌ {A = ℕ} 0 1 = cc in omega arith)) e r m

        -- type codes are sent
        module _ (n : ℕ) (e : n ≡ D) (z : n ≡ 0 → ⊥) where
          pub front-never-casting : byte ≡ 0x1F → Makes l party Never true r → Finds l party s (Ok r)
          unfolding mode_byte lengths_number lengths_is
          front-never-casting k m = found Never true (λ y. omega arith) k r m

          pub front-optional-casting : byte ≡ 0x5F → Makes l party Optional true r → Finds l party s (Ok r)
          unfolding mode_byte lengths_number lengths_is
          front-optional-casting k m = found Optional true (λ y. omega arith) k r m

          pub front-always-casting : byte ≡ 0x9F → Makes l party Always true r → Finds l party s (Ok r)
          unfolding mode_byte lengths_number lengths_is
          front-always-casting k m = found Always true (λ y. omega arith) k r m

      module _ (x : byte ≡ never_byte → ⊥) (y : byte ≡ optional_byte → ⊥) (z : byte ≡ always_byte → ⊥) (n : ℕ) (e : n ≡ D) where
        pub front-none : n ≡ 0 → Finds l party s (Err refusal.ModeByte)
        front-none k = refuses refusal.ModeByte (mode-byte D s (omega arith) g ∙ mode-other D byte x y z (λ d. absurd (omega arith)))

        pub front-other : (byte ≡ 0x1F → ⊥) → (byte ≡ 0x5F → ⊥) → (byte ≡ 0x9F → ⊥) → Finds l party s (Err refusal.ModeByte)
        front-other u v w = refuses refusal.ModeByte (mode-byte D s (omega arith) g ∙ mode-other D byte x y z (λ d. (u, v, w)))

pub ruleset front_ways =
    (front-empty, front_long, front-never, front-optional, front-always, front-never-casting, front-optional-casting, front-always-casting, front-none, front-other)
