-- What is read of a message below its wall is read of the message cut at the wall.
use Prim.Native.Nat.{ℕ, ◌-◌, ◌*◌, ◌+◌, ◌≤◌}
use mathlib.Core.Path.{◌≡◌, refl, sym, ap, ◌∙◌}
use mathlib.Core.Bool.{cond}
use mathlib.Core.List.{List}
use native.Mathlib.Omega.{arith}
use native.Mathlib.Decide.{dec_lt}
use lib.Dec.{ltb, eqb}
use lib.ListN.{length, take}
use lib.Seq.{get_or-take, length-take-le}
use Rattle.numbers.specs.Refusal.{not_shortest, too_large}
use Rattle.wire.specs.Res.{got, fault, ◌>>=◌}
use Rattle.init.specs.declared.Item.{Item}
use Rattle.init.specs.Items.{Head, byte_at, second_at, number_at, head_of, head_at, rest_at, item_at, words}
use Rattle.init.specs.Items.Head.{eight, byte, nothing}
use Rattle.init.specs.Plan.{Plan}
use Rattle.init.specs.Plan.Plan.{done, item}
use Rattle.init.specs.Read.{on_item, store, read}
use Rattle.init.proofs.ItemWays.{byte-is, byte-no}

module _ (s : List ℕ) (wall : ℕ) where
  cut-byte : (at : ℕ) → byte_at (take wall s) wall at ≡ byte_at s wall at
  cut-byte at = elim (dec_lt at wall) [
    | yes h ↦ byte-is (take wall s) wall at h ∙ ap (λ (x : ℕ). got (x, at + 1)) (get_or-take wall s at 0 h) ∙ sym (byte-is s wall at h)
    | no h ↦ byte-no (take wall s) wall at (omega arith) ∙ sym (byte-no s wall at (omega arith))
  ]

  cut-second : (x at : ℕ) → second_at (take wall s) wall x at ≡ second_at s wall x at
  unfolding second_at
  cut-second x at = λ j. cut-byte at j >>= λ r. cond (ltb r.0 128) (cond (eqb x 0) (fault not_shortest) (got (x * 128 + r.0, r.1))) (fault too_large)

  cut-number : (at : ℕ) → number_at (take wall s) wall at ≡ number_at s wall at
  unfolding number_at
  cut-number at = λ j. cut-byte at j >>= λ r. cond (ltb r.0 128) (got (r.0, r.1)) (cut-second (r.0 - 128) r.1 j)

  cut-head : (h : Head) (at : ℕ) → head_at h (take wall s) wall at ≡ head_at h s wall at
  unfolding head_at
  cut-head eight at = cut-number at
  cut-head byte at = cut-byte at
  cut-head nothing at = refl

  cut-wall : (i : Item) (at : ℕ) → item_at i (take wall s) wall at ≡ item_at i s wall at
  unfolding item_at
  cut-wall i at = λ j. cut-head (head_of i) at j >>= λ r. rest_at i wall r.0 r.1

  cut_goes : (room : ℕ) (pl : Plan) (at : ℕ) (init codecs : List ℕ) → read (take wall s) wall room pl at init codecs ≡ read s wall room pl at init codecs
  unfolding read
  cut_goes room done at init codecs = refl
  cut_goes room (item i slot k) at init codecs =
      λ j. on_item (cut-wall i at j) at (λ r. store slot room at (words i r.0 r.1) init codecs (λ init' codecs'. cut_goes room (k r.0) r.2 init' codecs' j))

  module _ (h : wall ≤ length s) where
    pub cut-item : (i : Item) (at : ℕ) → item_at i (take wall s) (length (take wall s)) at ≡ item_at i s wall at
    cut-item i at = ap (λ (n : ℕ). item_at i (take wall s) n at) (length-take-le wall s h) ∙ cut-wall i at

    pub cut-read : (room : ℕ) (pl : Plan) (at : ℕ) (init codecs : List ℕ) → read (take wall s) (length (take wall s)) room pl at init codecs ≡ read s wall room pl at init codecs
    cut-read room pl at init codecs = ap (λ (n : ℕ). read (take wall s) n room pl at init codecs) (length-take-le wall s h) ∙ cut_goes room pl at init codecs
