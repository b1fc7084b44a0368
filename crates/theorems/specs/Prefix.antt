-- ONE PAYLOAD NEVER BEGINS ANOTHER (02 [10]), of `Whole.reading`: one table and one root for all the payloads of a statement, and one room, but in
-- `same-list-same-bytes`. What a host that butts payloads builds on. proofs/Prefix.antt has the theorem, `prefix`.
use Rattle.std.specs.Prelude.{ℕ, zero, suc, ◌+◌, ◌/◌, ◌<◌, ◌≤◌, ◌≡◌, length, take, drop}
use mathlib.Core.List.{List, [], ◌∷◌, ◌++◌, map, flat_map}
use Rattle.numbers.specs.Refusal.{left_over}
use Rattle.numbers.specs.Limit.{most_payload}
use Rattle.wire.specs.Bits.{bit_at}
use Rattle.value.specs.Simple.{AllBytes}
use Rattle.model.specs.Model.{Nodes, events, texts}
use Rattle.model.specs.Items.{Mode}
use Rattle.model.specs.Write.{bare}
use Rattle.model.specs.Plain.{NoBlank}
use Rattle.model.specs.Whole.{accepted, declined, reading}
use Rattle.theorems.specs.Shortest.{flag_bits, AllShortest}

-- n bits of some octets, from a place on
unfoldable pub bits_from : List ℕ → (at n : ℕ) → List ℕ
bits_from s at zero = []
bits_from s at (suc n) = bit_at s at ∷ bits_from s (at + 1) n

module _ (l : List ℕ) (party name type : ℕ) where
  -- octets that are accepted in a room, and what they are accepted as
  pub record Payload (words bytes : ℕ) : Type 0 where
    pub octets : List ℕ
    pub small : AllBytes octets
    pub mode : Mode
    pub tree : Nodes
    pub used : ℕ
    pub reads : reading l party name type octets words bytes ≡ accepted mode tree used

  -- its used bits: the mode byte, every item, every bit inside a Blank, and no padding
  abbrev pub used_bits : {words bytes : ℕ} → Payload words bytes → List ℕ
  used_bits s = bits_from s.octets 0 s.used

  -- every TheLength of its list is shortest
  abbrev pub Shortest : {words bytes : ℕ} → Payload words bytes → Type 0
  Shortest s = AllShortest (flag_bits s.mode.lengths) (events s.tree)

  module _ {words bytes : ℕ} where
    pub record Same (s t : Payload words bytes) : Type 0 where
      pub octets : s.octets ≡ t.octets
      pub mode : s.mode ≡ t.mode
      pub tree : s.tree ≡ t.tree
      pub used : s.used ≡ t.used

    -- octets r behind a payload: 17 at the payload's end tells where they begin
    pub record Rest (s : Payload words bytes) (r : List ℕ) : Type 0 where
      pub refuses : reading l party name type (s.octets ++ r) words bytes ≡ declined left_over s.used []
      pub first : take ((s.used + 7) / 8) (s.octets ++ r) ≡ s.octets
      pub second : drop ((s.used + 7) / 8) (s.octets ++ r) ≡ r

  pub record Prefix : Type 0 where
    -- 1: a payload whose used bits begin another is that other; Blanks may stand in either
    pub never-begins : {words bytes : ℕ} (s t : Payload words bytes)
        → ((i : ℕ) → i < s.used → bit_at s.octets i ≡ bit_at t.octets i) → Same s t
    -- 2: of a list without a Blank, whose lengths are shortest, there is one payload, whatever the room; the kinds are equal, so that t has no Blank either
    pub same-list-same-bytes : {words bytes words' bytes' : ℕ} (s : Payload words bytes) (t : Payload words' bytes')
        → s.mode ≡ t.mode → NoBlank (events s.tree) → map bare (events s.tree) ≡ map bare (events t.tree)
        → texts s.tree ≡ texts t.tree → Shortest s → Shortest t → s.octets ≡ t.octets
    -- 3: no payload is another with octets behind it
    pub bytes-never-begin : {words bytes : ℕ} (s t : Payload words bytes) (r : List ℕ) → t.octets ≡ s.octets ++ r → r ≡ []
    -- and payloads one behind the other come apart in one way, as octets and as used bits without padding
    pub split-once : {words bytes : ℕ} (S T : List (Payload words bytes))
        → flat_map (λ s. s.octets) S ≡ flat_map (λ s. s.octets) T → map (λ s. s.octets) S ≡ map (λ s. s.octets) T
    pub split-bits-once : {words bytes : ℕ} (S T : List (Payload words bytes))
        → flat_map used_bits S ≡ flat_map used_bits T → map (λ s. s.octets) S ≡ map (λ s. s.octets) T
    -- 4: and by reading
    pub rest-is-17 : {words bytes : ℕ} (s : Payload words bytes) (r : List ℕ)
        → 1 ≤ length r → length (s.octets ++ r) ≤ most_payload → Rest s r
