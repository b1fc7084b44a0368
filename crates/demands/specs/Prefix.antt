-- ONE PAYLOAD NEVER BEGINS ANOTHER (02 [10]), over the bytes of the calls: what theorems/specs/Prefix says of readings, of what `bim_read` leaves in its
-- buffers. proofs/Prefix.antt has the theorem `prefix-by-calls`.
use Rattle.std.specs.Prelude.{ℕ, ◌+◌, ◌/◌, ◌<◌, ◌≤◌, ◌≡◌, length, take, drop}
use mathlib.Core.List.{List, [], ◌∷◌, ◌++◌, map, flat_map}
use Rattle.numbers.specs.Refusal.{left_over}
use Rattle.numbers.specs.Limit.{most_payload}
use Rattle.wire.specs.Bits.{bit_at}
use Rattle.value.specs.Simple.{AllBytes}
use Rattle.buffers.specs.Bytes.{word_from}
use Rattle.model.specs.Model.{Event}
use Rattle.model.specs.Write.{bare}
use Rattle.theorems.specs.Prefix.{bits_from}
use Rattle.call_parts.specs.Area.{area_bytes, mode_at, events_at, text_at, bits_at}
use Rattle.call_parts.specs.Calls.{back, read_call}
use Rattle.demands.specs.Demands.{refusal, NoBlankIn, ShortestIn, events_in}

module _ (t : List ℕ) (party name type : ℕ) where
  -- a payload that a call accepts, in buffers of e and x bytes, and what the call leaves
  pub record Accepted (e x : ℕ) : Type 0 where
    pub payload : List ℕ
    pub small : AllBytes payload
    pub area : List ℕ
    pub list : List ℕ
    pub text : List ℕ
    pub reads : back 0 area (list ∷ text ∷ []) ≡ read_call t party name type payload e x area_bytes

  module _ {e x : ℕ} where
    -- what the area counts: bits, events, bytes of text
    abbrev pub used : Accepted e x → ℕ
    used s = word_from s.area bits_at

    abbrev pub listed : Accepted e x → List Event
    listed s = events_in s.list 0 (word_from s.area events_at)

    abbrev pub texts : Accepted e x → List ℕ
    texts s = take (word_from s.area text_at) s.text

    abbrev pub Plain : Accepted e x → Type 0
    Plain s = NoBlankIn s.list (word_from s.area events_at)

    abbrev pub Shortest : Accepted e x → Type 0
    Shortest s = ShortestIn (word_from s.area mode_at) s.list (word_from s.area events_at)

    abbrev pub used_bits : Accepted e x → List ℕ
    used_bits s = bits_from s.payload 0 (used s)

    pub record Same (s u : Accepted e x) : Type 0 where
      pub payload : s.payload ≡ u.payload
      pub area : s.area ≡ u.area
      pub list : s.list ≡ u.list
      pub text : s.text ≡ u.text

    -- bytes r behind a payload: 17 at the payload's end tells where they begin
    pub record Rest (s : Accepted e x) (r : List ℕ) : Type 0 where
      pub refuses : read_call t party name type (s.payload ++ r) e x area_bytes ≡ refusal (e ∷ x ∷ []) left_over (used s) []
      pub first : take ((used s + 7) / 8) (s.payload ++ r) ≡ s.payload
      pub second : drop ((used s + 7) / 8) (s.payload ++ r) ≡ r

  pub record PrefixByCalls : Type 0 where
    -- 1: a payload whose used bits begin another is that other; Blanks may stand in either
    pub never-begins : {e x : ℕ} (s u : Accepted e x) → ((i : ℕ) → i < used s → bit_at s.payload i ≡ bit_at u.payload i) → Same s u
    -- 2: of a list without a Blank, whose lengths are shortest, there is one payload, whatever the buffers
    pub same-list-same-bytes : {e x e' x' : ℕ} (s : Accepted e x) (u : Accepted e' x')
        → word_from s.area mode_at ≡ word_from u.area mode_at → Plain s → map bare (listed s) ≡ map bare (listed u) → texts s ≡ texts u
        → Shortest s → Shortest u → s.payload ≡ u.payload
    -- 3: no payload is another with bytes behind it; and payloads one behind the other come apart in one way, as bytes and as used bits without padding
    pub bytes-never-begin : {e x : ℕ} (s u : Accepted e x) (r : List ℕ) → u.payload ≡ s.payload ++ r → r ≡ []
    pub split-once : {e x : ℕ} (S U : List (Accepted e x)) → flat_map (λ s. s.payload) S ≡ flat_map (λ s. s.payload) U
        → map (λ s. s.payload) S ≡ map (λ s. s.payload) U
    pub split-bits-once : {e x : ℕ} (S U : List (Accepted e x)) → flat_map used_bits S ≡ flat_map used_bits U
        → map (λ s. s.payload) S ≡ map (λ s. s.payload) U
    -- 4: and by the call
    pub rest-is-17 : {e x : ℕ} (s : Accepted e x) (r : List ℕ) → 1 ≤ length r → length (s.payload ++ r) ≤ most_payload → Rest s r
