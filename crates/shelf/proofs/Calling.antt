-- The calls: an area of another size; the answer told.
use Rattle.std.proofs.Common.{◌≡◌, ℕ, ◌*◌, ◌/◌, ◌%◌, min, List, [], ◌∷◌, ◌++◌, length, replicate, refl, ap, ◌∙◌, append-nil, arith, drop_of_length-le, eq-eqb, ne_eqb}
use Rattle.buffers.specs.Bytes.{bytes_of, stored}
use Rattle.shelf.specs.Answers.{Answer}
use Rattle.shelf.specs.Shelf.{Outcome, Done, shelf_write, shelf_read}
use Rattle.shelf.specs.Calls.{back, area_of, called, write_call, read_call}

-- eleven words fill the area
stored-all : (words area area' : List ℕ) → length area ≡ 44 → length words ≡ 11 → area' ≡ stored words area → area' ≡ bytes_of words
stored-all words area area' l n g =
    g ∙ ap (λ (x : List ℕ). bytes_of words ++ x) (drop_of_length-le area {i = 4 * length words} (omega arith)) ∙ append-nil (bytes_of words)

-- the eleven words stored
pub told : (a : Answer) (entries dropped p r₁ r₂ s₁ s₂ f₁ f₂ e₁ e₂ d₁ d₂ : ℕ) (area area' : List ℕ)
    → area' ≡ stored (p ∷ r₁ ∷ r₂ ∷ s₁ ∷ s₂ ∷ f₁ ∷ f₂ ∷ e₁ ∷ e₂ ∷ d₁ ∷ d₂ ∷ []) area → length area ≡ 44 → p ≡ min a.place 4294967295
    → r₁ ≡ a.records / 4294967296 → r₂ ≡ a.records % 4294967296 → s₁ ≡ a.stream / 4294967296 → s₂ ≡ a.stream % 4294967296
    → f₁ ≡ a.file / 4294967296 → f₂ ≡ a.file % 4294967296 → e₁ ≡ entries / 4294967296 → e₂ ≡ entries % 4294967296
    → d₁ ≡ dropped / 4294967296 → d₂ ≡ dropped % 4294967296 → area' ≡ area_of a entries dropped
unfolding area_of
told a entries dropped p r₁ r₂ s₁ s₂ f₁ f₂ e₁ e₂ d₁ d₂ area area' g l hp hr₁ hr₂ hs₁ hs₂ hf₁ hf₂ he₁ he₂ hd₁ hd₂ =
    stored-all (p ∷ r₁ ∷ r₂ ∷ s₁ ∷ s₂ ∷ f₁ ∷ f₂ ∷ e₁ ∷ e₂ ∷ d₁ ∷ d₂ ∷ []) area area' l refl g
    ∙ ap bytes_of (rw (hp, hr₁, hr₂, hs₁, hs₂, hf₁, hf₂, he₁, he₂, hd₁, hd₂))

module _ (area room : ℕ) (o : Outcome) where
  other-size : (b c : List ℕ) → (area ≡ 44 → ⊥) → b ≡ replicate area 0 → c ≡ replicate room 0 → back 24 b (c ∷ []) ≡ called area room o
  unfolding called
  other-size b c n e g = simp (ne_eqb area 44 n) (rw (e, g))

  answered : (r : ℕ) (a : Answer) (b c : List ℕ) → area ≡ 44 → Done o room a c → r ≡ a.number → b ≡ area_of a 0 0 → back r b (c ∷ []) ≡ called area room o
  unfolding called
  answered r a b c n d e g =
      simp (eq-eqb area 44 n)
      (ap (λ (x : ℕ). back x b (c ∷ [])) e ∙ ap (λ (x : List ℕ). back a.number x (c ∷ [])) g ∙ ap (λ (x : Answer). back x.number (area_of x 0 0) (c ∷ [])) d.answer
      ∙ ap (λ (x : List ℕ). back o.answer.number (area_of o.answer 0 0) (x ∷ [])) d.content)

pub write-other : (s : List ℕ) (room area : ℕ) (b c : List ℕ) → (area ≡ 44 → ⊥) → b ≡ replicate area 0 → c ≡ replicate room 0 → back 24 b (c ∷ []) ≡ write_call s room area
unfolding write_call
write-other s room area = other-size area room (shelf_write s room)

pub write-told : (s : List ℕ) (room area r : ℕ) (a : Answer) (b c : List ℕ) → area ≡ 44 → Done (shelf_write s room) room a c → r ≡ a.number → b ≡ area_of a 0 0 → back r b (c ∷ []) ≡ write_call s room area
unfolding write_call
write-told s room area = answered area room (shelf_write s room)

pub read-other : (f : List ℕ) (room area : ℕ) (b c : List ℕ) → (area ≡ 44 → ⊥) → b ≡ replicate area 0 → c ≡ replicate room 0 → back 24 b (c ∷ []) ≡ read_call f room area
unfolding read_call
read-other f room area = other-size area room (shelf_read f room)

pub read_told_lem : (f : List ℕ) (room area r : ℕ) (a : Answer) (b c : List ℕ) → area ≡ 44 → Done (shelf_read f room) room a c → r ≡ a.number → b ≡ area_of a 0 0 → back r b (c ∷ []) ≡ read_call f room area
unfolding read_call
read_told_lem f room area = answered area room (shelf_read f room)
