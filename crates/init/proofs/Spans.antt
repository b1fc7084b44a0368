-- Where a list stands in another: from a place up to a place.
use Prim.Native.Nat.{ℕ, zero, suc, ◌+◌, ◌≤◌, ◌<◌}
use mathlib.Core.Path.{◌≡◌, refl, sym, ap, ◌∙◌}
use mathlib.Core.List.{List, [], ◌∷◌, ◌++◌, append_assoc, append-nil}
use native.Mathlib.Omega.{arith}
use native.Mathlib.Numerals.{add-one}
use lib.ListN.{length, get_or, take, drop, length-append, length-drop, take-append-drop, drop_of_length-le}
use lib.Seq.{drop-cons, drop-drop, get_or-drop, take-append_seam, drop-append_seam, length-take-le}
use Rattle.init.specs.Meaning.{Each}
use Rattle.init.specs.Says.{Stretch}

pub record Span (s : List ℕ) (at : ℕ) (b : List ℕ) (q : ℕ) : Type 0 where
  pub stands : drop at s ≡ b ++ drop q s
  pub ends : q ≡ at + length b

module _ (s : List ℕ) where
  pub span_none : (at q : ℕ) → Span s at [] q → q ≡ at
  span_none at q h = omega (arith, h.ends)

  pub no_span : (at : ℕ) → Span s at [] at
  no_span at = record { stands = refl; ends = omega arith }

  pub span-join : (at : ℕ) (b : List ℕ) (q : ℕ) (c : List ℕ) (r : ℕ) → Span s at b q → Span s q c r → Span s at (b ++ c) r
  span-join at b q c r h k = record {
    stands = h.stands ∙ ap (λ (x : List ℕ). b ++ x) k.stands ∙ sym (append_assoc b c (drop r s));
    ends = omega (arith, h.ends, k.ends, length-append b c);
  }

  span-after : (at : ℕ) (b c : List ℕ) (r : ℕ) → Span s at (b ++ c) r → drop (at + length b) s ≡ c ++ drop r s
  span-after at b c r h =
      sym (drop-drop (length b) at s)
      ∙ ap (λ (x : List ℕ). drop (length b) x) (h.stands ∙ append_assoc b c (drop r s))
      ∙ drop-append_seam b (c ++ drop r s)

  pub span_left : (at : ℕ) (b c : List ℕ) (r : ℕ) → Span s at (b ++ c) r → Span s at b (at + length b)
  span_left at b c r h = record {
    stands = h.stands ∙ append_assoc b c (drop r s) ∙ ap (λ (x : List ℕ). b ++ x) (sym (span-after at b c r h));
    ends = refl;
  }

  pub span_right : (at : ℕ) (b c : List ℕ) (r : ℕ) → Span s at (b ++ c) r → Span s (at + length b) c r
  span_right at b c r h = record { stands = span-after at b c r h; ends = omega (arith, h.ends, length-append b c) }

  pub span-one : (at : ℕ) → at < length s → Span s at (get_or s at 0 ∷ []) (at + 1)
  span-one at h = record { stands = rw (add-one at) (drop-cons s at 0 h); ends = refl }

  pub span-take : (p n : ℕ) → p + n ≤ length s → (length (take n (drop p s)) ≡ n) × Span s p (take n (drop p s)) (p + n)
  span-take p n h =
      let e : length (take n (drop p s)) ≡ n = length-take-le n (drop p s) (omega (arith, length-drop p s)) in
      (e, record { stands = sym (take-append-drop n (drop p s)) ∙ ap (λ (x : List ℕ). take n (drop p s) ++ x) (drop-drop n p s); ends = omega arith })

  pub span-in : (at x : ℕ) (b : List ℕ) (q : ℕ) → Span s at (x ∷ b) q → at < length s
  span-in at x b q h =
      let e = ap length h.stands in omega (arith, length-drop at s)

  pub span_head : (at x : ℕ) (b : List ℕ) (q : ℕ) → Span s at (x ∷ b) q → get_or s at 0 ≡ x
  span_head at x b q h =
      let e : at + 0 ≡ at = omega arith in
      ap (λ (i : ℕ). get_or s i 0) (sym e) ∙ sym (get_or-drop at s 0 0) ∙ ap (λ (l : List ℕ). get_or l 0 0) h.stands

  pub span_tail : (at x : ℕ) (b : List ℕ) (q : ℕ) → Span s at (x ∷ b) q → Span s (at + 1) b q
  span_tail at x b q h = span_right at (x ∷ []) b q h

  pub span-stretch : (p : ℕ) (c : List ℕ) (q : ℕ) → Span s p c q → q ≤ length s → Stretch s p (length c) c
  span-stretch p c q h k = record {
    counts = refl;
    lies = omega (arith, h.ends);
    stands = ap (λ (l : List ℕ). take (length c) l) h.stands ∙ take-append_seam c (drop q s);
  }

  pub span-is : (at : ℕ) (b c : List ℕ) (q : ℕ) → b ≡ c → Span s at b q → Span s at c q
  span-is at b c q e h = rw e at h

  -- the first words from a place on, as the writer reads them
  pub span-word : (at : ℕ) → at + 1 ≤ length s → Span s at (get_or s (at + 0) 0 ∷ []) (at + 1)
  span-word at h = let e : at + 0 ≡ at = omega arith in rw e (span-one at (omega arith))

  pub span-words : (at : ℕ) → at + 2 ≤ length s → Span s at (get_or s (at + 0) 0 ∷ get_or s (at + 1) 0 ∷ []) (at + 2)
  span-words at h =
      let e : at + 0 ≡ at = omega arith in
      let d : at + 2 ≡ at + 1 + 1 = omega arith in
      rw (e, d) (span-join at (get_or s at 0 ∷ []) (at + 1) (get_or s (at + 1) 0 ∷ []) (at + 1 + 1) (span-one at (omega arith)) (span-one (at + 1) (omega arith)))

  -- what stands up to the end is all
  pub span-all : (b : List ℕ) (q : ℕ) → Span s 0 b q → length s ≤ q → (s ≡ b) × (q ≡ length s)
  span-all b q h k =
      let e : s ≡ b = h.stands ∙ ap (λ (x : List ℕ). b ++ x) (drop_of_length-le s k) ∙ append-nil b in
      let n = ap length e in (e, omega (arith, h.ends))

-- every one of a part is as every one of the whole
pub each_take : {A : Type 0} (P : A → Type 0) (n : ℕ) (l : List A) → Each P l → Each P (take n l)
each_take P zero l h = tt
each_take P (suc n) [] h = tt
each_take P (suc n) (a ∷ l) h = (h.0, each_take P n l h.1)

pub each-drop : {A : Type 0} (P : A → Type 0) (n : ℕ) (l : List A) → Each P l → Each P (drop n l)
each-drop P zero l h = h
each-drop P (suc n) [] h = tt
each-drop P (suc n) (a ∷ l) h = each-drop P n l h.1

-- the words of a codec behind others, by the counts that its items have
pub codec-words : (codecs uri types rest : List ℕ) (place v n : ℕ) → length uri ≡ v → length types ≡ n
    → codecs ++ (place ∷ v ∷ []) ++ (n ∷ []) ++ types ++ rest ≡ codecs ++ (place ∷ length uri ∷ length types ∷ (types ++ rest))
codec-words codecs uri types rest place v n l c = rw (← l, ← c) (simp append_assoc)
