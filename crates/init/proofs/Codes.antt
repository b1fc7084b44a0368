-- ONE SPELLING IS OF ONE MEANING, and none begins another: each part of a message is a code of which none begins another, so their sequence is.
use Prim.Native.Nat.{ℕ, zero, suc, ◌+◌, ◌-◌, ◌*◌, ◌/◌, ◌%◌, ◌≤◌, ◌<◌}
use mathlib.Core.Path.{◌≡◌, refl, sym, ap, ap₂, ◌∙◌}
use mathlib.Core.Bool.{Bool, true, false}
use mathlib.Core.List.{List, [], ◌∷◌, ◌++◌, flat_map, append-nil, append_assoc, head-eq_of_cons-eq, tail-eq_of_cons-eq}
use native.Mathlib.Omega.{arith}
use native.Mathlib.Decide.{dec_lt}
use borrow.Author.Tests.{lt-ltb, le-ltb}
use lib.ListN.{length, replicate, length-replicate}
use Rattle.init.specs.Items.{bytes8}
use Rattle.init.specs.Meaning.{Features, Meaning, Over, refers, noughts, counted, numbered, codec_bytes, schema_bytes, feature_bytes, format_bytes, spelling, spelt, Each, Byte, Small, TextIn, CodecIn, SchemaIn, FeaturesIn, FormatsIn, Within, OverIn}
use Rattle.init.specs.Meaning.Features.{plain, flagged}

-- f spells what is P so that the spelling tells where it ends
abbrev pub Code : {A : Type 0} → (A → Type 0) → (A → List ℕ) → Type 0
Code {A} P f = (a b : A) (x y : List ℕ) → P a → P b → f a ++ x ≡ f b ++ y → (a ≡ b) × (x ≡ y)

pub short8 : (v : ℕ) → v < 128 → bytes8 v ≡ v ∷ []
unfolding bytes8
short8 v h = rw (lt-ltb v 128 h)

pub long8 : (v : ℕ) → 128 ≤ v → bytes8 v ≡ (128 + v / 128) ∷ v % 128 ∷ []
unfolding bytes8
long8 v h = rw (le-ltb v 128 h)

code8 : Code Small bytes8
code8 v w x y hv hw e = elim (dec_lt v 128) [
  | yes a ↦ elim (dec_lt w 128) [
    | yes b ↦ let g : v ∷ x ≡ w ∷ y = rw (short8 v a, short8 w b) at e in (head-eq_of_cons-eq g, tail-eq_of_cons-eq g)
    | no b ↦
        let g : v ∷ x ≡ (128 + w / 128) ∷ w % 128 ∷ y = rw (short8 v a, long8 w (omega arith)) at e in
        absurd (let z = head-eq_of_cons-eq g in omega arith)
  ]
  | no a ↦ elim (dec_lt w 128) [
    | yes b ↦
        let g : (128 + v / 128) ∷ v % 128 ∷ x ≡ w ∷ y = rw (short8 w b, long8 v (omega arith)) at e in
        absurd (let z = head-eq_of_cons-eq g in omega arith)
    | no b ↦
        let g : (128 + v / 128) ∷ v % 128 ∷ x ≡ (128 + w / 128) ∷ w % 128 ∷ y = rw (long8 v (omega arith), long8 w (omega arith)) at e in
        let t = tail-eq_of_cons-eq g in
        let z = head-eq_of_cons-eq g in
        let u = head-eq_of_cons-eq t in
        (omega arith, tail-eq_of_cons-eq t)
  ]
]

-- two lists of one length come apart in one way
pub same_length : {A : Type 0} (a b x y : List A) → length a ≡ length b → a ++ x ≡ b ++ y → (a ≡ b) × (x ≡ y)
same_length [] [] x y n e = (refl, e)
same_length [] (b ∷ k) x y n e = absurd (omega arith)
same_length (a ∷ l) [] x y n e = absurd (omega arith)
same_length (a ∷ l) (b ∷ k) x y n e =
    let r = same_length l k x y (omega arith) (tail-eq_of_cons-eq e) in (ap₂ ◌∷◌ (head-eq_of_cons-eq e) r.0, r.1)

-- so many things, each spelt by a code
each-code : {A : Type 0} (P : A → Type 0) (f : A → List ℕ) → Code P f
    → (l k : List A) (x y : List ℕ) → length l ≡ length k → Each P l → Each P k → flat_map f l ++ x ≡ flat_map f k ++ y → (l ≡ k) × (x ≡ y)
unfolding flat_map
each-code P f code [] [] x y n hl hk e = (refl, e)
each-code P f code [] (b ∷ k) x y n hl hk e = absurd (omega arith)
each-code P f code (a ∷ l) [] x y n hl hk e = absurd (omega arith)
each-code P f code (a ∷ l) (b ∷ k) x y n hl hk e =
    let g = sym (append_assoc (f a) (flat_map f l) x) ∙ e ∙ append_assoc (f b) (flat_map f k) y in
    let h = code a b (flat_map f l ++ x) (flat_map f k ++ y) hl.0 hk.0 g in
    let r = each-code P f code l k x y (omega arith) hl.1 hk.1 h.1 in
    (ap₂ ◌∷◌ h.0 r.0, r.1)

numbered-code : {A : Type 0} (P : A → Type 0) (f : A → List ℕ) → Code P f → Code (λ (l : List A). Small (length l) × Each P l) (numbered f)
unfolding numbered
numbered-code P f code l k x y hl hk e =
    let g = sym (append_assoc (bytes8 (length l)) (flat_map f l) x) ∙ e ∙ append_assoc (bytes8 (length k)) (flat_map f k) y in
    let h = code8 (length l) (length k) (flat_map f l ++ x) (flat_map f k ++ y) hl.0 hk.0 g in
    each-code P f code l k x y h.0 hl.1 hk.1 h.1

counted-code : Code TextIn counted
unfolding counted
counted-code l k x y hl hk e =
    let g = sym (append_assoc (bytes8 (length l)) l x) ∙ e ∙ append_assoc (bytes8 (length k)) k y in
    let h = code8 (length l) (length k) (l ++ x) (k ++ y) hl.few hk.few g in
    same_length l k x y h.0 h.1

codec-code : Code CodecIn codec_bytes
unfolding codec_bytes
codec-code c d x y hc hd e =
    let g = sym (append_assoc (counted c.uri) (numbered bytes8 c.types) x) ∙ e ∙ append_assoc (counted d.uri) (numbered bytes8 d.types) y in
    let u = counted-code c.uri d.uri (numbered bytes8 c.types ++ x) (numbered bytes8 d.types ++ y) hc.uri hd.uri g in
    let t = numbered-code Small bytes8 code8 c.types d.types x y (hc.few, hc.types) (hd.few, hd.types) u.1 in
    ((λ i. record { uri = u.0 i; types = t.0 i }), t.1)

schema-code : Code SchemaIn schema_bytes
unfolding schema_bytes
schema-code s t x y hs ht e =
    let cs = numbered codec_bytes s.codecs in
    let ct = numbered codec_bytes t.codecs in
    let g = sym (append_assoc (counted s.uri) (counted s.hint ++ cs) x) ∙ e ∙ append_assoc (counted t.uri) (counted t.hint ++ ct) y in
    let u = counted-code s.uri t.uri (counted s.hint ++ cs ++ x) (counted t.hint ++ ct ++ y) hs.uri ht.uri g in
    let k = sym (append_assoc (counted s.hint) cs x) ∙ u.1 ∙ append_assoc (counted t.hint) ct y in
    let h = counted-code s.hint t.hint (cs ++ x) (ct ++ y) hs.hint ht.hint k in
    let c = numbered-code CodecIn codec_bytes codec-code s.codecs t.codecs x y (hs.few, hs.codecs) (ht.few, ht.codecs) h.1 in
    ((λ i. record { uri = u.0 i; hint = h.0 i; codecs = c.0 i }), c.1)

-- unit, features and what is stepped over
pub record Same (unit unit' : ℕ) (f f' : Features) (o o' : Over) (x y : List ℕ) : Type 0 where
  pub units : unit ≡ unit'
  pub features : f ≡ f'
  pub over : o ≡ o'
  pub then : x ≡ y

features-code : (unit unit' : ℕ) (f f' : Features) (o o' : Over) (x y : List ℕ) → FeaturesIn f → FeaturesIn f' → OverIn f o → OverIn f' o'
    → feature_bytes unit f o ++ x ≡ feature_bytes unit' f' o' ++ y → Same unit unit' f f' o o' x y
unfolding feature_bytes
features-code u u' plain plain o o' x y h h' k k' e =
    let z = head-eq_of_cons-eq e in
    record { units = omega arith; features = refl; over = λ i. record { first = (k.0 ∙ sym k'.0) i; rest = (k.1 ∙ sym k'.1) i }; then = tail-eq_of_cons-eq e }
features-code u u' plain (flagged n f) o o' x y h h' k k' e = absurd (let z = head-eq_of_cons-eq e in omega arith)
features-code u u' (flagged n f) plain o o' x y h h' k k' e = absurd (let z = head-eq_of_cons-eq e in omega arith)
features-code u u' (flagged n f) (flagged n' f') o o' x y h h' k k' e =
    let z = head-eq_of_cons-eq e in
    let b = (2 * f + o.first) ∷ o.rest in
    let b' = (2 * f' + o'.first) ∷ o'.rest in
    let g = sym (append_assoc (bytes8 n) b x) ∙ tail-eq_of_cons-eq e ∙ append_assoc (bytes8 n') b' y in
    let l = code8 n n' (b ++ x) (b' ++ y) h.1 h'.1 g in
    let t = same_length b b' x y (omega (arith, k.1, k'.1, l.0)) l.1 in
    let w = head-eq_of_cons-eq t.0 in
    record {
      units = omega arith;
      features = λ i. flagged (l.0 i) (flag w k.0 k'.0 i);
      over = λ i. record { first = first w k.0 k'.0 i; rest = tail-eq_of_cons-eq t.0 i };
      then = t.1;
    }
  where
    flag : 2 * f + o.first ≡ 2 * f' + o'.first → o.first ≤ 1 → o'.first ≤ 1 → f ≡ f'
    flag w a b = omega arith

    first : 2 * f + o.first ≡ 2 * f' + o'.first → o.first ≤ 1 → o'.first ≤ 1 → o.first ≡ o'.first
    first w a b = omega arith

formats-code : (r : Bool) → Code (FormatsIn r) (format_bytes r)
unfolding format_bytes
formats-code true l k x y hl hk e = same_length l k x y (head-eq_of_cons-eq e) (tail-eq_of_cons-eq e)
formats-code false l k x y hl hk e = (hl ∙ sym hk, e)

formats-alike : (r r' : Bool) → r ≡ r' → (l k x y : List ℕ) → FormatsIn r l → FormatsIn r' k → format_bytes r l ++ x ≡ format_bytes r' k ++ y → (l ≡ k) × (x ≡ y)
formats-alike r r' q l k x y hl hk e = formats-code r l k x y hl (rw (← q) at hk) (rw (← q) at e)

-- (e) with what is stepped over and what follows
pub record One (m m' : Meaning) (o o' : Over) (x y : List ℕ) : Type 0 where
  pub means : m ≡ m'
  pub over : o ≡ o'
  pub then : x ≡ y

pub spelling-one : (m m' : Meaning) (o o' : Over) (x y : List ℕ) → Within m → Within m' → OverIn m.features o → OverIn m'.features o'
    → spelling m o ++ x ≡ spelling m' o' ++ y → One m m' o o' x y
unfolding spelling
spelling-one m m' o o' x y h h' k k' e =
    let d = counted m.description in
    let d' = counted m'.description in
    let f = format_bytes (refers m.features) m.formats in
    let f' = format_bytes (refers m'.features) m'.formats in
    let s = numbered schema_bytes m.schemas in
    let s' = numbered schema_bytes m'.schemas in
    let u = feature_bytes m.unit m.features o in
    let u' = feature_bytes m'.unit m'.features o' in
    let e₁ = sym (append_assoc (bytes8 m.profile) (u ++ (s ++ (f ++ d))) x) ∙ e ∙ append_assoc (bytes8 m'.profile) (u' ++ (s' ++ (f' ++ d'))) y in
    let g₁ = code8 m.profile m'.profile (u ++ (s ++ (f ++ d)) ++ x) (u' ++ (s' ++ (f' ++ d')) ++ y) h.profile h'.profile e₁ in
    let e₂ = sym (append_assoc u (s ++ (f ++ d)) x) ∙ g₁.1 ∙ append_assoc u' (s' ++ (f' ++ d')) y in
    let g₂ = features-code m.unit m'.unit m.features m'.features o o' (s ++ (f ++ d) ++ x) (s' ++ (f' ++ d') ++ y) h.features h'.features k k' e₂ in
    let e₃ = sym (append_assoc s (f ++ d) x) ∙ g₂.then ∙ append_assoc s' (f' ++ d') y in
    let g₃ = numbered-code SchemaIn schema_bytes schema-code m.schemas m'.schemas (f ++ d ++ x) (f' ++ d' ++ y)
    (omega (arith, h.few), h.schemas) (omega (arith, h'.few), h'.schemas) e₃ in
    let e₄ = sym (append_assoc f d x) ∙ g₃.1 ∙ append_assoc f' d' y in
    let q = ap refers g₂.features in
    let g₄ = formats-alike (refers m.features) (refers m'.features) q m.formats m'.formats (d ++ x) (d' ++ y) h.formats h'.formats e₄ in
    let g₅ = counted-code m.description m'.description x y h.description h'.description g₄.1 in
    record {
      means = λ i. record { profile = g₁.0 i; unit = g₂.units i; features = g₂.features i; schemas = g₃.0 i; formats = g₄.0 i; description = g₅.0 i };
      over = g₂.over;
      then = g₅.1;
    }

-- the zeros that are spelt are something to step over
pub noughts-in : (f : Features) → FeaturesIn f → OverIn f (noughts f)
unfolding noughts
noughts-in plain h = (refl, refl)
noughts-in (flagged n f) h = (omega arith, omega (arith, h.0, length-replicate {A = ℕ} (n - 1) 0), zeros (n - 1))
  where
    zeros : (j : ℕ) → Each Byte (replicate j 0)
    zeros zero = tt
    zeros (suc j) = (omega arith, zeros j)

-- (e) one spelling is of one meaning, and no meaning's spelling begins another's
pub spelt-one : (m m' : Meaning) → Within m → Within m' → spelt m ≡ spelt m' → m ≡ m'
unfolding spelt
spelt-one m m' h h' e =
    (spelling-one m m' (noughts m.features) (noughts m'.features) [] [] h h' (noughts-in m.features h.features) (noughts-in m'.features h'.features) (ap (λ (l : List ℕ). l ++ []) e)).means

pub spelt-alone : (m m' : Meaning) (x : List ℕ) → Within m → Within m' → spelt m ++ x ≡ spelt m' → (m ≡ m') × (x ≡ [])
unfolding spelt
spelt-alone m m' x h h' e =
    let g = spelling-one m m' (noughts m.features) (noughts m'.features) x [] h h' (noughts-in m.features h.features) (noughts-in m'.features h'.features) (e ∙ sym (append-nil (spelt m'))) in
    (g.means, g.then)
