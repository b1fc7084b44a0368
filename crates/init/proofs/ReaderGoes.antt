-- (a) THE READER, given the spelling of a meaning and room, accepts it, whatever is stepped over.
use Prim.Native.Nat.{ℕ, ◌+◌, ◌-◌, ◌*◌, ◌/◌, ◌%◌, ◌≤◌}
use mathlib.Core.Path.{◌≡◌, refl, sym, ap, ap₂, ◌∙◌}
use mathlib.Core.Bool.{Bool, true, false, cond}
use mathlib.Core.List.{List, [], ◌∷◌, ◌++◌, flat_map, append-nil, append_assoc}
use native.Mathlib.Omega.{arith}
use native.Mathlib.Decide.{dec_lt}
use borrow.Author.Tests.{lt-ltb, le-ltb, eq-eqb, ne_eqb, le-leb}
use lib.Dec.{eqb}
use lib.ListN.{length, set, replicate, length-append}
use lib.Seq.{sets, drop-length}
use Rattle.numbers.specs.Refusal.{accepted, no_such_code}
use Rattle.numbers.specs.Limit.{most_message, init_words, most_schemas, most_unit}
use Rattle.wire.specs.Res.{got, ◌>>=◌}
use Rattle.init.specs.declared.Item.{Item}
use Rattle.init.specs.declared.Item.TheVariants.{Number, UnitByte, Length, Flags, Schemas, Uri, Text, Formats, NoFlags, NoFormats}
use Rattle.init.specs.declared.Slot.TheVariants.{Init, Codecs}
use Rattle.init.specs.Items.{Head, second_at, number_at, head_of, head_at, before, body, after, item_at, two, one, other, laid, words, bytes8, head_bytes}
use Rattle.init.specs.Items.Head.{eight, byte, nothing}
use Rattle.init.specs.Plan.{Plan, types as types_plan, codecs as codecs_plan, schemas as schemas_plan, formats as formats_plan, features as features_plan, description as description_plan, listed, plan}
use Rattle.init.specs.Plan.Plan.{done, item}
use Rattle.init.specs.Read.{on_item, store, read, wall_of, ended, init_read}
use Rattle.init.specs.Read.Reading.{given}
use Rattle.init.specs.Writes.{most_of}
use Rattle.init.specs.Meaning.{Codec, Schema, Features, Meaning, Over, codec_words, schema_words, refers, counted, numbered, codec_bytes, schema_bytes, feature_bytes, format_bytes, spelling, Each, Small, CodecIn, SchemaIn, FeaturesIn, FormatsIn, Within, OverIn}
use Rattle.init.specs.Meaning.Features.{plain, flagged}
use Rattle.init.proofs.ItemWays.{byte-is}
use Rattle.init.proofs.Found.{passes}
use Rattle.init.proofs.Codes.{short8, long8}
use Rattle.init.proofs.Spans.{Span, span_none, span_left, span_right, span_head, span_tail, span-is, codec-words}

-- what is good of a number is judged so
some_good : (v : ℕ) → 1 ≤ v → cond (eqb v 0) no_such_code accepted ≡ accepted
some_good v h = rw (ne_eqb v 0 (λ z. omega arith))

unit-good : (v : ℕ) → v % 16 ≡ 15 → v / 32 ≤ most_unit → before UnitByte v ≡ accepted
unfolding before
unit-good v h l = rw (eq-eqb (v % 16) 15 h, le-leb (v / 32) most_unit l)

schemas-good : (v : ℕ) → 1 ≤ v → v ≤ most_schemas → before Schemas v ≡ accepted
unfolding before
schemas-good v h l = rw (ne_eqb v 0 (λ z. omega arith), le-leb v most_schemas l)

flags-good : (n v : ℕ) → v / 16 % 8 ≡ 0 → after (Flags n) v ≡ accepted
unfolding after
flags-good n v h = rw (eq-eqb (v / 16 % 8) 0 h)

module _ (s : List ℕ) (wall : ℕ) where
  number-at : (v at p : ℕ) → Span s at (bytes8 v) p → p ≤ wall → number_at s wall at ≡ got (v, p)
  unfolding number_at second_at ◌>>=◌
  number-at v at p h l = elim (dec_lt v 128) [
    | yes k ↦
        let w : Span s at (v ∷ []) p = rw (short8 v k) at h in
        let e = w.ends in
        rw (byte-is s wall at (omega arith), span_head s at v [] p w, lt-ltb v 128 k, e)
    | no k ↦
        let w : Span s at ((128 + v / 128) ∷ v % 128 ∷ []) p = rw (long8 v (omega arith)) at h in
        let x = span_head s at (128 + v / 128) (v % 128 ∷ []) p w in
        let y = span_head s (at + 1) (v % 128) [] p (span_tail s at (128 + v / 128) (v % 128 ∷ []) p w) in
        let e = w.ends in
        let d : 128 + v / 128 - 128 ≡ v / 128 = omega arith in
        let m : v / 128 * 128 + v % 128 ≡ v = omega arith in
        let q : p ≡ at + 1 + 1 = omega arith in
        rw (
          byte-is s wall at (omega arith),
          x,
          le-ltb (128 + v / 128) 128 (omega arith),
          byte-is s wall (at + 1) (omega arith),
          y,
          lt-ltb (v % 128) 128 (omega arith),
          d,
          ne_eqb (v / 128) 0 (λ z. omega arith),
          m,
          q,
        )
  ]

  head_at_lem : (h : Head) (v at p : ℕ) → Span s at (head_bytes h v) p → v ≤ most_of h → p ≤ wall → head_at h s wall at ≡ got (v, p)
  unfolding head_at head_bytes most_of
  head_at_lem eight v at p h n l = number-at v at p h l
  head_at_lem byte v at p h n l = let e = h.ends in rw (byte-is s wall at (omega arith), span_head s at v [] p h, e)
  head_at_lem nothing v at p h n l =
      let e : at ≡ p = sym (span_none s at p h) in
      let z : 0 ≡ v = omega arith in
      rw (e, z)

  -- an item that stands there is found
  item-at : (i : Item) (at v p q : ℕ) (text : List ℕ) → Span s at (head_bytes (head_of i) v) p → v ≤ most_of (head_of i) → Span s p text q → length text ≡ body i v
      → before i v ≡ accepted → after i v ≡ accepted → q ≤ wall → item_at i s wall at ≡ got (v, p, q)
  unfolding item_at ◌>>=◌
  item-at i at v p q text h n t c b a l =
      let e : q ≡ p + body i v = omega (arith, t.ends) in
      rw (head_at_lem (head_of i) v at p h n (omega (arith, t.ends)), e) (passes i wall v p b (omega (arith, t.ends)) a)

  alone : (i : Item) (at v p : ℕ) → Span s at (head_bytes (head_of i) v) p → v ≤ most_of (head_of i) → body i v ≡ 0 → before i v ≡ accepted → after i v ≡ accepted → p ≤ wall
      → item_at i s wall at ≡ got (v, p, p)
  alone i at v p h n z b a l = item-at i at v p p [] h n (record { stands = refl; ends = omega arith }) (sym z) b a l

  counted-left : (c rest : List ℕ) (at q : ℕ) → Span s at (counted c ++ rest) q → Span s at (bytes8 (length c)) (at + length (bytes8 (length c)))
  unfolding counted
  counted-left c rest at q h = span_left s at (bytes8 (length c)) c _ (span_left s at (bytes8 (length c) ++ c) rest q h)

  counted-text : (c rest : List ℕ) (at q : ℕ) → Span s at (counted c ++ rest) q → Span s (at + length (bytes8 (length c))) c (at + length (counted c))
  unfolding counted
  counted-text c rest at q h = span_right s at (bytes8 (length c)) c _ (span_left s at (bytes8 (length c) ++ c) rest q h)

  module _ (room : ℕ) where
    init-goes : (i : Item) (j : ℕ) (k : ℕ → Plan) (at v p q : ℕ) (init codecs : List ℕ) → item_at i s wall at ≡ got (v, p, q)
        → read s wall room (item i (Init j) k) at init codecs ≡ read s wall room (k v) q (sets init j (words i v p)) codecs
    unfolding read on_item store
    init-goes i j k at v p q init codecs e = rw e

    codec-goes : (i : Item) (k : ℕ → Plan) (at v p q : ℕ) (init codecs : List ℕ) → item_at i s wall at ≡ got (v, p, q) → length codecs + length (words i v p) ≤ room
        → read s wall room (item i Codecs k) at init codecs ≡ read s wall room (k v) q init (codecs ++ words i v p)
    unfolding read on_item store
    codec-goes i k at v p q init codecs e l = rw (e, le-leb (length codecs + length (words i v p)) room l)

    types-go : (ts : List ℕ) (k : Plan) (at q : ℕ) (init codecs : List ℕ) → Each Small ts → Span s at (flat_map bytes8 ts) q → q ≤ wall → length codecs + length ts ≤ room
        → read s wall room (types_plan (length ts) k) at init codecs ≡ read s wall room k q init (codecs ++ ts)
    unfolding types_plan flat_map words two one other laid head_of head_bytes most_of body before after
    types-go [] k at q init codecs h w l n = ap₂ (λ (j : ℕ) (c : List ℕ). read s wall room k j init c) (sym (span_none s at q w)) (sym (append-nil codecs))
    types-go (t ∷ ts) k at q init codecs h w l n =
        let a = span_left s at (bytes8 t) (flat_map bytes8 ts) q w in
        let b = span_right s at (bytes8 t) (flat_map bytes8 ts) q w in
        let m = at + length (bytes8 t) in
        let f = alone Number at t m a h.0 refl refl refl (omega (arith, b.ends)) in
        codec-goes Number (λ v. types_plan (length ts) k) at t m m init codecs f (omega arith)
        ∙ types-go ts k m q init (codecs ++ (t ∷ [])) h.1 b l (omega (arith, length-append codecs (t ∷ [])))
        ∙ ap (λ (c : List ℕ). read s wall room k q init c) (append_assoc codecs (t ∷ []) ts)

    codecs-go : (cs : List Codec) (k : Plan) (at q : ℕ) (init codecs : List ℕ) → Each CodecIn cs → Span s at (flat_map codec_bytes cs) q → q ≤ wall → length codecs + codec_words cs ≤ room
        → (ws : List ℕ) × (length ws ≡ codec_words cs) × (read s wall room (codecs_plan (length cs) k) at init codecs ≡ read s wall room k q init (codecs ++ ws))
    unfolding codecs_plan codec_words flat_map codec_bytes numbered words two one other laid head_of head_bytes most_of body before after
    codecs-go [] k at q init codecs h w l n =
        ([], refl, ap₂ (λ (j : ℕ) (c : List ℕ). read s wall room k j init c) (sym (span_none s at q w)) (sym (append-nil codecs)))
    codecs-go (c ∷ cs) k at q init codecs h w l n =
        let ts = c.types in
        let w₁ = span_left s at (counted c.uri ++ (bytes8 (length ts) ++ flat_map bytes8 ts)) (flat_map codec_bytes cs) q w in
        let w₂ = span_right s at (counted c.uri ++ (bytes8 (length ts) ++ flat_map bytes8 ts)) (flat_map codec_bytes cs) q w in
        let r = at + length (counted c.uri ++ (bytes8 (length ts) ++ flat_map bytes8 ts)) in
        let w₃ = span_right s at (counted c.uri) (bytes8 (length ts) ++ flat_map bytes8 ts) r w₁ in
        let p = at + length (bytes8 (length c.uri)) in
        let e = at + length (counted c.uri) in
        let w₄ = span_left s e (bytes8 (length ts)) (flat_map bytes8 ts) r w₃ in
        let w₅ = span_right s e (bytes8 (length ts)) (flat_map bytes8 ts) r w₃ in
        let f = e + length (bytes8 (length ts)) in
        let more : ℕ → Plan = λ t. types_plan t (codecs_plan (length cs) k) in
        let l₂ : r ≤ wall = omega (arith, w₂.ends) in
        let l₁ : f ≤ wall = omega (arith, w₅.ends) in
        let i₁ = item-at Text at (length c.uri) p e c.uri (counted-left c.uri _ at r w₁) h.0.uri.few (counted-text c.uri _ at r w₁) refl refl refl (omega (arith, w₄.ends)) in
        let i₂ = alone Number e (length ts) f w₄ h.0.few refl refl refl l₁ in
        let c₁ = codecs ++ (p ∷ length c.uri ∷ []) in
        let c₂ = c₁ ++ (length ts ∷ []) in
        let n₁ : length c₁ ≡ length codecs + 2 = length-append codecs (p ∷ length c.uri ∷ []) in
        let n₂ : length c₂ ≡ length codecs + 3 = omega (arith, length-append c₁ (length ts ∷ [])) in
        let n₃ = length-append c₂ ts in
        let g = codecs-go cs k r q init (c₂ ++ ts) h.1 w₂ l (omega arith) in (
          p ∷ length c.uri ∷ length ts ∷ (ts ++ g.0),
          omega (arith, length-append ts g.0, g.1),
          codec-goes Text (λ u. item Number Codecs more) at (length c.uri) p e init codecs i₁ (omega arith)
              ∙ codec-goes Number more e (length ts) f f init c₁ i₂ (omega arith)
              ∙ types-go ts (codecs_plan (length cs) k) f r init c₂ h.0.types w₅ l₂ (omega arith)
              ∙ g.2
              ∙ ap (λ (x : List ℕ). read s wall room k q init x) (codec-words codecs c.uri ts g.0 p (length c.uri) (length ts) refl refl),
        )

    schemas-go : (ss : List Schema) (slot : ℕ) (k : Plan) (at q : ℕ) (init codecs : List ℕ) → Each SchemaIn ss → Span s at (flat_map schema_bytes ss) q → q ≤ wall
        → length codecs + schema_words ss ≤ room
        → (ws : List ℕ) × (now : List ℕ) × (length ws ≡ schema_words ss) × (read s wall room (schemas_plan (length ss) slot k) at init codecs ≡ read s wall room k q now (codecs ++ ws))
    unfolding schemas_plan schema_words flat_map schema_bytes numbered words two one other laid head_of head_bytes most_of body before after
    schemas-go [] slot k at q init codecs h w l n =
        ([], init, refl, ap₂ (λ (j : ℕ) (c : List ℕ). read s wall room k j init c) (sym (span_none s at q w)) (sym (append-nil codecs)))
    schemas-go (x ∷ ss) slot k at q init codecs h w l n =
        let cs = x.codecs in
        let end = bytes8 (length cs) ++ flat_map codec_bytes cs in
        let w₁ = span_left s at (counted x.uri ++ (counted x.hint ++ end)) (flat_map schema_bytes ss) q w in
        let w₂ = span_right s at (counted x.uri ++ (counted x.hint ++ end)) (flat_map schema_bytes ss) q w in
        let r = at + length (counted x.uri ++ (counted x.hint ++ end)) in
        let p₁ = at + length (bytes8 (length x.uri)) in
        let e₁ = at + length (counted x.uri) in
        let w₃ = span_right s at (counted x.uri) (counted x.hint ++ end) r w₁ in
        let p₂ = e₁ + length (bytes8 (length x.hint)) in
        let e₂ = e₁ + length (counted x.hint) in
        let w₄ = span_right s e₁ (counted x.hint) end r w₃ in
        let w₅ = span_left s e₂ (bytes8 (length cs)) (flat_map codec_bytes cs) r w₄ in
        let w₆ = span_right s e₂ (bytes8 (length cs)) (flat_map codec_bytes cs) r w₄ in
        let f = e₂ + length (bytes8 (length cs)) in
        let after : Plan = schemas_plan (length ss) (slot + 5) k in
        let count : ℕ → Plan = λ c. codecs_plan c after in
        let hint : ℕ → Plan = λ u. item Number (Init (slot + 4)) count in
        let l₁ : r ≤ wall = omega (arith, w₂.ends) in
        let l₂ : f ≤ wall = omega (arith, w₆.ends) in
        let l₃ : e₂ ≤ wall = omega (arith, w₅.ends) in
        let l₄ : e₁ ≤ wall = omega arith in
        let i₁ = item-at Uri at (length x.uri) p₁ e₁ x.uri (counted-left x.uri _ at r w₁) h.0.uri.few (counted-text x.uri _ at r w₁) refl (some_good (length x.uri) h.0.some) refl l₄ in
        let i₂ = item-at Text e₁ (length x.hint) p₂ e₂ x.hint (counted-left x.hint _ e₁ r w₃) h.0.hint.few (counted-text x.hint _ e₁ r w₃) refl refl refl l₃ in
        let i₃ = alone Number e₂ (length cs) f w₅ h.0.few refl refl refl l₂ in
        let n₁ = sets init slot (p₁ ∷ length x.uri ∷ []) in
        let n₂ = sets n₁ (slot + 2) (p₂ ∷ length x.hint ∷ []) in
        let n₃ = sets n₂ (slot + 4) (length cs ∷ []) in
        let d = codecs-go cs after f r n₃ codecs h.0.codecs w₆ l₁ (omega arith) in
        let g = schemas-go ss (slot + 5) k r q n₃ (codecs ++ d.0) h.1 w₂ l (omega (arith, length-append codecs d.0, d.1)) in (
          d.0 ++ g.0,
          g.1,
          omega (arith, length-append d.0 g.0, d.1, g.2),
          init-goes Uri slot (λ u. item Text (Init (slot + 2)) hint) at (length x.uri) p₁ e₁ init codecs i₁
              ∙ init-goes Text (slot + 2) hint e₁ (length x.hint) p₂ e₂ n₁ codecs i₂
              ∙ init-goes Number (slot + 4) count e₂ (length cs) f f n₂ codecs i₃
              ∙ d.2
              ∙ g.3
              ∙ ap (λ (y : List ℕ). read s wall room k q g.1 y) (append_assoc codecs d.0 g.0),
        )

    features-go : (f : Features) (o : Over) (u at q : ℕ) (init codecs : List ℕ) → FeaturesIn f → OverIn f o → u ≤ most_unit → Span s at (feature_bytes u f o) q → q ≤ wall
        → (now : List ℕ)
        × (read s wall room (item UnitByte (Init 2) (λ b. features_plan (eqb (b / 16 % 2) 1))) at init codecs ≡ read s wall room (listed (refers f)) q now codecs)
    unfolding features_plan feature_bytes refers words two one other laid head_of head_bytes most_of body before after
    features-go plain o u at q init codecs h k n w l =
        let v = 32 * u + 31 in
        let i₁ = alone UnitByte at v q w (omega arith) refl (unit-good v (omega arith) (omega arith)) refl l in
        let i₂ = alone NoFlags q 0 q (record { stands = refl; ends = omega arith }) (omega arith) refl refl refl l in
        let n₁ = sets init 2 (v / 32 ∷ []) in
        let n₂ = sets n₁ 4 (0 ∷ 0 ∷ []) in
        let bit : eqb (v / 16 % 2) 1 ≡ true = eq-eqb (v / 16 % 2) 1 (omega arith) in (
          n₂,
          init-goes UnitByte 2 (λ b. features_plan (eqb (b / 16 % 2) 1)) at v q q init codecs i₁
              ∙ ap (λ (b : Bool). read s wall room (features_plan b) q n₁ codecs) bit
              ∙ init-goes NoFlags 4 (λ x. listed false) q 0 q q n₁ codecs i₂,
        )
    features-go (flagged m f) o u at q init codecs h k n w l =
        let v = 32 * u + 15 in
        let b = 2 * f + o.first in
        let w₁ = span_left s at (v ∷ []) (bytes8 m ++ b ∷ o.rest) q w in
        let w₂ = span_right s at (v ∷ []) (bytes8 m ++ b ∷ o.rest) q w in
        let w₃ = span_left s (at + 1) (bytes8 m) (b ∷ o.rest) q w₂ in
        let w₄ = span_right s (at + 1) (bytes8 m) (b ∷ o.rest) q w₂ in
        let e = at + 1 + length (bytes8 m) in
        let w₅ = span_left s e (b ∷ []) o.rest q w₄ in
        let w₆ = span_right s e (b ∷ []) o.rest q w₄ in
        let l₁ : e + 1 ≤ wall = omega (arith, w₆.ends) in
        let first = k.0 in
        let long = k.1 in
        let most = h.2 in
        let good = h.3 in
        let i₁ = alone UnitByte at v (at + 1) w₁ (omega arith) refl (unit-good v (omega arith) (omega arith)) refl (omega arith) in
        let i₂ = alone Length (at + 1) m e w₃ h.1 refl (some_good m h.0) refl (omega arith) in
        let i₃ = item-at (Flags m) e b (e + 1) q o.rest w₅ (omega arith) w₆ (omega arith) refl (flags-good m b (omega arith)) l in
        let n₁ = sets init 2 (v / 32 ∷ []) in
        let n₂ = sets n₁ 3 ((8 * m - 7) ∷ []) in
        let n₃ = sets n₂ 4 (b / 2 ∷ b % 2 ∷ []) in
        let bit : eqb (v / 16 % 2) 1 ≡ false = ne_eqb (v / 16 % 2) 1 (λ z. omega arith) in
        let fifth : b / 8 ≡ f / 4 = omega arith in (
          n₃,
          init-goes UnitByte 2 (λ b. features_plan (eqb (b / 16 % 2) 1)) at v (at + 1) (at + 1) init codecs i₁
              ∙ ap (λ (b : Bool). read s wall room (features_plan b) (at + 1) n₁ codecs) bit
              ∙ init-goes Length 3 (λ x. item (Flags x) (Init 4) (λ b. listed (eqb (b / 8 % 2) 1))) (at + 1) m e e n₁ codecs i₂
              ∙ init-goes (Flags m) 4 (λ b. listed (eqb (b / 8 % 2) 1)) e b (e + 1) q n₂ codecs i₃
              ∙ ap (λ (j : ℕ). read s wall room (listed (eqb (j % 2) 1)) q n₃ codecs) fifth,
        )

    formats-go : (r : Bool) (t : List ℕ) (at q : ℕ) (init codecs : List ℕ) → FormatsIn r t → Span s at (format_bytes r t) q → q ≤ wall
        → (now : List ℕ) × (read s wall room (formats_plan r) at init codecs ≡ read s wall room description_plan q now codecs)
    unfolding formats_plan format_bytes words two one other laid head_of head_bytes most_of body before after
    formats-go true t at q init codecs h w l =
        let w₁ = span_left s at (length t ∷ []) t q w in
        let w₂ = span_right s at (length t ∷ []) t q w in
        let i₁ = item-at Formats at (length t) (at + 1) q t w₁ h.0 w₂ refl refl refl l in
        (sets init 8 ((at + 1) ∷ length t ∷ []), init-goes Formats 8 (λ x. description_plan) at (length t) (at + 1) q init codecs i₁)
    formats-go false t at q init codecs h w l =
        let e : q ≡ at = span_none s at q w in
        let i₁ = alone NoFormats at 0 q w (omega arith) refl refl refl l in
        (sets init 9 (0 ∷ []), init-goes NoFormats 9 (λ x. description_plan) at 0 q q init codecs i₁)

    whole-goes : (m : Meaning) (o : Over) (init : List ℕ) (q : ℕ) → Within m → OverIn m.features o → Span s 0 (spelling m o) q → q ≤ wall → schema_words m.schemas ≤ room
        → (I : List ℕ) × (C : List ℕ) × (read s wall room plan 0 init [] ≡ given I C q)
    unfolding plan read spelling numbered words two one other laid head_of head_bytes most_of body before after
    whole-goes m o init q h k w l n =
        let fs = format_bytes (refers m.features) m.formats in
        let us = feature_bytes m.unit m.features o in
        let ns = bytes8 (length m.schemas) in
        let xs = flat_map schema_bytes m.schemas in
        let ds = counted m.description in
        let a₁ = span_left s 0 (bytes8 m.profile) (us ++ (ns ++ xs ++ (fs ++ ds))) q w in
        let b₁ = span_right s 0 (bytes8 m.profile) (us ++ (ns ++ xs ++ (fs ++ ds))) q w in
        let p₁ = 0 + length (bytes8 m.profile) in
        let a₂ = span_left s p₁ us (ns ++ xs ++ (fs ++ ds)) q b₁ in
        let b₂ = span-is s _ _ (ns ++ (xs ++ (fs ++ ds))) q (append_assoc ns xs (fs ++ ds)) (span_right s p₁ us (ns ++ xs ++ (fs ++ ds)) q b₁) in
        let p₂ = p₁ + length us in
        let a₃ = span_left s p₂ ns (xs ++ (fs ++ ds)) q b₂ in
        let b₃ = span_right s p₂ ns (xs ++ (fs ++ ds)) q b₂ in
        let p₃ = p₂ + length ns in
        let a₄ = span_left s p₃ xs (fs ++ ds) q b₃ in
        let b₄ = span_right s p₃ xs (fs ++ ds) q b₃ in
        let p₄ = p₃ + length xs in
        let a₅ = span_left s p₄ fs ds q b₄ in
        let b₅ = span_right s p₄ fs ds q b₄ in
        let p₅ = p₄ + length fs in
        let l₅ : p₅ ≤ wall = omega (arith, b₅.ends) in
        let l₄ : p₄ ≤ wall = omega arith in
        let l₃ : p₃ ≤ wall = omega arith in
        let l₂ : p₂ ≤ wall = omega arith in
        let l₁ : p₁ ≤ wall = omega arith in
        rest p₁ p₂ p₃ p₄ p₅ a₁ a₂ a₃ a₄ a₅ b₅ l₁ l₂ l₃ l₄ l₅
      where
        rest : (p₁ p₂ p₃ p₄ p₅ : ℕ) → Span s 0 (bytes8 m.profile) p₁ → Span s p₁ (feature_bytes m.unit m.features o) p₂ → Span s p₂ (bytes8 (length m.schemas)) p₃
            → Span s p₃ (flat_map schema_bytes m.schemas) p₄ → Span s p₄ (format_bytes (refers m.features) m.formats) p₅ → Span s p₅ (counted m.description) q
            → p₁ ≤ wall → p₂ ≤ wall → p₃ ≤ wall → p₄ ≤ wall → p₅ ≤ wall → (I : List ℕ) × (C : List ℕ) × (read s wall room plan 0 init [] ≡ given I C q)
        rest p₁ p₂ p₃ p₄ p₅ a₁ a₂ a₃ a₄ a₅ a₆ l₁ l₂ l₃ l₄ l₅ =
            let r = refers m.features in
            let c = length m.schemas in
            let d = length m.description in
            let n₁ = sets init 1 (m.profile ∷ []) in
            let f = features-go m.features o m.unit p₁ p₂ n₁ [] h.features k h.unit a₂ l₂ in
            let n₂ = sets f.0 6 (c ∷ []) in
            let x = schemas-go m.schemas 12 (formats_plan r) p₃ p₄ n₂ [] h.schemas a₄ l₄ (omega arith) in
            let g = formats-go r m.formats p₄ p₅ x.1 x.0 h.formats a₅ l₅ in
            let t : Span s p₅ (counted m.description ++ []) q = span-is s p₅ _ _ q (sym (append-nil (counted m.description))) a₆ in
            let e : p₅ + length (counted m.description) ≡ q = sym a₆.ends in
            let p₆ = p₅ + length (bytes8 d) in
            let i₁ = alone Number 0 m.profile p₁ a₁ h.profile refl refl refl l₁ in
            let i₃ = alone Schemas p₂ c p₃ a₃ (omega (arith, h.few)) refl (schemas-good c h.some h.few) refl l₃ in
            let i₅ = item-at Text p₅ d p₆ q m.description (counted-left m.description [] p₅ q t) h.description.few (rw e at (counted-text m.description [] p₅ q t)) refl refl refl l in (
              sets g.0 10 (p₆ ∷ d ∷ []),
              x.0,
              init-goes Number 1 (λ y. item UnitByte (Init 2) (λ b. features_plan (eqb (b / 16 % 2) 1))) 0 m.profile p₁ p₁ init [] i₁
                  ∙ f.1
                  ∙ init-goes Schemas 6 (λ y. schemas_plan y 12 (formats_plan r)) p₂ c p₃ p₃ f.0 [] i₃
                  ∙ x.3
                  ∙ g.1
                  ∙ init-goes Text 10 (λ y. done) p₅ d p₆ q g.0 x.0 i₅,
            )

-- (a) the second half: a spelling that is no longer than a message may be is accepted, given room
pub spelling-read : (m : Meaning) (o : Over) (room : ℕ) → Within m → OverIn m.features o → length (spelling m o) ≤ most_message → schema_words m.schemas ≤ room
    → (init : List ℕ) × (codecs : List ℕ) × (init_read (spelling m o) room ≡ given init codecs (length (spelling m o)))
unfolding init_read ended
spelling-read m o room h k l n =
    let s = spelling m o in
    let w : Span s 0 s (length s) = record { stands = rw (drop-length s) (sym (append-nil s)); ends = omega arith } in
    let g = whole-goes s (wall_of s) room m o (replicate init_words 0) (length s) h k w (omega arith) n in
    (set g.0 7 (length g.1), g.1, rw (g.2, le-ltb (length s) (length s) (omega arith)))
