-- (b) THE WRITER, given words and bytes that say a meaning, writes its spelling.
use Prim.Native.Nat.{ℕ, ◌+◌, ◌-◌, ◌*◌, ◌/◌, ◌%◌, ◌≤◌}
use mathlib.Core.Path.{◌≡◌, refl, sym, ap, ap₂, ◌∙◌}
use mathlib.Core.Bool.{Bool, true, false}
use mathlib.Core.List.{List, [], ◌∷◌, ◌++◌, flat_map, append-nil, append_assoc}
use native.Mathlib.Omega.{arith}
use borrow.Author.Tests.{le-leb, le-ltb, eq-eqb, ne_eqb}
use lib.Dec.{eqb}
use lib.ListN.{length, get_or, take}
use lib.Seq.{drop-length, length-take-le}
use Rattle.numbers.specs.Limit.{most_vlu8, most_formats, most_schemas, most_unit}
use Rattle.init.specs.declared.Item.{Item}
use Rattle.init.specs.declared.Item.TheVariants.{Number, UnitByte, Length, Flags, Schemas, Uri, Text, Formats, NoFlags, NoFormats}
use Rattle.init.specs.declared.Slot.{Slot}
use Rattle.init.specs.declared.Slot.TheVariants.{Init, Codecs}
use Rattle.init.specs.Items.{head_of, head_bytes, two, bytes8}
use Rattle.init.specs.Plan.{Plan, types as types_plan, codecs as codecs_plan, schemas as schemas_plan, formats as formats_plan, features as features_plan, description as description_plan, listed, plan}
use Rattle.init.specs.Plan.Plan.{done, item}
use Rattle.init.specs.Write.{value_of, content_of, lies_of, content, bytes_for, on_value, word_in, there_of, used_by, emit, write, closed, init_write}
use Rattle.init.specs.Write.Value.{value}
use Rattle.init.specs.Write.Writing.{wrote}
use Rattle.init.specs.Meaning.{Codec, Schema, Features, Meaning, refers, noughts, counted, numbered, codec_bytes, schema_bytes, feature_bytes, format_bytes, spelling, spelt, Each, Small, CodecIn, SchemaIn, FeaturesIn, FormatsIn, Within}
use Rattle.init.specs.Meaning.Features.{plain, flagged}
use Rattle.init.specs.Says.{Stretch, CodecsSay, SchemasSay, FeaturesSay, FormatsSay, Says}
use Rattle.init.proofs.Spans.{Span, span_none, span_left, span_right, span-in, span_head, span_tail}

module _ (init codecs given : List ℕ) where
  goes : (i : Item) (slot : Slot) (k : ℕ → Plan) (used : ℕ) (out : List ℕ) (v : ℕ) → there_of slot i (length codecs) used ≡ true
      → value_of i (word_in slot init codecs used 0) (word_in slot init codecs used 1) ≡ value v
      → lies_of (content_of i) (length given) (word_in slot init codecs used 0) v ≡ true
      → write init codecs given (item i slot k) used out
      ≡ write init codecs given (k v) (used_by slot i used) (out ++ bytes_for i given (word_in slot init codecs used 0) v)
  unfolding write emit on_value
  goes i slot k used out v t e l = rw (t, e, l)

  number-goes : (slot : Slot) (k : ℕ → Plan) (used : ℕ) (out : List ℕ) (v : ℕ) → there_of slot Number (length codecs) used ≡ true
      → word_in slot init codecs used 0 ≡ v → Small v
      → write init codecs given (item Number slot k) used out ≡ write init codecs given (k v) (used_by slot Number used) (out ++ bytes8 v)
  unfolding value_of lies_of content_of content head_of head_bytes
  number-goes slot k used out v t e h =
      goes Number slot k used out v t (rw (e, le-leb v most_vlu8 h)) refl
      ∙ ap (λ (b : List ℕ). write init codecs given (k v) (used_by slot Number used) (out ++ b)) (append-nil (bytes8 v))

  text-goes : (slot : Slot) (k : ℕ → Plan) (used : ℕ) (out c : List ℕ) → there_of slot Text (length codecs) used ≡ true
      → Stretch given (word_in slot init codecs used 0) (word_in slot init codecs used 1) c → Small (length c)
      → write init codecs given (item Text slot k) used out ≡ write init codecs given (k (length c)) (used_by slot Text used) (out ++ counted c)
  unfolding value_of lies_of content_of content head_of head_bytes counted
  text-goes slot k used out c t e h =
      goes Text slot k used out (length c) t (rw (e.counts, le-leb (length c) most_vlu8 h)) (le-leb (word_in slot init codecs used 0 + length c) (length given) (omega (arith, e.counts, e.lies)))
      ∙ ap (λ (b : List ℕ). write init codecs given (k (length c)) (used_by slot Text used) (out ++ (bytes8 (length c) ++ b))) (rw e.counts at e.stands)

  uri-goes : (slot : Slot) (k : ℕ → Plan) (used : ℕ) (out c : List ℕ) → there_of slot Uri (length codecs) used ≡ true
      → Stretch given (word_in slot init codecs used 0) (word_in slot init codecs used 1) c → 1 ≤ length c → Small (length c)
      → write init codecs given (item Uri slot k) used out ≡ write init codecs given (k (length c)) (used_by slot Uri used) (out ++ counted c)
  unfolding value_of lies_of content_of content head_of head_bytes counted
  uri-goes slot k used out c t e n h =
      goes Uri slot k used out (length c) t (rw (e.counts, ne_eqb (length c) 0 (λ z. omega arith), le-leb (length c) most_vlu8 h)) (le-leb (word_in slot init codecs used 0 + length c) (length given) (omega (arith, e.counts, e.lies)))
      ∙ ap (λ (b : List ℕ). write init codecs given (k (length c)) (used_by slot Uri used) (out ++ (bytes8 (length c) ++ b))) (rw e.counts at e.stands)

  types-go : (ts : List ℕ) (k : Plan) (used q : ℕ) (out : List ℕ) → Each Small ts → Span codecs used ts q
      → write init codecs given (types_plan (length ts) k) used out ≡ write init codecs given k q (out ++ flat_map bytes8 ts)
  unfolding types_plan flat_map word_in there_of used_by two
  types-go [] k used q out h w = ap₂ (write init codecs given k) (sym (span_none codecs used q w)) (sym (append-nil out))
  types-go (t ∷ ts) k used q out h w =
      number-goes Codecs (λ v. types_plan (length ts) k) used out t (le-leb (used + 1) (length codecs) (omega (arith, span-in codecs used t ts q w)))
      (ap (λ (i : ℕ). get_or codecs i 0) {x = used + 0} {y = used} (omega arith) ∙ span_head codecs used t ts q w) h.0
      ∙ types-go ts k (used + 1) q (out ++ bytes8 t) h.1 (span_tail codecs used t ts q w)
      ∙ ap (write init codecs given k q) (append_assoc out (bytes8 t) (flat_map bytes8 ts))

  codecs-go : (cs : List Codec) (k : Plan) (used q : ℕ) (out words : List ℕ) → Each CodecIn cs → CodecsSay given cs words → Span codecs used words q
      → write init codecs given (codecs_plan (length cs) k) used out ≡ write init codecs given k q (out ++ flat_map codec_bytes cs)
  unfolding codecs_plan flat_map word_in there_of used_by two codec_bytes numbered
  codecs-go [] k used q out words h say w =
      ap₂ (write init codecs given k) (sym (span_none codecs used q (rw say at w))) (sym (append-nil out))
  codecs-go (c ∷ cs) k used q out words h say w =
      let rest = say.0 in
      let l = say.1 in
      let w₀ : Span codecs used (l.place ∷ length c.uri ∷ length c.types ∷ (c.types ++ rest)) q = rw l.are at w in
      let w₁ = span_tail codecs used _ _ q w₀ in
      let w₂ = span_tail codecs (used + 1) _ _ q w₁ in
      let w₃ = span_tail codecs (used + 1 + 1) _ _ q w₂ in
      let at₀ : used + 0 ≡ used = omega arith in
      let at₂ : used + 1 + 1 ≡ used + 2 = omega arith in
      let p = ap (λ (i : ℕ). get_or codecs i 0) at₀ ∙ span_head codecs used _ _ q w₀ in
      let u = span_head codecs (used + 1) _ _ q w₁ in
      let n = ap (λ (i : ℕ). get_or codecs i 0) {x = used + 2 + 0} {y = used + 1 + 1} (omega arith) ∙ span_head codecs (used + 1 + 1) _ _ q w₂ in
      let more : ℕ → Plan = λ t. types_plan t (codecs_plan (length cs) k) in
      let o₁ = out ++ counted c.uri in
      let o₂ = o₁ ++ bytes8 (length c.types) in
      text-goes Codecs (λ (x : ℕ). item Number Codecs more) used out c.uri (le-leb (used + 2) (length codecs) (omega (arith, span-in codecs (used + 1) _ _ q w₁)))
      (rw (p, u) l.uri) h.0.uri.few
      ∙ number-goes Codecs more (used + 2) o₁ (length c.types) (le-leb (used + 2 + 1) (length codecs) (omega (arith, span-in codecs (used + 1 + 1) _ _ q w₂))) n h.0.few
      ∙ types-go c.types (codecs_plan (length cs) k) (used + 2 + 1) _ o₂ h.0.types (rw at₂ at (span_left codecs (used + 1 + 1 + 1) c.types rest q w₃))
      ∙ codecs-go cs k _ q (o₂ ++ flat_map bytes8 c.types) rest h.1 say.2 (rw at₂ at (span_right codecs (used + 1 + 1 + 1) c.types rest q w₃))
      ∙ ap (write init codecs given k q) (simp append_assoc)

  schemas-go : (ss : List Schema) (slot : ℕ) (k : Plan) (used q : ℕ) (out words : List ℕ) → Each SchemaIn ss → SchemasSay init given slot ss words → Span codecs used words q
      → write init codecs given (schemas_plan (length ss) slot k) used out ≡ write init codecs given k q (out ++ flat_map schema_bytes ss)
  unfolding schemas_plan flat_map word_in there_of used_by schema_bytes numbered
  schemas-go [] slot k used q out words h say w =
      ap₂ (write init codecs given k) (sym (span_none codecs used q (rw say at w))) (sym (append-nil out))
  schemas-go (s ∷ ss) slot k used q out words h say w =
      let own = say.0 in
      let rest = say.1 in
      let l = say.2 in
      let w₀ : Span codecs used (own ++ rest) q = rw l.are at w in
      let at₀ : slot + 0 ≡ slot = omega arith in
      let at₂ : slot + 2 + 0 ≡ slot + 2 = omega arith in
      let at₃ : slot + 2 + 1 ≡ slot + 3 = omega arith in
      let at₄ : slot + 4 + 0 ≡ slot + 4 = omega arith in
      let after : Plan = schemas_plan (length ss) (slot + 5) k in
      let count : ℕ → Plan = λ c. codecs_plan c after in
      let hint : ℕ → Plan = λ u. item Number (Init (slot + 4)) count in
      let o₁ = out ++ counted s.uri in
      let o₂ = o₁ ++ counted s.hint in
      let o₃ = o₂ ++ bytes8 (length s.codecs) in
      uri-goes (Init slot) (λ (x : ℕ). item Text (Init (slot + 2)) hint) used out s.uri refl (rw at₀ l.uri) h.0.some h.0.uri.few
      ∙ text-goes (Init (slot + 2)) hint used o₁ s.hint refl (rw (at₂, at₃) l.hint) h.0.hint.few
      ∙ number-goes (Init (slot + 4)) count used o₂ (length s.codecs) refl (rw at₄ l.count) h.0.few
      ∙ codecs-go s.codecs after used (used + length own) o₃ own h.0.codecs l.codecs (span_left codecs used own rest q w₀)
      ∙ schemas-go ss (slot + 5) k (used + length own) q (o₃ ++ flat_map codec_bytes s.codecs) rest h.1 say.3 (span_right codecs used own rest q w₀)
      ∙ ap (write init codecs given k q) (simp append_assoc)

  features-go : (f : Features) (u used : ℕ) (out : List ℕ) → FeaturesIn f → get_or init 2 0 ≡ u → u ≤ most_unit → FeaturesSay 0 init f
      → write init codecs given (item UnitByte (Init 2) (λ b. features_plan (eqb (b / 16 % 2) 1))) used out
      ≡ write init codecs given (listed (refers f)) used (out ++ feature_bytes u f (noughts f))
  unfolding features_plan word_in there_of used_by value_of lies_of content_of content head_of head_bytes feature_bytes noughts refers
  features-go plain u used out h e n say =
      let k : ℕ → Plan = λ b. features_plan (eqb (b / 16 % 2) 1) in
      let v = 32 * u + 31 in
      let bit : eqb (v / 16 % 2) 1 ≡ true = eq-eqb (v / 16 % 2) 1 (omega arith) in
      let o₁ = out ++ (v ∷ [] ++ []) in
      goes UnitByte (Init 2) k used out v refl (rw (e, say.0, le-leb u most_unit n)) refl
      ∙ ap (λ (b : Bool). write init codecs given (features_plan b) used o₁) bit
      ∙ goes NoFlags (Init 4) (λ (x : ℕ). listed false) used o₁ 0 refl (rw (say.1, say.2)) refl
      ∙ ap (write init codecs given (listed false) used) (append-nil o₁)
  features-go (flagged m f) u used out h e n say =
      let k : ℕ → Plan = λ b. features_plan (eqb (b / 16 % 2) 1) in
      let v = 32 * u + 15 in
      let bit : eqb (v / 16 % 2) 1 ≡ false = ne_eqb (v / 16 % 2) 1 (λ z. omega arith) in
      let m₁ = h.0 in
      let some : eqb (8 * m - 7) 0 ≡ false = ne_eqb (8 * m - 7) 0 (λ z. omega arith) in
      let one : eqb ((8 * m - 7) % 8) 1 ≡ true = eq-eqb ((8 * m - 7) % 8) 1 (omega arith) in
      let whole : (8 * m - 7 + 7) / 8 ≡ m = omega arith in
      let fifth : 2 * f / 8 ≡ f / 4 = omega arith in
      let none : 2 * f + 0 ≡ 2 * f = omega arith in
      let o₁ = out ++ (v ∷ [] ++ []) in
      let o₂ = o₁ ++ (bytes8 m ++ []) in
      goes UnitByte (Init 2) k used out v refl (rw (e, say.0, le-leb u most_unit n, some)) refl
      ∙ ap (λ (b : Bool). write init codecs given (features_plan b) used o₁) bit
      ∙ goes Length (Init 3) (λ (l : ℕ). item (Flags l) (Init 4) (λ b. listed (eqb (b / 8 % 2) 1))) used o₁ m refl (rw (say.0, one, whole, le-leb m most_vlu8 h.1)) refl
      ∙ goes (Flags m) (Init 4) (λ b. listed (eqb (b / 8 % 2) 1)) used o₂ (2 * f) refl
      (rw (say.1, say.2, le-leb f 127 h.2, eq-eqb (f / 8 % 8) 0 h.3)) refl
      ∙ ap₂ (λ (j : ℕ) (l : List ℕ). write init codecs given (listed (eqb (j % 2) 1)) used l) fifth (simp (append_assoc, append-nil, none))

  formats-go : (r : Bool) (l : List ℕ) (used : ℕ) (out : List ℕ) → FormatsIn r l → FormatsSay init given r l
      → write init codecs given (formats_plan r) used out ≡ write init codecs given description_plan used (out ++ format_bytes r l)
  unfolding formats_plan word_in there_of used_by value_of lies_of content_of content head_of head_bytes format_bytes
  formats-go true l used out h say =
      goes Formats (Init 8) (λ (x : ℕ). description_plan) used out (length l) refl (rw (say.counts, le-leb (length l) most_formats h.0))
      (le-leb (get_or init 8 0 + length l) (length given) (omega (arith, say.counts, say.lies)))
      ∙ ap (λ (b : List ℕ). write init codecs given description_plan used (out ++ (length l ∷ b))) (rw say.counts at say.stands)
  formats-go false l used out h say = goes NoFormats (Init 9) (λ (x : ℕ). description_plan) used out 0 refl (rw say) refl

  whole-goes : (lent : List ℕ) (m : Meaning) → Within m → Says 0 init lent given m → SchemasSay init given 12 m.schemas codecs
      → write init codecs given plan 0 [] ≡ wrote (length codecs) (spelt m)
  unfolding plan write spelt spelling numbered word_in there_of used_by value_of lies_of content_of content head_of head_bytes
  whole-goes lent m h say l =
      let r = refers m.features in
      let all : Span codecs 0 codecs (length codecs) = record { stands = rw (drop-length codecs) (sym (append-nil codecs)); ends = omega arith } in
      let n = length m.schemas in
      let o₁ = bytes8 m.profile in
      let o₂ = o₁ ++ feature_bytes m.unit m.features (noughts m.features) in
      let o₃ = o₂ ++ (bytes8 n ++ []) in
      let o₄ = o₃ ++ flat_map schema_bytes m.schemas in
      let o₅ = o₄ ++ format_bytes r m.formats in
      number-goes (Init 1) (λ (x : ℕ). item UnitByte (Init 2) (λ b. features_plan (eqb (b / 16 % 2) 1))) 0 [] m.profile refl say.profile h.profile
      ∙ features-go m.features m.unit 0 o₁ h.features say.unit h.unit say.features
      ∙ goes Schemas (Init 6) (λ x. schemas_plan x 12 (formats_plan r)) 0 o₂ n refl
      (rw (say.count, ne_eqb n 0 (λ z. omega (arith, h.some)), le-leb n most_schemas h.few)) refl
      ∙ schemas-go m.schemas 12 (formats_plan r) 0 (length codecs) o₃ codecs h.schemas l all
      ∙ formats-go r m.formats (length codecs) o₄ h.formats say.formats
      ∙ text-goes (Init 10) (λ (x : ℕ). done) (length codecs) o₅ m.description refl say.description h.description.few
      ∙ ap (wrote (length codecs)) (simp (append_assoc, append-nil))

-- (b) the first half
pub said-written : (init codecs given : List ℕ) (room : ℕ) (m : Meaning) → Within m → Says 0 init codecs given m → length (spelt m) ≤ room
    → init_write init codecs given room ≡ wrote (get_or init 7 0) (spelt m)
unfolding init_write closed
said-written init codecs given room m h say fits =
    let n = get_or init 7 0 in
    let e : length (take n codecs) ≡ n = length-take-le n codecs say.used in
    let g = whole-goes init (take n codecs) given codecs m h say say.schemas in
    rw (le-leb n (length codecs) say.used, g, e, le-ltb n n (omega arith), le-leb (length (spelt m)) room fits)
