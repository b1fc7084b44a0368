-- (b) THE WRITER, where it writes, was given words and bytes that say a meaning: it refuses all else.
use Prim.Native.Nat.{ℕ, zero, suc, ◌+◌, ◌-◌, ◌*◌, ◌/◌, ◌%◌, ◌≤◌}
use mathlib.Core.Path.{◌≡◌, refl, sym, ap, subst, ◌∙◌}
use mathlib.Core.Bool.{Bool, true, false, cond}
use mathlib.Core.List.{List, [], ◌∷◌, ◌++◌, flat_map, append-nil, append_assoc}
use native.Mathlib.Omega.{arith}
use native.Mathlib.Decide.{dec_le, ℕ_discrete}
use borrow.Author.Tests.{le-leb, lt-leb, eq-eqb, ne_eqb, leb-true, ltb-false}
use lib.Dec.{leb, eqb, ltb}
use lib.ListN.{length, get_or, take, drop, replicate, length-drop}
use lib.Seq.{length-take-le}
use Rattle.numbers.specs.Refusal.{no_reading, text_bytes, outside_row, no_schemas, many_schemas, advanced_flag, payload_room}
use Rattle.numbers.specs.Limit.{init_words}
use Rattle.numbers.specs.Limit.{most_vlu8, most_formats, most_schemas, most_unit}
use Rattle.init.specs.declared.Item.{Item}
use Rattle.init.specs.declared.Item.TheVariants.{Number, UnitByte, Length, Flags, Schemas, Uri, Text, Formats, NoFlags, NoFormats}
use Rattle.init.specs.declared.Slot.{Slot}
use Rattle.init.specs.declared.Slot.TheVariants.{Init, Codecs}
use Rattle.init.specs.Items.{head_of, head_bytes, two, bytes8}
use Rattle.init.specs.Plan.{Plan, types as types_plan, codecs as codecs_plan, schemas as schemas_plan, formats as formats_plan, features as features_plan, description as description_plan, listed, plan}
use Rattle.init.specs.Plan.Plan.{done, item}
use Rattle.init.specs.Write.{Value, Writing, within, value_of, content_of, lies_of, content, bytes_for, on_value, index, word_in, there_of, used_by, emit, write, closed, init_write}
use Rattle.init.specs.Write.Value.{value, wrong}
use Rattle.init.specs.Write.Writing.{wrote, refused}
use Rattle.init.specs.Meaning.{Codec, Schema, Features, Meaning, refers, noughts, counted, numbered, codec_bytes, schema_bytes, feature_bytes, format_bytes, spelling, spelt, Each, Byte, Small, CodecIn, SchemaIn, FeaturesIn, FormatsIn, Within}
use Rattle.init.specs.Meaning.Features.{plain, flagged}
use Rattle.init.specs.Says.{Stretch, CodecsSay, SchemasSay, FeaturesSay, FormatsSay, Says}
use Rattle.init.proofs.Spans.{Span, no_span, span-join, span-is, span-word, span-words, span-all, each_take, each-drop}

-- a refusal is no message, and what is wrong is no value
no-wrote : {w : Writing} (e k u : ℕ) (m : List ℕ) → w ≡ refused e k → w ≡ wrote u m → ⊥
no-wrote e k u m p q = let z : ◌≡◌ {A = ℕ} 0 1 = cc in omega arith

no_value : {w : Value} (e k v : ℕ) → w ≡ wrong e k → w ≡ value v → ⊥
no_value e k v p q = let z : ◌≡◌ {A = ℕ} 0 1 = cc in omega arith

one_value : {w : Value} (a v : ℕ) → w ≡ value a → w ≡ value v → v ≡ a
one_value a v p q = cc

within-value : (a most word v : ℕ) → within a most word ≡ value v → (v ≡ a) × (a ≤ most)
within-value a most word v e = elim (dec_le a most) [
  | yes h ↦ (one_value a v (rw (le-leb a most h)) e, h)
  | no h ↦ absurd (no_value outside_row word v (rw (lt-leb a most (omega arith))) e)
]

unit-value : (a b v : ℕ) → cond (leb a most_unit) (value (32 * a + cond (eqb b 0) 31 15)) (wrong outside_row 0) ≡ value v → (a ≤ most_unit) × (v ≡ 32 * a + cond (eqb b 0) 31 15)
unit-value a b v e = elim (dec_le a most_unit) [
  | yes h ↦ (h, one_value (32 * a + cond (eqb b 0) 31 15) v (rw (le-leb a most_unit h)) e)
  | no h ↦ absurd (no_value outside_row 0 v (rw (lt-leb a most_unit (omega arith))) e)
]

length-value : (a v : ℕ) → cond (eqb (a % 8) 1) (within ((a + 7) / 8) most_vlu8 0) (wrong outside_row 0) ≡ value v → (a ≡ 8 * v - 7) × (1 ≤ v) × (v ≤ most_vlu8)
length-value a v e = elim (ℕ_discrete (a % 8) 1) [
  | no h ↦ absurd (no_value outside_row 0 v (rw (ne_eqb (a % 8) 1 h)) e)
  | yes h ↦ let g = within-value ((a + 7) / 8) most_vlu8 0 v (rw (eq-eqb (a % 8) 1 h) at e) in let d = g.0 in let l = g.1 in (omega arith, omega arith, omega arith)
]

flags-value : (a b v : ℕ)
    → cond (leb a 127) (cond (eqb (a / 8 % 8) 0) (cond (eqb b 0) (value (2 * a)) (wrong outside_row 1)) (wrong advanced_flag 0)) (wrong outside_row 0) ≡ value v
    → (v ≡ 2 * a) × (a ≤ 127) × (a / 8 % 8 ≡ 0) × (b ≡ 0)
flags-value a b v e = elim (dec_le a 127) [
  | no h ↦ absurd (no_value outside_row 0 v (rw (lt-leb a 127 (omega arith))) e)
  | yes h ↦ elim (ℕ_discrete (a / 8 % 8) 0) [
    | no k ↦ absurd (no_value advanced_flag 0 v (rw (le-leb a 127 h, ne_eqb (a / 8 % 8) 0 k)) e)
    | yes k ↦ elim (ℕ_discrete b 0) [
      | no z ↦ absurd (no_value outside_row 1 v (rw (le-leb a 127 h, eq-eqb (a / 8 % 8) 0 k, ne_eqb b 0 z)) e)
      | yes z ↦ (one_value (2 * a) v (rw (le-leb a 127 h, eq-eqb (a / 8 % 8) 0 k, eq-eqb b 0 z)) e, h, k, z)
    ]
  ]
]

none-value : (a b v : ℕ) → cond (eqb a 0) (cond (eqb b 0) (value 0) (wrong outside_row 1)) (wrong outside_row 0) ≡ value v → (v ≡ 0) × (a ≡ 0) × (b ≡ 0)
none-value a b v e = elim (ℕ_discrete a 0) [
  | no h ↦ absurd (no_value outside_row 0 v (rw (ne_eqb a 0 h)) e)
  | yes h ↦ elim (ℕ_discrete b 0) [
    | no k ↦ absurd (no_value outside_row 1 v (rw (eq-eqb a 0 h, ne_eqb b 0 k)) e)
    | yes k ↦ (one_value 0 v (rw (eq-eqb a 0 h, eq-eqb b 0 k)) e, h, k)
  ]
]

zero-value : (a v : ℕ) → cond (eqb a 0) (value 0) (wrong outside_row 0) ≡ value v → (v ≡ 0) × (a ≡ 0)
zero-value a v e = elim (ℕ_discrete a 0) [
  | no h ↦ absurd (no_value outside_row 0 v (rw (ne_eqb a 0 h)) e)
  | yes h ↦ (one_value 0 v (rw (eq-eqb a 0 h)) e, h)
]

schemas-value : (a v : ℕ) → cond (eqb a 0) (wrong no_schemas 0) (cond (leb a most_schemas) (value a) (wrong many_schemas 0)) ≡ value v → (v ≡ a) × (1 ≤ a) × (a ≤ most_schemas)
schemas-value a v e = elim (ℕ_discrete a 0) [
  | yes h ↦ absurd (no_value no_schemas 0 v (rw (eq-eqb a 0 h)) e)
  | no h ↦ elim (dec_le a most_schemas) [
    | no k ↦ absurd (no_value many_schemas 0 v (rw (ne_eqb a 0 h, lt-leb a most_schemas (omega arith))) e)
    | yes k ↦ (one_value a v (rw (ne_eqb a 0 h, le-leb a most_schemas k)) e, omega arith, k)
  ]
]

-- the bytes of a codec and of a schema, item by item
codec-out : (out : List ℕ) (c : Codec) (cs : List Codec) (n : ℕ) → length c.types ≡ n
    → out ++ counted c.uri ++ bytes8 n ++ flat_map bytes8 c.types ++ flat_map codec_bytes cs ≡ out ++ flat_map codec_bytes (c ∷ cs)
unfolding codec_bytes numbered flat_map
codec-out out c cs n e = rw (← e) (simp append_assoc)

schema-out : (out : List ℕ) (s : Schema) (ss : List Schema) (n : ℕ) → length s.codecs ≡ n
    → out ++ counted s.uri ++ counted s.hint ++ bytes8 n ++ flat_map codec_bytes s.codecs ++ flat_map schema_bytes ss ≡ out ++ flat_map schema_bytes (s ∷ ss)
unfolding schema_bytes numbered flat_map
schema-out out s ss n e = rw (← e) (simp append_assoc)

whole_out : (x : Meaning) (n : ℕ) → length x.schemas ≡ n
    → bytes8 x.profile ++ feature_bytes x.unit x.features (noughts x.features) ++ (bytes8 n ++ []) ++ flat_map schema_bytes x.schemas
    ++ format_bytes (refers x.features) x.formats ++ (bytes8 (length x.description) ++ x.description) ≡ spelt x
unfolding spelt spelling numbered counted
whole_out x n h = rw (← h) (simp (append_assoc, append-nil))

module _ (init codecs given : List ℕ) (octets : Each Byte given) (u : ℕ) (m : List ℕ) where
  moved : (k : Plan) (q : ℕ) (o o' : List ℕ) → o ≡ o' → write init codecs given k q o ≡ wrote u m → write init codecs given k q o' ≡ wrote u m
  moved k q o o' e h = rw e at h

  -- an item that was written
  record Went (i : Item) (slot : Slot) (k : ℕ → Plan) (used : ℕ) (out : List ℕ) : Type 0 where
    pub there : there_of slot i (length codecs) used ≡ true
    pub number : ℕ
    pub says : value_of i (word_in slot init codecs used 0) (word_in slot init codecs used 1) ≡ value number
    pub lies : lies_of (content_of i) (length given) (word_in slot init codecs used 0) number ≡ true
    pub then : write init codecs given (k number) (used_by slot i used) (out ++ bytes_for i given (word_in slot init codecs used 0) number) ≡ wrote u m

  went : (i : Item) (slot : Slot) (k : ℕ → Plan) (used : ℕ) (out : List ℕ) → write init codecs given (item i slot k) used out ≡ wrote u m → Went i slot k used out
  unfolding write emit on_value
  went i slot k used out e = by-there (there_of slot i (length codecs) used) refl e
    where
      a : ℕ
      a = word_in slot init codecs used 0

      b : ℕ
      b = word_in slot init codecs used 1

      next : ℕ → List ℕ → Writing
      next v bytes = write init codecs given (k v) (used_by slot i used) (out ++ bytes)

      by-lies : there_of slot i (length codecs) used ≡ true → (v : ℕ) → value_of i a b ≡ value v → (t : Bool) → lies_of (content_of i) (length given) a v ≡ t
          → cond t (next v (bytes_for i given a v)) (refused text_bytes (index slot used + 1)) ≡ wrote u m → Went i slot k used out
      by-lies there v w true l h = record { there = there; number = v; says = w; lies = l; then = h }
      by-lies there v w false l h = absurd (no-wrote text_bytes (index slot used + 1) u m refl h)

      by_value : there_of slot i (length codecs) used ≡ true → (x : Value) → value_of i a b ≡ x
          → on_value x (index slot used) (λ v. cond (lies_of (content_of i) (length given) a v) (next v (bytes_for i given a v)) (refused text_bytes (index slot used + 1))) ≡ wrote u m
          → Went i slot k used out
      by_value there (value v) w h = by-lies there v w (lies_of (content_of i) (length given) a v) refl h
      by_value there (wrong n word) w h = absurd (no-wrote n (index slot used + word) u m refl h)

      by-there : (t : Bool) → there_of slot i (length codecs) used ≡ t
          → cond t (emit i given a b (index slot used) next) (refused no_reading (init_words + length codecs)) ≡ wrote u m → Went i slot k used out
      by-there true t h = by_value t (value_of i a b) refl h
      by-there false t h = absurd (no-wrote no_reading (init_words + length codecs) u m refl h)

  record NumberWent (slot : Slot) (k : ℕ → Plan) (used : ℕ) (out : List ℕ) : Type 0 where
    pub there : there_of slot Number (length codecs) used ≡ true
    pub small : Small (word_in slot init codecs used 0)
    pub then : write init codecs given (k (word_in slot init codecs used 0)) (used_by slot Number used) (out ++ bytes8 (word_in slot init codecs used 0)) ≡ wrote u m

  number-went : (slot : Slot) (k : ℕ → Plan) (used : ℕ) (out : List ℕ) → write init codecs given (item Number slot k) used out ≡ wrote u m → NumberWent slot k used out
  unfolding value_of content_of content head_of head_bytes
  number-went slot k used out e =
      let w = went Number slot k used out e in
      let a = word_in slot init codecs used 0 in
      let v = within-value a most_vlu8 0 w.number w.says in
      let t : write init codecs given (k w.number) (used_by slot Number used) (out ++ (bytes8 w.number ++ [])) ≡ wrote u m = w.then in
      record { there = w.there; small = v.1; then = rw (append-nil (bytes8 w.number), v.0) at t }

  -- a text that was written, and what is written behind it
  record TextWent (a b : ℕ) (next : ℕ → List ℕ → Writing) : Type 0 where
    pub text : List ℕ
    pub stretch : Stretch given a b text
    pub bytes : Each Byte text
    pub then : next (length text) (bytes8 (length text) ++ text) ≡ wrote u m

  text-taken : (a b v : ℕ) (next : ℕ → List ℕ → Writing) → v ≡ b → leb (a + v) (length given) ≡ true
      → next v (bytes8 v ++ take v (drop a given)) ≡ wrote u m → TextWent a b next
  text-taken a b v next e l h =
      let k = leb-true (a + v) (length given) l in
      let n : length (take v (drop a given)) ≡ v = length-take-le v (drop a given) (omega (arith, length-drop a given)) in
      record {
        text = take v (drop a given);
        stretch = record { counts = sym e ∙ sym n; lies = omega arith; stands = rw (← e) };
        bytes = each_take Byte v (drop a given) (each-drop Byte a given octets);
        then = subst (λ (j : ℕ). next j (bytes8 j ++ take v (drop a given)) ≡ wrote u m) (sym n) h;
      }

  abbrev behind : (slot : Slot) (i : Item) (k : ℕ → Plan) (used : ℕ) (out : List ℕ) → ℕ → List ℕ → Writing
  behind slot i k used out v bytes = write init codecs given (k v) (used_by slot i used) (out ++ bytes)

  text-went : (slot : Slot) (k : ℕ → Plan) (used : ℕ) (out : List ℕ) → write init codecs given (item Text slot k) used out ≡ wrote u m
      → (there_of slot Text (length codecs) used ≡ true) × Small (word_in slot init codecs used 1) × TextWent (word_in slot init codecs used 0) (word_in slot init codecs used 1) (behind slot Text k used out)
  unfolding value_of lies_of content_of content head_of head_bytes
  text-went slot k used out e =
      let w = went Text slot k used out e in
      let v = within-value (word_in slot init codecs used 1) most_vlu8 1 w.number w.says in
      (w.there, v.1, text-taken (word_in slot init codecs used 0) (word_in slot init codecs used 1) w.number (behind slot Text k used out) v.0 w.lies w.then)

  some-value : (b v : ℕ) → cond (eqb b 0) (wrong outside_row 1) (within b most_vlu8 1) ≡ value v → (v ≡ b) × (b ≤ most_vlu8) × (1 ≤ b)
  some-value b v e = elim (ℕ_discrete b 0) [
    | yes z ↦ absurd (no_value outside_row 1 v (rw (eq-eqb b 0 z)) e)
    | no z ↦ let g = within-value b most_vlu8 1 v (rw (ne_eqb b 0 z) at e) in (g.0, g.1, omega arith)
  ]

  uri-went : (slot : Slot) (k : ℕ → Plan) (used : ℕ) (out : List ℕ) → write init codecs given (item Uri slot k) used out ≡ wrote u m
      → (1 ≤ word_in slot init codecs used 1) × Small (word_in slot init codecs used 1) × TextWent (word_in slot init codecs used 0) (word_in slot init codecs used 1) (behind slot Uri k used out)
  unfolding value_of lies_of content_of content head_of head_bytes
  uri-went slot k used out e =
      let w = went Uri slot k used out e in
      let v = some-value (word_in slot init codecs used 1) w.number w.says in
      (v.2, v.1, text-taken (word_in slot init codecs used 0) (word_in slot init codecs used 1) w.number (behind slot Uri k used out) v.0 w.lies w.then)

  record TypesWent (n : ℕ) (k : Plan) (used : ℕ) (out : List ℕ) : Type 0 where
    pub types : List ℕ
    pub count : length types ≡ n
    pub small : Each Small types
    pub end : ℕ
    pub span : Span codecs used types end
    pub then : write init codecs given k end (out ++ flat_map bytes8 types) ≡ wrote u m

  types-went : (n : ℕ) (k : Plan) (used : ℕ) (out : List ℕ) → write init codecs given (types_plan n k) used out ≡ wrote u m → TypesWent n k used out
  unfolding types_plan flat_map word_in there_of used_by two
  types-went zero k used out e = record { types = []; count = refl; small = tt; end = used; span = no_span codecs used; then = rw (append-nil out) e }
  types-went (suc n) k used out e =
      let w = number-went Codecs (λ v. types_plan n k) used out e in
      let v = get_or codecs (used + 0) 0 in
      let r = types-went n k (used + 1) (out ++ bytes8 v) w.then in
      record {
        types = v ∷ r.types;
        count = ap suc r.count;
        small = (w.small, r.small);
        end = r.end;
        span = span-join codecs used (v ∷ []) (used + 1) r.types r.end (span-word codecs used (leb-true (used + 1) (length codecs) w.there)) r.span;
        then = rw (append_assoc out (bytes8 v) (flat_map bytes8 r.types)) at r.then;
      }

  record CodecsWent (n : ℕ) (k : Plan) (used : ℕ) (out : List ℕ) : Type 0 where
    pub listed : List Codec
    pub count : length listed ≡ n
    pub inside : Each CodecIn listed
    pub words : List ℕ
    pub say : CodecsSay given listed words
    pub end : ℕ
    pub span : Span codecs used words end
    pub then : write init codecs given k end (out ++ flat_map codec_bytes listed) ≡ wrote u m

  codecs-went : (n : ℕ) (k : Plan) (used : ℕ) (out : List ℕ) → write init codecs given (codecs_plan n k) used out ≡ wrote u m → CodecsWent n k used out
  unfolding codecs_plan flat_map word_in there_of used_by two codec_bytes numbered counted
  codecs-went zero k used out e =
      record { listed = []; count = refl; inside = tt; words = []; say = refl; end = used; span = no_span codecs used; then = rw (append-nil out) e }
  codecs-went (suc n) k used out e =
      let more : ℕ → Plan = λ t. types_plan t (codecs_plan n k) in
      let x = text-went Codecs (λ c. item Number Codecs more) used out e in
      let uri = x.2.text in
      let place = get_or codecs (used + 0) 0 in
      let c = number-went Codecs more (used + 2) (out ++ (bytes8 (length uri) ++ uri)) x.2.then in
      let t = types-went (get_or codecs (used + 2 + 0) 0) (codecs_plan n k) (used + 2 + 1) _ c.then in
      let r = codecs-went n k t.end _ t.then in
      let s₁ = span-is codecs used _ (place ∷ length uri ∷ []) (used + 2) (ap (λ (j : ℕ). place ∷ j ∷ []) x.2.stretch.counts)
      (span-words codecs used (leb-true (used + 2) (length codecs) x.0)) in
      let s₂ = span-is codecs (used + 2) _ (length t.types ∷ []) (used + 2 + 1) (ap (λ (j : ℕ). j ∷ []) (sym t.count))
      (span-word codecs (used + 2) (leb-true (used + 2 + 1) (length codecs) c.there)) in
      let s₃ = span-join codecs used (place ∷ length uri ∷ []) (used + 2) (length t.types ∷ []) (used + 2 + 1) s₁ s₂ in
      let s₄ = span-join codecs (used + 2 + 1) t.types t.end r.words r.end t.span r.span in
      record {
        listed = record { uri = uri; types = t.types } ∷ r.listed;
        count = ap suc r.count;
        inside = (
          record {
            uri = record { few = rw x.2.stretch.counts at x.1; bytes = x.2.bytes };
            few = rw (sym t.count) at c.small;
            types = t.small;
          },
          r.inside,
        );
        words = place ∷ length uri ∷ length t.types ∷ (t.types ++ r.words);
        say = (r.words, record { place = place; uri = rw x.2.stretch.counts at x.2.stretch; are = refl }, r.say);
        end = r.end;
        span = span-join codecs used (place ∷ length uri ∷ length t.types ∷ []) (used + 2 + 1) (t.types ++ r.words) r.end s₃ s₄;
        then = moved k r.end _ _ (codec-out out (record { uri = uri; types = t.types }) r.listed (get_or codecs (used + 2 + 0) 0) t.count) r.then;
      }

  record SchemasWent (n slot : ℕ) (k : Plan) (used : ℕ) (out : List ℕ) : Type 0 where
    pub listed : List Schema
    pub count : length listed ≡ n
    pub inside : Each SchemaIn listed
    pub words : List ℕ
    pub say : SchemasSay init given slot listed words
    pub end : ℕ
    pub span : Span codecs used words end
    pub then : write init codecs given k end (out ++ flat_map schema_bytes listed) ≡ wrote u m

  schemas-went : (n slot : ℕ) (k : Plan) (used : ℕ) (out : List ℕ) → write init codecs given (schemas_plan n slot k) used out ≡ wrote u m → SchemasWent n slot k used out
  unfolding schemas_plan flat_map word_in there_of used_by two counted
  schemas-went zero slot k used out e =
      record { listed = []; count = refl; inside = tt; words = []; say = refl; end = used; span = no_span codecs used; then = rw (append-nil out) e }
  schemas-went (suc n) slot k used out e =
      let at₀ : slot + 0 ≡ slot = omega arith in
      let at₂ : slot + 2 + 0 ≡ slot + 2 = omega arith in
      let at₃ : slot + 2 + 1 ≡ slot + 3 = omega arith in
      let at₄ : slot + 4 + 0 ≡ slot + 4 = omega arith in
      let after : Plan = schemas_plan n (slot + 5) k in
      let count : ℕ → Plan = λ c. codecs_plan c after in
      let hint : ℕ → Plan = λ x. item Number (Init (slot + 4)) count in
      let x = uri-went (Init slot) (λ x. item Text (Init (slot + 2)) hint) used out e in
      let uri = x.2.text in
      let y = text-went (Init (slot + 2)) hint used (out ++ (bytes8 (length uri) ++ uri)) x.2.then in
      let found = y.2.text in
      let c = number-went (Init (slot + 4)) count used (out ++ (bytes8 (length uri) ++ uri) ++ (bytes8 (length found) ++ found)) y.2.then in
      let d = codecs-went (get_or init (slot + 4 + 0) 0) after used _ c.then in
      let r = schemas-went n (slot + 5) k d.end _ d.then in
      let s : Schema = record { uri = uri; hint = found; codecs = d.listed } in
      record {
        listed = s ∷ r.listed;
        count = ap suc r.count;
        inside = (
          record {
            some = omega (arith, x.0, x.2.stretch.counts);
            uri = record { few = rw x.2.stretch.counts at x.1; bytes = x.2.bytes };
            hint = record { few = rw y.2.stretch.counts at y.1; bytes = y.2.bytes };
            few = rw (sym d.count) at c.small;
            codecs = d.inside;
          },
          r.inside,
        );
        words = d.words ++ r.words;
        say = (d.words, r.words, record { uri = rw at₀ at x.2.stretch; hint = rw (at₂, at₃) at y.2.stretch; count = ap (λ (j : ℕ). get_or init j 0) (sym at₄) ∙ sym d.count; codecs = d.say; are = refl }, r.say);
        end = r.end;
        span = span-join codecs used d.words d.end r.words r.end d.span r.span;
        then = moved k r.end _ _ (schema-out out s r.listed (get_or init (slot + 4 + 0) 0) d.count) r.then;
      }

  record FeaturesWent (used : ℕ) (out : List ℕ) : Type 0 where
    pub features : Features
    pub inside : FeaturesIn features
    pub unit : get_or init 2 0 ≤ most_unit
    pub say : FeaturesSay 0 init features
    pub then : write init codecs given (listed (refers features)) used (out ++ feature_bytes (get_or init 2 0) features (noughts features)) ≡ wrote u m

  features-went : (used : ℕ) (out : List ℕ) → write init codecs given (item UnitByte (Init 2) (λ b. features_plan (eqb (b / 16 % 2) 1))) used out ≡ wrote u m → FeaturesWent used out
  unfolding features_plan word_in used_by value_of content_of content head_of head_bytes feature_bytes noughts refers
  features-went used out e =
      let w = went UnitByte (Init 2) (λ b. features_plan (eqb (b / 16 % 2) 1)) used out e in
      let v = unit-value (get_or init 2 0) (get_or init 3 0) w.number w.says in
      by (ℕ_discrete (get_or init 3 0) 0) w.number v.0 v.1 w.then
    where
      a : ℕ
      a = get_or init 2 0

      plainly : (n : ℕ) → get_or init 3 0 ≡ 0 → a ≤ most_unit → n ≡ 32 * a + 31
          → write init codecs given (features_plan (eqb (n / 16 % 2) 1)) used (out ++ (n ∷ [])) ≡ wrote u m → FeaturesWent used out
      plainly n z l d h =
          let bit : eqb (n / 16 % 2) 1 ≡ true = eq-eqb (n / 16 % 2) 1 (omega arith) in
          let h' : write init codecs given (features_plan true) used (out ++ (n ∷ [])) ≡ wrote u m = rw bit at h in
          let w = went NoFlags (Init 4) (λ x. listed false) used (out ++ (n ∷ [])) h' in
          let k = none-value (get_or init 4 0) (get_or init 5 0) w.number w.says in
          record { features = plain; inside = tt; unit = l; say = (z, k.1, k.2); then = moved (listed false) used _ _ (append-nil (out ++ (n ∷ [])) ∙ ap (λ (j : ℕ). out ++ (j ∷ [])) d) w.then }

      flagging : (n : ℕ) → a ≤ most_unit → n ≡ 32 * a + 15
          → write init codecs given (features_plan (eqb (n / 16 % 2) 1)) used (out ++ (n ∷ [])) ≡ wrote u m → FeaturesWent used out
      flagging n l d h =
          let bit : eqb (n / 16 % 2) 1 ≡ false = ne_eqb (n / 16 % 2) 1 (λ z. omega arith) in
          let h' : write init codecs given (features_plan false) used (out ++ (n ∷ [])) ≡ wrote u m = rw bit at h in
          let w = went Length (Init 3) (λ x. item (Flags x) (Init 4) (λ b. listed (eqb (b / 8 % 2) 1))) used (out ++ (n ∷ [])) h' in
          let k = length-value (get_or init 3 0) w.number w.says in
          let y = went (Flags w.number) (Init 4) (λ b. listed (eqb (b / 8 % 2) 1)) used _ w.then in
          let f = flags-value (get_or init 4 0) (get_or init 5 0) y.number y.says in
          record {
            features = flagged w.number (get_or init 4 0);
            inside = (k.1, k.2, f.1, f.2);
            unit = l;
            say = (k.0, refl, f.3);
            then = flag w.number y.number f.0 y.then;
          }
        where
          flag : (x y : ℕ) → y ≡ 2 * get_or init 4 0
              → write init codecs given (listed (eqb (y / 8 % 2) 1)) used (out ++ (n ∷ []) ++ (bytes8 x ++ []) ++ (y ∷ replicate (x - 1) 0)) ≡ wrote u m
              → write init codecs given (listed (eqb (get_or init 4 0 / 4 % 2) 1)) used (out ++ ((32 * a + 15) ∷ (bytes8 x ++ ((2 * get_or init 4 0 + 0) ∷ replicate (x - 1) 0)))) ≡ wrote u m
          flag x y g t =
              let q : y / 8 ≡ get_or init 4 0 / 4 = omega arith in
              let z : 2 * get_or init 4 0 + 0 ≡ y = omega arith in
              let t' : write init codecs given (listed (eqb (get_or init 4 0 / 4 % 2) 1)) used (out ++ (n ∷ []) ++ (bytes8 x ++ []) ++ (y ∷ replicate (x - 1) 0)) ≡ wrote u m = rw q at t in
              moved (listed (eqb (get_or init 4 0 / 4 % 2) 1)) used _ _ (rw (z, ← d) (simp (append_assoc, append-nil))) t'

      by : Dec (get_or init 3 0 ≡ 0) → (n : ℕ) → a ≤ most_unit → n ≡ 32 * a + cond (eqb (get_or init 3 0) 0) 31 15
          → write init codecs given (features_plan (eqb (n / 16 % 2) 1)) used (out ++ (n ∷ [])) ≡ wrote u m → FeaturesWent used out
      by (yes z) n l d h = plainly n z l (rw (eq-eqb (get_or init 3 0) 0 z) at d) h
      by (no z) n l d h = flagging n l (rw (ne_eqb (get_or init 3 0) 0 z) at d) h

  record FormatsWent (r : Bool) (used : ℕ) (out : List ℕ) : Type 0 where
    pub formats : List ℕ
    pub inside : FormatsIn r formats
    pub say : FormatsSay init given r formats
    pub then : write init codecs given description_plan used (out ++ format_bytes r formats) ≡ wrote u m

  formats-went : (r : Bool) (used : ℕ) (out : List ℕ) → write init codecs given (formats_plan r) used out ≡ wrote u m → FormatsWent r used out
  unfolding formats_plan word_in used_by value_of lies_of content_of content head_of head_bytes format_bytes
  formats-went true used out e =
      let w = went Formats (Init 8) (λ x. description_plan) used out e in
      let v = within-value (get_or init 9 0) most_formats 1 w.number w.says in
      let l = leb-true (get_or init 8 0 + w.number) (length given) w.lies in
      let text = take w.number (drop (get_or init 8 0) given) in
      let n : length text ≡ w.number = length-take-le w.number (drop (get_or init 8 0) given) (omega (arith, length-drop (get_or init 8 0) given)) in
      record {
        formats = text;
        inside = (omega (arith, v.0, v.1), each_take Byte w.number (drop (get_or init 8 0) given) (each-drop Byte (get_or init 8 0) given octets));
        say = record { counts = sym v.0 ∙ sym n; lies = omega (arith, v.0); stands = ap (λ (j : ℕ). take j (drop (get_or init 8 0) given)) (sym v.0) };
        then = moved description_plan used _ _ (ap (λ (j : ℕ). out ++ (j ∷ text)) (sym n)) w.then;
      }
  formats-went false used out e =
      let w = went NoFormats (Init 9) (λ x. description_plan) used out e in
      let v = zero-value (get_or init 9 0) w.number w.says in
      record { formats = []; inside = refl; say = v.1; then = w.then }

  record WholeWent : Type 0 where
    pub means : Meaning
    pub within : Within means
    pub profile : get_or init 1 0 ≡ means.profile
    pub unit : get_or init 2 0 ≡ means.unit
    pub features : FeaturesSay 0 init means.features
    pub count : get_or init 6 0 ≡ length means.schemas
    pub words : List ℕ
    pub schemas : SchemasSay init given 12 means.schemas words
    pub formats : FormatsSay init given (refers means.features) means.formats
    pub description : Stretch given (get_or init 10 0) (get_or init 11 0) means.description
    pub span : Span codecs 0 words u
    pub spells : m ≡ spelt means

  whole-went : write init codecs given plan 0 [] ≡ wrote u m → WholeWent
  unfolding plan write word_in used_by value_of content_of content head_of head_bytes
  whole-went e =
      let p = number-went (Init 1) (λ x. item UnitByte (Init 2) (λ b. features_plan (eqb (b / 16 % 2) 1))) 0 [] e in
      let o₁ = bytes8 (get_or init 1 0) in
      let f = features-went 0 o₁ p.then in
      let o₂ = o₁ ++ feature_bytes (get_or init 2 0) f.features (noughts f.features) in
      let r = refers f.features in
      let c = went Schemas (Init 6) (λ x. schemas_plan x 12 (formats_plan r)) 0 o₂ f.then in
      let o₃ = o₂ ++ (bytes8 c.number ++ []) in
      let v = schemas-value (get_or init 6 0) c.number c.says in
      let s = schemas-went c.number 12 (formats_plan r) 0 o₃ c.then in
      let o₄ = o₃ ++ flat_map schema_bytes s.listed in
      let g = formats-went r s.end o₄ s.then in
      let o₅ = o₄ ++ format_bytes r g.formats in
      let d = text-went (Init 10) (λ x. done) s.end o₅ g.then in
      let n : get_or init 6 0 ≡ length s.listed = sym v.0 ∙ sym s.count in
      let means : Meaning = record { profile = get_or init 1 0; unit = get_or init 2 0; features = f.features; schemas = s.listed; formats = g.formats; description = d.2.text } in
      let z = all s.end (o₅ ++ (bytes8 (length d.2.text) ++ d.2.text)) d.2.then in
      record {
        means = means;
        within = record {
          profile = p.small;
          unit = f.unit;
          features = f.inside;
          some = rw n at v.1;
          few = rw n at v.2;
          schemas = s.inside;
          formats = g.inside;
          description = record { few = rw d.2.stretch.counts at d.1; bytes = d.2.bytes };
        };
        profile = refl;
        unit = refl;
        features = f.say;
        count = n;
        words = s.words;
        schemas = s.say;
        formats = g.say;
        description = d.2.stretch;
        span = rw z.0 at s.span;
        spells = sym z.1 ∙ whole_out means c.number s.count;
      }
    where
      all : (q : ℕ) (o : List ℕ) → wrote q o ≡ wrote u m → (q ≡ u) × (o ≡ m)
      all q o h = (cc, cc)

-- (b) the second half: what the writer writes is the spelling of a meaning that its words say
pub record Meant (init codecs given : List ℕ) (room used : ℕ) (bytes : List ℕ) : Type 0 where
  pub means : Meaning
  pub within : Within means
  pub says : Says 0 init codecs given means
  pub counts : used ≡ get_or init 7 0
  pub spells : bytes ≡ spelt means
  pub fits : length bytes ≤ room

pub written-said : (init codecs given : List ℕ) (room used : ℕ) (bytes : List ℕ) → Each Byte given → init_write init codecs given room ≡ wrote used bytes → Meant init codecs given room used bytes
unfolding init_write closed
written-said init codecs given room used bytes octets e = by-leb (leb n (length codecs)) refl e
  where
    n : ℕ
    n = get_or init 7 0

    lent : List ℕ
    lent = take n codecs

    by-room : (u : ℕ) (m : List ℕ) → n ≤ length codecs → write init lent given plan 0 [] ≡ wrote u m → n ≤ u → (t : Bool) → leb (length m) room ≡ t
        → cond t (wrote u m) (refused payload_room 0) ≡ wrote used bytes → Meant init codecs given room used bytes
    by-room u m k w l true t h =
        let g = whole-went init lent given octets u m w in
        let len : length lent ≡ n = length-take-le n codecs k in
        let a = span-all lent g.words u g.span (omega arith) in
        let eq : (u ≡ used) × (m ≡ bytes) = (cc, cc) in
        record {
          means = g.means;
          within = g.within;
          says = record {
            profile = g.profile;
            unit = g.unit;
            features = g.features;
            count = g.count;
            used = k;
            schemas = rw (sym a.0) at g.schemas;
            formats = g.formats;
            description = g.description;
          };
          counts = sym eq.0 ∙ a.1 ∙ len;
          spells = sym eq.1 ∙ g.spells;
          fits = rw eq.1 at (leb-true (length m) room t);
        }
    by-room u m k w l false t h = absurd (no-wrote payload_room 0 used bytes refl h)

    by-used : (u : ℕ) (m : List ℕ) → n ≤ length codecs → write init lent given plan 0 [] ≡ wrote u m → (t : Bool) → ltb u n ≡ t
        → cond t (refused no_reading (init_words + u)) (cond (leb (length m) room) (wrote u m) (refused payload_room 0)) ≡ wrote used bytes → Meant init codecs given room used bytes
    by-used u m k w true t h = absurd (no-wrote no_reading (init_words + u) used bytes refl h)
    by-used u m k w false t h = by-room u m k w (ltb-false u n t) (leb (length m) room) refl h

    by-write : (x : Writing) → n ≤ length codecs → write init lent given plan 0 [] ≡ x → closed n room x ≡ wrote used bytes → Meant init codecs given room used bytes
    by-write (wrote u m) k w h = by-used u m k w (ltb u n) refl h
    by-write (refused f at) k w h = absurd (no-wrote f at used bytes refl h)

    by-leb : (t : Bool) → leb n (length codecs) ≡ t → cond t (closed n room (write init lent given plan 0 [])) (refused no_reading 7) ≡ wrote used bytes → Meant init codecs given room used bytes
    by-leb true t h = by-write (write init lent given plan 0 []) (leb-true n (length codecs) t) refl h
    by-leb false t h = absurd (no-wrote no_reading 7 used bytes refl h)
