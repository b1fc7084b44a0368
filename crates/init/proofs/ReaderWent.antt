-- (a) THE READER, where it accepts, was given the spelling of a meaning, but for what is stepped over, and its words say that meaning.
use Prim.Native.Nat.{ℕ, zero, suc, ◌+◌, ◌-◌, ◌*◌, ◌/◌, ◌%◌, ◌≤◌, ◌<◌}
use mathlib.Core.Path.{◌≡◌, refl, sym, ap, ap₂, ◌∙◌}
use mathlib.Core.Bool.{Bool, true, false, cond}
use mathlib.Core.List.{List, [], ◌∷◌, ◌++◌, flat_map, append-nil, append_assoc}
use native.Mathlib.Omega.{arith}
use native.Mathlib.Decide.{dec_lt, dec_le, ℕ_discrete}
use native.Mathlib.Numerals.{add-one}
use borrow.Author.Tests.{lt-ltb, le-ltb, eq-eqb, ne_eqb, lt-leb, leb-true, ltb-false}
use lib.Dec.{leb, eqb, ltb}
use lib.ListN.{length, get_or, set, take, drop, replicate, length-set, length-append}
use lib.Seq.{sets, length-sets, get_or-set_same, get_or-set_other, take-length}
use Rattle.numbers.specs.Refusal.{accepted, past_end, not_shortest, too_large, event_room, left_over, no_such_code}
use Rattle.numbers.specs.Limit.{most_message, init_words, most_schemas, most_unit}
use Rattle.wire.specs.Res.{Res, got, fault, ◌>>=◌}
use Rattle.init.specs.declared.Item.{Item}
use Rattle.init.specs.declared.Item.TheVariants.{Number, UnitByte, Length, Flags, Schemas, Uri, Text, Formats, NoFlags, NoFormats}
use Rattle.init.specs.declared.Slot.{Slot}
use Rattle.init.specs.declared.Slot.TheVariants.{Init, Codecs}
use Rattle.init.specs.Items.{Head, second_at, number_at, head_of, head_at, before, body, after, item_at, two, one, other, laid, words, bytes8, head_bytes}
use Rattle.init.specs.Items.Head.{eight, byte, nothing}
use Rattle.init.specs.Plan.{Plan, types as types_plan, codecs as codecs_plan, schemas as schemas_plan, formats as formats_plan, features as features_plan, description as description_plan, listed, plan}
use Rattle.init.specs.Plan.Plan.{done, item}
use Rattle.init.specs.Read.{Reading, on_item, store, read, wall_of, ended, init_read}
use Rattle.init.specs.Read.Reading.{given, refused}
use Rattle.init.specs.Writes.{most_of}
use Rattle.init.specs.Meaning.{Codec, Schema, Features, Meaning, Over, refers, counted, numbered, codec_bytes, schema_bytes, feature_bytes, format_bytes, spelling, Each, Byte, Small, CodecIn, SchemaIn, FeaturesIn, FormatsIn, Within, OverIn}
use Rattle.init.specs.Meaning.Features.{plain, flagged}
use Rattle.init.specs.Says.{Stretch, CodecsSay, SchemasSay, FeaturesSay, FormatsSay, Says}
use Rattle.init.proofs.ItemWays.{byte-is, byte-no}
use Rattle.init.proofs.Found.{no-got, got_same, byte-goes, item-seen}
use Rattle.init.proofs.Codes.{short8, long8}
use Rattle.init.proofs.Spans.{Span, no_span, span-join, span-is, span-one, span-take, span-stretch, span-all, each_take, each-drop, codec-words}

-- WHERE WORDS STAY. A plan does not write the word j of init.
abbrev Away : Slot → ℕ → Type 0
Away (Init a) j = (j ≡ a → ⊥) × (j ≡ a + 1 → ⊥)
Away Codecs j = Unit {0}

abbrev Keeps : Plan → ℕ → Type 0
Keeps done j = Unit {0}
Keeps (item i slot k) j = Away slot j × ((v : ℕ) → Keeps (k v) j)

keeps-types : (n : ℕ) (k : Plan) (j : ℕ) → Keeps k j → Keeps (types_plan n k) j
unfolding types_plan
keeps-types zero k j h = h
keeps-types (suc n) k j h = (tt, λ v. keeps-types n k j h)

keeps-codecs : (n : ℕ) (k : Plan) (j : ℕ) → Keeps k j → Keeps (codecs_plan n k) j
unfolding codecs_plan
keeps-codecs zero k j h = h
keeps-codecs (suc n) k j h = (tt, λ u. (tt, λ t. keeps-types t (codecs_plan n k) j (keeps-codecs n k j h)))

keeps-schemas : (n slot : ℕ) (k : Plan) (j : ℕ) → j < slot → Keeps k j → Keeps (schemas_plan n slot k) j
unfolding schemas_plan
keeps-schemas zero slot k j l h = h
keeps-schemas (suc n) slot k j l h = (
  ((λ z. omega arith), (λ z. omega arith)),
  λ u. (
    ((λ z. omega arith), (λ z. omega arith)),
    λ t. (((λ z. omega arith), (λ z. omega arith)), λ c. keeps-codecs c (schemas_plan n (slot + 5) k) j (keeps-schemas n (slot + 5) k j (omega arith) h)),
  ),
)

keeps-formats : (r : Bool) (j : ℕ) → 12 ≤ j → Keeps (formats_plan r) j
unfolding formats_plan
keeps-formats true j h = (((λ z. omega arith), (λ z. omega arith)), λ f. (((λ z. omega arith), (λ z. omega arith)), λ d. tt))
keeps-formats false j h = (((λ z. omega arith), (λ z. omega arith)), λ f. (((λ z. omega arith), (λ z. omega arith)), λ d. tt))

formats-keep : (r : Bool) (j : ℕ) → j < 8 → Keeps (formats_plan r) j
unfolding formats_plan
formats-keep true j h = (((λ z. omega arith), (λ z. omega arith)), λ f. (((λ z. omega arith), (λ z. omega arith)), λ d. tt))
formats-keep false j h = (((λ z. omega arith), (λ z. omega arith)), λ f. (((λ z. omega arith), (λ z. omega arith)), λ d. tt))

keeps-listed : (r : Bool) (j : ℕ) → j < 6 → Keeps (listed r) j
keeps-listed r j h = (((λ z. omega arith), (λ z. omega arith)), λ n. keeps-schemas n 12 (formats_plan r) j (omega arith) (formats-keep r j (omega arith)))

-- words laid at a place stand there, and the others stay
laid-away : (init : List ℕ) (a : ℕ) (t : Bool) (x y j : ℕ) → (j ≡ a → ⊥) → (j ≡ a + 1 → ⊥) → get_or (sets init a (laid t x y)) j 0 ≡ get_or init j 0
unfolding laid
laid-away init a true x y j h k =
    get_or-set_other (set init a x) (suc a) j y 0 (λ z. k (omega arith)) ∙ get_or-set_other init a j x 0 h
laid-away init a false x y j h k = get_or-set_other init a j x 0 h

word-one : (init : List ℕ) (a x : ℕ) → a < length init → get_or (sets init a (x ∷ [])) a 0 ≡ x
word-one init a x h = get_or-set_same init a x 0 h

word_first : (init : List ℕ) (a x y : ℕ) → a + 1 < length init → get_or (sets init a (x ∷ y ∷ [])) a 0 ≡ x
word_first init a x y h = get_or-set_other (set init a x) (suc a) a y 0 (λ z. omega arith) ∙ get_or-set_same init a x 0 (omega arith)

word-second : (init : List ℕ) (a x y : ℕ) → a + 1 < length init → get_or (sets init a (x ∷ y ∷ [])) (a + 1) 0 ≡ y
word-second init a x y h = rw (add-one a) (get_or-set_same (set init a x) (suc a) y 0 (omega (arith, length-set init a x)))

-- a reading that refuses gives nothing
no-given : {w : Reading} (e k : ℕ) (I C : List ℕ) (q : ℕ) → w ≡ refused e k → w ≡ given I C q → ⊥
no-given e k I C q a b = let z : ◌≡◌ {A = ℕ} 0 1 = cc in omega arith

each_at : (P : ℕ → Type 0) (l : List ℕ) (i : ℕ) → Each P l → i < length l → P (get_or l i 0)
each_at P [] i h l = absurd (omega arith)
each_at P (x ∷ xs) zero h l = h.0
each_at P (x ∷ xs) (suc i) h l = each_at P xs i h.1 (omega arith)

-- what a number that was judged good is
some-judged : (v : ℕ) → cond (eqb v 0) no_such_code accepted ≡ accepted → 1 ≤ v
some-judged v e = elim (ℕ_discrete v 0) [
  | yes z ↦ absurd (let g : 14 ≡ 0 = rw (eq-eqb v 0 z) at e in omega arith)
  | no z ↦ omega arith
]

unit-judged : (v : ℕ) → before UnitByte v ≡ accepted → (v % 16 ≡ 15) × (v / 32 ≤ most_unit)
unfolding before
unit-judged v e = elim (ℕ_discrete (v % 16) 15) [
  | no h ↦ absurd (let g : 28 ≡ 0 = rw (ne_eqb (v % 16) 15 h) at e in omega arith)
  | yes h ↦ elim (dec_le (v / 32) most_unit) [
    | no k ↦ absurd (let g : 14 ≡ 0 = rw (eq-eqb (v % 16) 15 h, lt-leb (v / 32) most_unit (omega arith)) at e in omega arith)
    | yes k ↦ (h, k)
  ]
]

schemas-judged : (v : ℕ) → before Schemas v ≡ accepted → (1 ≤ v) × (v ≤ most_schemas)
unfolding before
schemas-judged v e = elim (ℕ_discrete v 0) [
  | yes z ↦ absurd (let g : 29 ≡ 0 = rw (eq-eqb v 0 z) at e in omega arith)
  | no z ↦ elim (dec_le v most_schemas) [
    | no k ↦ absurd (let g : 30 ≡ 0 = rw (ne_eqb v 0 z, lt-leb v most_schemas (omega arith)) at e in omega arith)
    | yes k ↦ (omega arith, k)
  ]
]

flags-judged : (n v : ℕ) → after (Flags n) v ≡ accepted → v / 16 % 8 ≡ 0
unfolding after
flags-judged n v e = elim (ℕ_discrete (v / 16 % 8) 0) [
  | no h ↦ absurd (let g : 34 ≡ 0 = rw (ne_eqb (v / 16 % 8) 0 h) at e in omega arith)
  | yes h ↦ h
]

keeps-features : (b : Bool) (j : ℕ) → j < 3 → Keeps (features_plan b) j
unfolding features_plan
keeps-features true j h = (((λ z. omega arith), (λ z. omega arith)), λ u. keeps-listed false j (omega arith))
keeps-features false j h = (((λ z. omega arith), (λ z. omega arith)), λ n. (((λ z. omega arith), (λ z. omega arith)), λ b. keeps-listed (eqb (b / 8 % 2) 1) j (omega arith)))

module _ (s : List ℕ) (octets : Each Byte s) (wall : ℕ) (low : wall ≤ length s) where
  second-span : (x at v p : ℕ) → second_at s wall x at ≡ got (v, p) → (at < wall) × (get_or s at 0 < 128) × (1 ≤ x) × (v ≡ x * 128 + get_or s at 0) × (p ≡ at + 1)
  unfolding second_at ◌>>=◌
  second-span x at v p e = elim (dec_lt at wall) [
    | no h ↦ absurd (no-got past_end (v, p) (rw (byte-no s wall at (omega arith))) e)
    | yes h ↦ last h (get_or s at 0) refl (rw (byte-is s wall at h) at e)
  ]
    where
      last : at < wall → (y : ℕ) → get_or s at 0 ≡ y
          → cond {A = Res (ℕ × ℕ)} (ltb y 128) (cond {A = Res (ℕ × ℕ)} (eqb x 0) (fault not_shortest) (got (x * 128 + y, at + 1))) (fault too_large) ≡ got (v, p)
          → (at < wall) × (get_or s at 0 < 128) × (1 ≤ x) × (v ≡ x * 128 + get_or s at 0) × (p ≡ at + 1)
      last h y d f = elim (dec_lt y 128) [
        | no k ↦ absurd (no-got too_large (v, p) (rw (le-ltb y 128 (omega arith))) f)
        | yes k ↦ elim (ℕ_discrete x 0) [
          | yes z ↦ absurd (no-got not_shortest (v, p) (rw (lt-ltb y 128 k, eq-eqb x 0 z)) f)
          | no z ↦
              let g : ◌≡◌ {A = ℕ × ℕ} (v, p) (x * 128 + y, at + 1) = got_same _ _ f (rw (lt-ltb y 128 k, ne_eqb x 0 z)) in
              (h, omega arith, omega arith, omega (arith, ap (λ (r : ℕ × ℕ). r.0) g), ap (λ (r : ℕ × ℕ). r.1) g)
        ]
      ]

  number-span : (at v p : ℕ) → number_at s wall at ≡ got (v, p) → Span s at (bytes8 v) p × Small v
  unfolding number_at ◌>>=◌
  number-span at v p e = elim (dec_lt at wall) [
    | no h ↦ absurd (no-got past_end (v, p) (rw (byte-no s wall at (omega arith))) e)
    | yes h ↦ by h (get_or s at 0) refl (each_at Byte s at octets (omega arith)) (rw (byte-is s wall at h) at e)
  ]
    where
      by : at < wall → (x : ℕ) → get_or s at 0 ≡ x → get_or s at 0 < 256 → cond {A = Res (ℕ × ℕ)} (ltb x 128) (got (x, at + 1)) (second_at s wall (x - 128) (at + 1)) ≡ got (v, p)
          → Span s at (bytes8 v) p × Small v
      by h x d o f = elim (dec_lt x 128) [
        | yes k ↦
            let g : ◌≡◌ {A = ℕ × ℕ} (v, p) (x, at + 1) = got_same _ _ f (rw (lt-ltb x 128 k)) in
            let gv : v ≡ x = ap (λ (r : ℕ × ℕ). r.0) g in
            let gp : p ≡ at + 1 = ap (λ (r : ℕ × ℕ). r.1) g in
            let w : Span s at (get_or s at 0 ∷ []) (at + 1) = span-one s at (omega arith) in
            (rw gp (span-is s at _ (bytes8 v) (at + 1) (ap (λ (j : ℕ). j ∷ []) (d ∙ sym gv) ∙ sym (short8 v (omega arith))) w), omega arith)
        | no k ↦
            let g = second-span (x - 128) (at + 1) v p (rw (le-ltb x 128 (omega arith)) at f) in
            let y = get_or s (at + 1) 0 in
            let in₁ = g.0 in
            let small = g.1 in
            let gv = g.3 in
            let w = span-join s at (get_or s at 0 ∷ []) (at + 1) (y ∷ []) (at + 1 + 1) (span-one s at (omega arith)) (span-one s (at + 1) (omega arith)) in
            let a : get_or s at 0 ≡ 128 + v / 128 = omega arith in
            let b : y ≡ v % 128 = omega arith in
            (rw g.4 (span-is s at _ (bytes8 v) (at + 1 + 1) (ap₂ (λ (j l : ℕ). j ∷ l ∷ []) a b ∙ sym (long8 v (omega arith))) w), omega arith)
      ]

  head-span : (h : Head) (at v p : ℕ) → head_at h s wall at ≡ got (v, p) → Span s at (head_bytes h v) p × (v ≤ most_of h)
  unfolding head_at head_bytes most_of
  head-span eight at v p e = number-span at v p e
  head-span byte at v p e =
      let g = byte-goes s wall at v p e in
      let w = span-one s at (omega (arith, g.2)) in
      let o = each_at Byte s at octets (omega (arith, g.2)) in
      (rw g.1 (span-is s at _ (v ∷ []) (at + 1) (ap (λ (j : ℕ). j ∷ []) (sym g.0)) w), omega (arith, g.0))
  head-span nothing at v p e =
      let g : ◌≡◌ {A = ℕ × ℕ} (0, at) (v, p) = got_same {m = got (0, at)} _ _ refl e in
      let gv : 0 ≡ v = ap (λ (r : ℕ × ℕ). r.0) g in
      let gp : at ≡ p = ap (λ (r : ℕ × ℕ). r.1) g in
      (rw (← gp) (no_span s at), omega arith)

  -- an item that was read, with the bytes behind its number
  pub record ItemRead (i : Item) (at : ℕ) : Type 0 where
    pub number : ℕ
    pub place : ℕ
    pub end : ℕ
    pub text : List ℕ
    pub head : Span s at (head_bytes (head_of i) number) place
    pub most : number ≤ most_of (head_of i)
    pub judged : before i number ≡ accepted
    pub flagged : after i number ≡ accepted
    pub count : length text ≡ body i number
    pub rest : Span s place text end
    pub bytes : Each Byte text
    pub within : end ≤ wall

  item-read : (i : Item) (at v p q : ℕ) → item_at i s wall at ≡ got (v, p, q) → ItemRead i at
  item-read i at v p q e =
      let n = item-seen i s wall at v p q e in
      let h = head-span (head_of i) at v p n.head in
      let t = span-take s p (body i v) (omega (arith, n.passed.next, n.passed.within)) in
      record {
        number = v;
        place = p;
        end = q;
        text = take (body i v) (drop p s);
        head = h.0;
        most = h.1;
        judged = n.passed.judged;
        flagged = n.passed.flagged;
        count = t.0;
        rest = rw n.passed.next t.1;
        bytes = each_take Byte (body i v) (drop p s) (each-drop Byte p s octets);
        within = n.passed.within;
      }

  -- a text with its count, from an item's two spans
  text-span : (uri : List ℕ) (at v p q : ℕ) → length uri ≡ v → Span s at (bytes8 v) p → Span s p uri q → Span s at (counted uri) q
  unfolding counted
  text-span uri at v p q l h r = span-join s at (bytes8 (length uri)) p uri q (rw l h) r

  codec-span : (uri types : List ℕ) (at v p q n r z : ℕ) → length uri ≡ v → length types ≡ n → Span s at (bytes8 v) p → Span s p uri q → Span s q (bytes8 n) r
      → Span s r (flat_map bytes8 types) z → Span s at (codec_bytes (record { uri = uri; types = types })) z
  unfolding codec_bytes numbered
  codec-span uri types at v p q n r z l c h b w t =
      span-join s at (counted uri) q (bytes8 (length types) ++ flat_map bytes8 types) z (text-span uri at v p q l h b)
      (span-join s q (bytes8 (length types)) r (flat_map bytes8 types) z (rw c w) t)

  schema-span : (x : Schema) (at v p q v' p' q' n r z : ℕ) → length x.uri ≡ v → length x.hint ≡ v' → length x.codecs ≡ n
      → Span s at (bytes8 v) p → Span s p x.uri q → Span s q (bytes8 v') p' → Span s p' x.hint q' → Span s q' (bytes8 n) r
      → Span s r (flat_map codec_bytes x.codecs) z → Span s at (schema_bytes x) z
  unfolding schema_bytes numbered
  schema-span x at v p q v' p' q' n r z l l' c h b h' b' w t =
      let end = bytes8 (length x.codecs) ++ flat_map codec_bytes x.codecs in
      span-join s at (counted x.uri) q (counted x.hint ++ end) z (text-span x.uri at v p q l h b)
      (span-join s q (counted x.hint) q' end z (text-span x.hint q v' p' q' l' h' b')
      (span-join s q' (bytes8 (length x.codecs)) r (flat_map codec_bytes x.codecs) z (rw c w) t))

  stretch-at : (a b p : ℕ) (c : List ℕ) (q : ℕ) → a ≡ p → b ≡ length c → Span s p c q → q ≤ wall → Stretch s a b c
  stretch-at a b p c q e f h l = rw (e, f) (span-stretch s p c q h (omega arith))

  -- an item that is a number alone ends with it
  bare : (i : Item) (at : ℕ) (r : ItemRead i at) → body i r.number ≡ 0 → Span s at (head_bytes (head_of i) r.number) r.end
  bare i at r e =
      let n : r.end ≡ r.place = omega (arith, r.rest.ends, r.count, e) in rw n r.head

  -- J is what init is in the end, but for the word 7
  module _ (room : ℕ) (I C : List ℕ) (last : ℕ) (J : List ℕ) (same : (j : ℕ) → (j ≡ 7 → ⊥) → get_or J j 0 ≡ get_or I j 0) where
    on : (k : Plan) (q : ℕ) (init c c' : List ℕ) → c ≡ c' → read s wall room k q init c ≡ given I C last → read s wall room k q init c' ≡ given I C last
    on k q init c c' e h = rw e at h

    record InitRead (i : Item) (j : ℕ) (k : ℕ → Plan) (at : ℕ) (init codecs : List ℕ) : Type 0 where
      pub found : ItemRead i at
      pub then : read s wall room (k found.number) found.end (sets init j (words i found.number found.place)) codecs ≡ given I C last

    record CodecRead (i : Item) (k : ℕ → Plan) (at : ℕ) (init codecs : List ℕ) : Type 0 where
      pub found : ItemRead i at
      pub fits : length codecs + length (words i found.number found.place) ≤ room
      pub then : read s wall room (k found.number) found.end init (codecs ++ words i found.number found.place) ≡ given I C last

    init-read : (i : Item) (j : ℕ) (k : ℕ → Plan) (at : ℕ) (init codecs : List ℕ) → read s wall room (item i (Init j) k) at init codecs ≡ given I C last → InitRead i j k at init codecs
    unfolding read on_item store item-read
    init-read i j k at init codecs e = by (item_at i s wall at) refl e
      where
        by : (x : Res (ℕ × ℕ × ℕ)) → item_at i s wall at ≡ x
            → on_item x at (λ r. store (Init j) room at (words i r.0 r.1) init codecs (λ init' codecs'. read s wall room (k r.0) r.2 init' codecs')) ≡ given I C last
            → InitRead i j k at init codecs
        by (got (v, p, q)) h f = record { found = item-read i at v p q h; then = f }
        by (fault n) h f = absurd (no-given n at I C last refl f)

    codec-read : (i : Item) (k : ℕ → Plan) (at : ℕ) (init codecs : List ℕ) → read s wall room (item i Codecs k) at init codecs ≡ given I C last → CodecRead i k at init codecs
    unfolding read on_item store item-read
    codec-read i k at init codecs e = by (item_at i s wall at) refl e
      where
        fits : (v p q : ℕ) → item_at i s wall at ≡ got (v, p, q) → (t : Bool) → leb (length codecs + length (words i v p)) room ≡ t
            → cond t (read s wall room (k v) q init (codecs ++ words i v p)) (refused event_room at) ≡ given I C last → CodecRead i k at init codecs
        fits v p q h true l f = record { found = item-read i at v p q h; fits = leb-true (length codecs + length (words i v p)) room l; then = f }
        fits v p q h false l f = absurd (no-given event_room at I C last refl f)

        by : (x : Res (ℕ × ℕ × ℕ)) → item_at i s wall at ≡ x
            → on_item x at (λ r. store Codecs room at (words i r.0 r.1) init codecs (λ init' codecs'. read s wall room (k r.0) r.2 init' codecs')) ≡ given I C last
            → CodecRead i k at init codecs
        by (got (v, p, q)) h f = fits v p q h (leb (length codecs + length (words i v p)) room) refl f
        by (fault n) h f = absurd (no-given n at I C last refl f)

    kept : (p : Plan) (j : ℕ) → Keeps p j → (at : ℕ) (init codecs : List ℕ) → read s wall room p at init codecs ≡ given I C last → get_or I j 0 ≡ get_or init j 0
    unfolding read words
    kept done j h at init codecs e = let z : I ≡ init = cc in ap (λ (l : List ℕ). get_or l j 0) z
    kept (item i (Init a) k) j h at init codecs e =
        let r = init-read i a k at init codecs e in
        let v = r.found.number in
        kept (k v) j (h.1 v) r.found.end _ codecs r.then ∙ laid-away init a (two i) (one i v r.found.place) (other i v r.found.place) j h.0.0 h.0.1
    kept (item i Codecs k) j h at init codecs e =
        let r = codec-read i k at init codecs e in
        kept (k r.found.number) j (h.1 r.found.number) r.found.end init _ r.then

    roomy : (p : Plan) (at : ℕ) (init codecs : List ℕ) → length codecs ≤ room → read s wall room p at init codecs ≡ given I C last → length C ≤ room
    unfolding read
    roomy done at init codecs h e = let z : C ≡ codecs = cc in rw z h
    roomy (item i (Init a) k) at init codecs h e = let r = init-read i a k at init codecs e in roomy (k r.found.number) r.found.end _ codecs h r.then
    roomy (item i Codecs k) at init codecs h e =
        let r = codec-read i k at init codecs e in
        let ws = words i r.found.number r.found.place in
        roomy (k r.found.number) r.found.end init (codecs ++ ws) (rw (length-append codecs ws) r.fits) r.then

    stays : (p : Plan) (j : ℕ) → Keeps p j → (j ≡ 7 → ⊥) → (at : ℕ) (init codecs : List ℕ) → read s wall room p at init codecs ≡ given I C last → get_or J j 0 ≡ get_or init j 0
    stays p j h n at init codecs e = same j n ∙ kept p j h at init codecs e

    record TypesRead (n : ℕ) (k : Plan) (at : ℕ) (init codecs : List ℕ) : Type 0 where
      pub types : List ℕ
      pub count : length types ≡ n
      pub small : Each Small types
      pub end : ℕ
      pub span : Span s at (flat_map bytes8 types) end
      pub then : read s wall room k end init (codecs ++ types) ≡ given I C last

    types-read : (n : ℕ) (k : Plan) (at : ℕ) (init codecs : List ℕ) → read s wall room (types_plan n k) at init codecs ≡ given I C last → TypesRead n k at init codecs
    unfolding types_plan flat_map words two one other laid head_of head_bytes most_of body
    types-read zero k at init codecs e = record { types = []; count = refl; small = tt; end = at; span = no_span s at; then = rw (append-nil codecs) e }
    types-read (suc n) k at init codecs e =
        let c = codec-read Number (λ v. types_plan n k) at init codecs e in
        let v = c.found.number in
        let r = types-read n k c.found.end init (codecs ++ (v ∷ [])) c.then in
        record {
          types = v ∷ r.types;
          count = ap suc r.count;
          small = (c.found.most, r.small);
          end = r.end;
          span = span-join s at (bytes8 v) c.found.end (flat_map bytes8 r.types) r.end (bare Number at c.found refl) r.span;
          then = rw (append_assoc codecs (v ∷ []) r.types) at r.then;
        }

    record CodecsRead (n : ℕ) (k : Plan) (at : ℕ) (init codecs : List ℕ) : Type 0 where
      pub listed : List Codec
      pub count : length listed ≡ n
      pub inside : Each CodecIn listed
      pub words : List ℕ
      pub say : CodecsSay s listed words
      pub end : ℕ
      pub span : Span s at (flat_map codec_bytes listed) end
      pub then : read s wall room k end init (codecs ++ words) ≡ given I C last

    codecs-read : (n : ℕ) (k : Plan) (at : ℕ) (init codecs : List ℕ) → read s wall room (codecs_plan n k) at init codecs ≡ given I C last → CodecsRead n k at init codecs
    unfolding codecs_plan flat_map codec_bytes words two one other laid head_of head_bytes most_of body
    codecs-read zero k at init codecs e =
        record { listed = []; count = refl; inside = tt; words = []; say = refl; end = at; span = no_span s at; then = rw (append-nil codecs) e }
    codecs-read (suc n) k at init codecs e =
        let more : ℕ → Plan = λ t. types_plan t (codecs_plan n k) in
        let x = codec-read Text (λ u. item Number Codecs more) at init codecs e in
        let uri = x.found.text in
        let place = x.found.place in
        let l : length uri ≡ x.found.number = x.found.count in
        let c₁ = codecs ++ (place ∷ x.found.number ∷ []) in
        let c = codec-read Number more x.found.end init c₁ x.then in
        let c₂ = c₁ ++ (c.found.number ∷ []) in
        let t = types-read c.found.number (codecs_plan n k) c.found.end init c₂ c.then in
        let r = codecs-read n k t.end init (c₂ ++ t.types) t.then in
        let one : Codec = record { uri = uri; types = t.types } in
        record {
          listed = one ∷ r.listed;
          count = ap suc r.count;
          inside = (
            record {
              uri = record { few = rw (sym l) at x.found.most; bytes = x.found.bytes };
              few = rw (sym t.count) at c.found.most;
              types = t.small;
            },
            r.inside,
          );
          words = place ∷ length uri ∷ length t.types ∷ (t.types ++ r.words);
          say = (r.words, record { place = place; uri = span-stretch s place uri x.found.end x.found.rest (omega (arith, x.found.within)); are = refl }, r.say);
          end = r.end;
          span = span-join s at (codec_bytes one) t.end (flat_map codec_bytes r.listed) r.end
              (codec-span uri t.types at x.found.number place x.found.end c.found.number c.found.end t.end l t.count
              x.found.head x.found.rest (bare Number x.found.end c.found refl) t.span)
              r.span;
          then = on k r.end init _ _ (codec-words codecs uri t.types r.words place x.found.number c.found.number l t.count) r.then;
        }

    record SchemasRead (n slot : ℕ) (k : Plan) (at : ℕ) (init codecs : List ℕ) : Type 0 where
      pub listed : List Schema
      pub count : length listed ≡ n
      pub inside : Each SchemaIn listed
      pub words : List ℕ
      pub say : SchemasSay J s slot listed words
      pub end : ℕ
      pub span : Span s at (flat_map schema_bytes listed) end
      pub now : List ℕ
      pub size : length now ≡ init_words
      pub then : read s wall room k end now (codecs ++ words) ≡ given I C last

    schemas-read : (n slot : ℕ) (k : Plan) (at : ℕ) (init codecs : List ℕ) → length init ≡ init_words → 12 ≤ slot → slot + 5 * n ≤ init_words → ((j : ℕ) → 12 ≤ j → Keeps k j)
        → read s wall room (schemas_plan n slot k) at init codecs ≡ given I C last → SchemasRead n slot k at init codecs
    unfolding schemas_plan flat_map before words two one other laid head_of head_bytes most_of body
    schemas-read zero slot k at init codecs size low fits keep e =
        record { listed = []; count = refl; inside = tt; words = []; say = refl; end = at; span = no_span s at; now = init; size = size; then = rw (append-nil codecs) e }
    schemas-read (suc n) slot k at init codecs size low fits keep e =
        let after : Plan = schemas_plan n (slot + 5) k in
        let count : ℕ → Plan = λ c. codecs_plan c after in
        let hint : ℕ → Plan = λ u. item Number (Init (slot + 4)) count in
        let whole : ℕ → Plan = λ u. item Text (Init (slot + 2)) hint in
        let x = init-read Uri slot whole at init codecs e in
        let p₁ = x.found.place in
        let v₁ = x.found.number in
        let i₁ = sets init slot (p₁ ∷ v₁ ∷ []) in
        let y = init-read Text (slot + 2) hint x.found.end i₁ codecs x.then in
        let p₂ = y.found.place in
        let v₂ = y.found.number in
        let i₂ = sets i₁ (slot + 2) (p₂ ∷ v₂ ∷ []) in
        let c = init-read Number (slot + 4) count y.found.end i₂ codecs y.then in
        let m = c.found.number in
        let i₃ = sets i₂ (slot + 4) (m ∷ []) in
        let d = codecs-read m after c.found.end i₃ codecs c.then in
        let z₁ : length i₁ ≡ init_words = length-sets init slot (p₁ ∷ v₁ ∷ []) ∙ size in
        let z₂ : length i₂ ≡ init_words = length-sets i₁ (slot + 2) (p₂ ∷ v₂ ∷ []) ∙ z₁ in
        let z₃ : length i₃ ≡ init_words = length-sets i₂ (slot + 4) (m ∷ []) ∙ z₂ in
        let r = schemas-read n (slot + 5) k d.end i₃ (codecs ++ d.words) z₃ (omega arith) (omega arith) keep d.then in
        let s₀ : Schema = record { uri = x.found.text; hint = y.found.text; codecs = d.listed } in
        record {
          listed = s₀ ∷ r.listed;
          count = ap suc r.count;
          inside = (
            record {
              some = omega (arith, x.found.count, some-judged v₁ x.found.judged);
              uri = record { few = rw (sym x.found.count) at x.found.most; bytes = x.found.bytes };
              hint = record { few = rw (sym y.found.count) at y.found.most; bytes = y.found.bytes };
              few = rw (sym d.count) at c.found.most;
              codecs = d.inside;
            },
            r.inside,
          );
          words = d.words ++ r.words;
          say = (
            d.words,
            r.words,
            record {
              uri = stretch-at (get_or J slot 0) (get_or J (slot + 1) 0) p₁ x.found.text x.found.end
                  (stays (whole v₁) slot (keep₁ slot (omega arith) low) (λ z. omega arith) x.found.end i₁ codecs x.then ∙ word_first init slot p₁ v₁ (omega arith))
                  (stays (whole v₁) (slot + 1) (keep₁ (slot + 1) (omega arith) (omega arith)) (λ z. omega arith) x.found.end i₁ codecs x.then ∙ word-second init slot p₁ v₁ (omega arith) ∙ sym x.found.count)
                  x.found.rest x.found.within;
              hint = stretch-at (get_or J (slot + 2) 0) (get_or J (slot + 3) 0) p₂ y.found.text y.found.end
                  (stays (hint v₂) (slot + 2) (keep₂ (slot + 2) (omega arith) (omega arith)) (λ z. omega arith) y.found.end i₂ codecs y.then ∙ word_first i₁ (slot + 2) p₂ v₂ (omega arith))
                  (stays (hint v₂) (slot + 3) (keep₂ (slot + 3) (omega arith) (omega arith)) (λ z. omega arith) y.found.end i₂ codecs y.then
                  ∙ ap (λ (j : ℕ). get_or i₂ j 0) {x = slot + 3} {y = slot + 2 + 1} (omega arith) ∙ word-second i₁ (slot + 2) p₂ v₂ (omega arith) ∙ sym y.found.count)
                  y.found.rest y.found.within;
              count = stays (count m) (slot + 4) (keep₃ m (slot + 4) (omega arith) (omega arith)) (λ z. omega arith) c.found.end i₃ codecs c.then
                  ∙ word-one i₂ (slot + 4) m (omega arith) ∙ sym d.count;
              codecs = d.say;
              are = refl;
            },
            r.say,
          );
          end = r.end;
          span = span-join s at (schema_bytes s₀) d.end (flat_map schema_bytes r.listed) r.end
              (schema-span s₀ at v₁ p₁ x.found.end v₂ p₂ y.found.end m c.found.end d.end x.found.count y.found.count d.count
              x.found.head x.found.rest y.found.head y.found.rest (bare Number y.found.end c.found refl) d.span)
              r.span;
          now = r.now;
          size = r.size;
          then = on k r.end r.now _ _ (append_assoc codecs d.words r.words) r.then;
        }
      where
        keep₃ : (c j : ℕ) → j < slot + 5 → 12 ≤ j → Keeps (codecs_plan c (schemas_plan n (slot + 5) k)) j
        keep₃ c j l h = keeps-codecs c (schemas_plan n (slot + 5) k) j (keeps-schemas n (slot + 5) k j l (keep j h))

        keep₂ : (j : ℕ) → j < slot + 4 → 12 ≤ j → Keeps (item Number (Init (slot + 4)) (λ c. codecs_plan c (schemas_plan n (slot + 5) k))) j
        keep₂ j l h = (((λ z. omega arith), (λ z. omega arith)), λ c. keep₃ c j (omega arith) h)

        keep₁ : (j : ℕ) → j < slot + 2 → 12 ≤ j
            → Keeps (item Text (Init (slot + 2)) (λ u. item Number (Init (slot + 4)) (λ c. codecs_plan c (schemas_plan n (slot + 5) k)))) j
        keep₁ j l h = (((λ z. omega arith), (λ z. omega arith)), λ u. keep₂ j (omega arith) h)

    record FeaturesRead (at : ℕ) (init codecs : List ℕ) : Type 0 where
      pub unit : ℕ
      pub few : unit ≤ most_unit
      pub word : get_or J 2 0 ≡ unit
      pub features : Features
      pub inside : FeaturesIn features
      pub over : Over
      pub stepped : OverIn features over
      pub say : FeaturesSay over.first J features
      pub end : ℕ
      pub span : Span s at (feature_bytes unit features over) end
      pub now : List ℕ
      pub size : length now ≡ init_words
      pub then : read s wall room (listed (refers features)) end now codecs ≡ given I C last

    features-read : (at : ℕ) (init codecs : List ℕ) → length init ≡ init_words → get_or init 3 0 ≡ 0
        → read s wall room (item UnitByte (Init 2) (λ b. features_plan (eqb (b / 16 % 2) 1))) at init codecs ≡ given I C last → FeaturesRead at init codecs
    unfolding features_plan before words two one other laid head_of head_bytes most_of body feature_bytes refers
    features-read at init codecs size nought e =
        let x = init-read UnitByte 2 (λ b. features_plan (eqb (b / 16 % 2) 1)) at init codecs e in
        let v = x.found.number in
        let g = unit-judged v x.found.judged in
        by v x.found.end (ℕ_discrete (v / 16 % 2) 1) g.0 g.1 x.found.most (bare UnitByte at x.found refl) x.then
      where
        unit-word : (v q : ℕ) → read s wall room (features_plan (eqb (v / 16 % 2) 1)) q (sets init 2 (v / 32 ∷ [])) codecs ≡ given I C last → get_or J 2 0 ≡ v / 32
        unit-word v q h =
            stays (features_plan (eqb (v / 16 % 2) 1)) 2 (keeps-features (eqb (v / 16 % 2) 1) 2 (omega arith)) (λ z. omega arith) q (sets init 2 (v / 32 ∷ [])) codecs h
            ∙ word-one init 2 (v / 32) (omega arith)

        plainly : (v q : ℕ) → v % 16 ≡ 15 → v / 32 ≤ most_unit → v ≤ 255 → v / 16 % 2 ≡ 1 → Span s at (v ∷ []) q
            → read s wall room (features_plan (eqb (v / 16 % 2) 1)) q (sets init 2 (v / 32 ∷ [])) codecs ≡ given I C last → FeaturesRead at init codecs
        plainly v q low high most bit span h =
            let i₁ = sets init 2 (v / 32 ∷ []) in
            let h' : read s wall room (features_plan true) q i₁ codecs ≡ given I C last = rw (eq-eqb (v / 16 % 2) 1 bit) at h in
            let w = init-read NoFlags 4 (λ u. listed false) q i₁ codecs h' in
            let i₂ = sets i₁ 4 (0 ∷ 0 ∷ []) in
            let z₁ : length i₁ ≡ init_words = length-sets init 2 (v / 32 ∷ []) ∙ size in
            let ends : w.found.end ≡ q = omega (arith, w.found.head.ends, w.found.rest.ends, w.found.count) in
            let is : v ≡ 32 * (v / 32) + 31 = omega arith in
            record {
              unit = v / 32;
              few = high;
              word = unit-word v q h;
              features = plain;
              inside = tt;
              over = record { first = 0; rest = [] };
              stepped = (refl, refl);
              say = (
                stays (features_plan true) 3 (((λ z. omega arith), (λ z. omega arith)), λ u. keeps-listed false 3 (omega arith)) (λ z. omega arith) q i₁ codecs h'
                    ∙ get_or-set_other init 2 3 (v / 32) 0 (λ z. omega arith) ∙ nought,
                stays (listed false) 4 (keeps-listed false 4 (omega arith)) (λ z. omega arith) w.found.end i₂ codecs w.then ∙ word_first i₁ 4 0 0 (omega arith),
                stays (listed false) 5 (keeps-listed false 5 (omega arith)) (λ z. omega arith) w.found.end i₂ codecs w.then ∙ word-second i₁ 4 0 0 (omega arith),
              );
              end = w.found.end;
              span = rw ends (span-is s at (v ∷ []) _ q (ap (λ (j : ℕ). j ∷ []) is) span);
              now = i₂;
              size = length-sets i₁ 4 (0 ∷ 0 ∷ []) ∙ z₁;
              then = w.then;
            }

        flagging : (v q : ℕ) → v % 16 ≡ 15 → v / 32 ≤ most_unit → v ≤ 255 → (v / 16 % 2 ≡ 1 → ⊥) → Span s at (v ∷ []) q
            → read s wall room (features_plan (eqb (v / 16 % 2) 1)) q (sets init 2 (v / 32 ∷ [])) codecs ≡ given I C last → FeaturesRead at init codecs
        flagging v q low high most bit span h =
            let i₁ = sets init 2 (v / 32 ∷ []) in
            let h' : read s wall room (features_plan false) q i₁ codecs ≡ given I C last = rw (ne_eqb (v / 16 % 2) 1 bit) at h in
            let flags_plan : ℕ → Plan = λ x. item (Flags x) (Init 4) (λ b. listed (eqb (b / 8 % 2) 1)) in
            let w = init-read Length 3 flags_plan q i₁ codecs h' in
            let n = w.found.number in
            let i₂ = sets i₁ 3 ((8 * n - 7) ∷ []) in
            let y = init-read (Flags n) 4 (λ b. listed (eqb (b / 8 % 2) 1)) w.found.end i₂ codecs w.then in
            let b = y.found.number in
            let i₃ = sets i₂ 4 (b / 2 ∷ b % 2 ∷ []) in
            let z₁ : length i₁ ≡ init_words = length-sets init 2 (v / 32 ∷ []) ∙ size in
            let z₂ : length i₂ ≡ init_words = length-sets i₁ 3 ((8 * n - 7) ∷ []) ∙ z₁ in
            let r = eqb (b / 8 % 2) 1 in
            let good = flags-judged n b y.found.flagged in
            let some = some-judged n w.found.judged in
            let long = y.found.count in
            let small = y.found.most in
            let keep : Keeps (flags_plan n) 3 = (((λ z. omega arith), (λ z. omega arith)), λ b. keeps-listed (eqb (b / 8 % 2) 1) 3 (omega arith)) in
            record {
              unit = v / 32;
              few = high;
              word = unit-word v q h;
              features = flagged n (b / 2);
              inside = (some, w.found.most, omega arith, omega arith);
              over = record { first = b % 2; rest = y.found.text };
              stepped = (omega arith, omega arith, y.found.bytes);
              say = (
                stays (flags_plan n) 3 keep (λ z. omega arith) w.found.end i₂ codecs w.then ∙ word-one i₁ 3 (8 * n - 7) (omega arith),
                stays (listed r) 4 (keeps-listed r 4 (omega arith)) (λ z. omega arith) y.found.end i₃ codecs y.then ∙ word_first i₂ 4 (b / 2) (b % 2) (omega arith),
                stays (listed r) 5 (keeps-listed r 5 (omega arith)) (λ z. omega arith) y.found.end i₃ codecs y.then ∙ word-second i₂ 4 (b / 2) (b % 2) (omega arith),
              );
              end = y.found.end;
              span = flags-span v n b y.found.text q w.found.end y.found.place y.found.end (omega arith) span (bare Length q w.found refl) y.found.head y.found.rest;
              now = i₃;
              size = length-sets i₂ 4 (b / 2 ∷ b % 2 ∷ []) ∙ z₂;
              then = other-plan b y.found.end i₃ y.then;
            }
          where
            flags-span : (v n b : ℕ) (text : List ℕ) (q r p z : ℕ) → v ≡ 32 * (v / 32) + 15 → Span s at (v ∷ []) q → Span s q (bytes8 n) r → Span s r (b ∷ []) p → Span s p text z
                → Span s at ((32 * (v / 32) + 15) ∷ (bytes8 n ++ (2 * (b / 2) + b % 2) ∷ text)) z
            flags-span v n b text q r p z is h l f t =
                let bits : b ≡ 2 * (b / 2) + b % 2 = omega arith in
                span-is s at (v ∷ (bytes8 n ++ b ∷ text)) _ z (ap₂ (λ (i j : ℕ). i ∷ (bytes8 n ++ j ∷ text)) is bits)
                (span-join s at (v ∷ []) q (bytes8 n ++ b ∷ text) z h
                (span-join s q (bytes8 n) r (b ∷ text) z l (span-join s r (b ∷ []) p text z f t)))

            other-plan : (b z : ℕ) (now : List ℕ) → read s wall room (listed (eqb (b / 8 % 2) 1)) z now codecs ≡ given I C last
                → read s wall room (listed (eqb (b / 2 / 4 % 2) 1)) z now codecs ≡ given I C last
            other-plan b z now t = let bits : b / 2 / 4 ≡ b / 8 = omega arith in rw bits t

        by : (v q : ℕ) → Dec (v / 16 % 2 ≡ 1) → v % 16 ≡ 15 → v / 32 ≤ most_unit → v ≤ 255 → Span s at (v ∷ []) q
            → read s wall room (features_plan (eqb (v / 16 % 2) 1)) q (sets init 2 (v / 32 ∷ [])) codecs ≡ given I C last → FeaturesRead at init codecs
        by v q (yes b) low high most span h = plainly v q low high most b span h
        by v q (no b) low high most span h = flagging v q low high most b span h

    record FormatsRead (r : Bool) (at : ℕ) (init codecs : List ℕ) : Type 0 where
      pub formats : List ℕ
      pub inside : FormatsIn r formats
      pub say : FormatsSay J s r formats
      pub end : ℕ
      pub span : Span s at (format_bytes r formats) end
      pub now : List ℕ
      pub size : length now ≡ init_words
      pub then : read s wall room description_plan end now codecs ≡ given I C last

    formats-read : (r : Bool) (at : ℕ) (init codecs : List ℕ) → length init ≡ init_words → read s wall room (formats_plan r) at init codecs ≡ given I C last → FormatsRead r at init codecs
    unfolding formats_plan words two one other laid head_of head_bytes most_of body format_bytes
    formats-read true at init codecs size e =
        let x = init-read Formats 8 (λ f. description_plan) at init codecs e in
        let v = x.found.number in
        let p = x.found.place in
        let text = x.found.text in
        let now = sets init 8 (p ∷ v ∷ []) in
        let n : length text ≡ v = x.found.count in
        let keep : (j : ℕ) → j < 10 → Keeps description_plan j = λ j l. (((λ z. omega arith), (λ z. omega arith)), λ d. tt) in
        record {
          formats = text;
          inside = (rw (sym n) at x.found.most, x.found.bytes);
          say = stretch-at (get_or J 8 0) (get_or J 9 0) p text x.found.end
              (stays description_plan 8 (keep 8 (omega arith)) (λ z. omega arith) x.found.end now codecs x.then ∙ word_first init 8 p v (omega arith))
              (stays description_plan 9 (keep 9 (omega arith)) (λ z. omega arith) x.found.end now codecs x.then ∙ word-second init 8 p v (omega arith) ∙ sym n)
              x.found.rest x.found.within;
          end = x.found.end;
          span = span-is s at (v ∷ text) (length text ∷ text) x.found.end (ap (λ (j : ℕ). j ∷ text) (sym n))
              (span-join s at (v ∷ []) p text x.found.end x.found.head x.found.rest);
          now = now;
          size = length-sets init 8 (p ∷ v ∷ []) ∙ size;
          then = x.then;
        }
    formats-read false at init codecs size e =
        let x = init-read NoFormats 9 (λ f. description_plan) at init codecs e in
        let now = sets init 9 (0 ∷ []) in
        let ends : x.found.end ≡ at = omega (arith, x.found.head.ends, x.found.rest.ends, x.found.count) in
        record {
          formats = [];
          inside = refl;
          say = stays description_plan 9 (((λ z. omega arith), (λ z. omega arith)), λ d. tt) (λ z. omega arith) x.found.end now codecs x.then ∙ word-one init 9 0 (omega arith);
          end = x.found.end;
          span = rw ends (no_span s at);
          now = now;
          size = length-sets init 9 (0 ∷ []) ∙ size;
          then = x.then;
        }

    record WholeRead : Type 0 where
      pub means : Meaning
      pub over : Over
      pub within : Within means
      pub stepped : OverIn means.features over
      pub profile : get_or J 1 0 ≡ means.profile
      pub unit : get_or J 2 0 ≡ means.unit
      pub features : FeaturesSay over.first J means.features
      pub count : get_or J 6 0 ≡ length means.schemas
      pub schemas : SchemasSay J s 12 means.schemas C
      pub formats : FormatsSay J s (refers means.features) means.formats
      pub description : Stretch s (get_or J 10 0) (get_or J 11 0) means.description
      pub span : Span s 0 (spelling means over) last
      pub lies : last ≤ wall
      pub size : length I ≡ init_words

    whole-span : (m : Meaning) (o : Over) (v a b n c d p e q : ℕ) → v ≡ m.profile → n ≡ length m.schemas → e ≡ length m.description
        → Span s 0 (bytes8 v) a → Span s a (feature_bytes m.unit m.features o) b → Span s b (bytes8 n) c → Span s c (flat_map schema_bytes m.schemas) d
        → Span s d (format_bytes (refers m.features) m.formats) p → Span s p (bytes8 e) q → Span s q m.description last → Span s 0 (spelling m o) last
    unfolding spelling numbered counted
    whole-span m o v a b n c d p e q iv in' ie h₁ h₂ h₃ h₄ h₅ h₆ h₇ =
        let t₅ = span-join s p (bytes8 (length m.description)) q m.description last (rw (← ie) h₆) h₇ in
        let t₄ = span-join s d (format_bytes (refers m.features) m.formats) p (bytes8 (length m.description) ++ m.description) last h₅ t₅ in
        let t₃ = span-join s c (flat_map schema_bytes m.schemas) d _ last h₄ t₄ in
        let t₂ = span-join s b (bytes8 (length m.schemas)) c _ last (rw (← in') h₃) t₃ in
        let t₂' = span-is s b _ (bytes8 (length m.schemas) ++ flat_map schema_bytes m.schemas ++ (format_bytes (refers m.features) m.formats ++ (bytes8 (length m.description) ++ m.description))) last
        (sym (append_assoc (bytes8 (length m.schemas)) (flat_map schema_bytes m.schemas) (format_bytes (refers m.features) m.formats ++ (bytes8 (length m.description) ++ m.description)))) t₂ in
        let t₁ = span-join s a (feature_bytes m.unit m.features o) b _ last h₂ t₂' in
        span-join s 0 (bytes8 m.profile) a _ last (rw (← iv) h₁) t₁

    -- the profile, the features, the number of schemas, the schemas, the formats and the description, one after another
    abbrev unit_plan : Plan
    unit_plan = item UnitByte (Init 2) (λ b. features_plan (eqb (b / 16 % 2) 1))

    abbrev schemas_of : Features → ℕ → Plan
    schemas_of f n = schemas_plan n 12 (formats_plan (refers f))

    all : (i c : List ℕ) (q : ℕ) → given i c q ≡ given I C last → (i ≡ I) × (c ≡ C) × (q ≡ last)
    all i c q h = (cc, cc, cc)

    module _ (init : List ℕ) (size : length init ≡ init_words) where
      module _ (p : InitRead Number 1 (λ x. unit_plan) 0 init []) where
        profile-word : get_or J 1 0 ≡ p.found.number
        unfolding words two one other laid
        profile-word =
            stays unit_plan 1 (((λ z. omega arith), (λ z. omega arith)), λ b. keeps-features (eqb (b / 16 % 2) 1) 1 (omega arith)) (λ z. omega arith) p.found.end _ [] p.then
            ∙ word-one init 1 p.found.number (omega arith)

        module _ (f : FeaturesRead p.found.end (sets init 1 (p.found.number ∷ [])) []) (c : InitRead Schemas 6 (schemas_of f.features) f.end f.now []) where
          count_word : get_or J 6 0 ≡ c.found.number
          unfolding words two one other laid
          count_word =
              let n = c.found.number in
              let r = refers f.features in
              let l : 6 < length f.now = omega (arith, f.size) in
              stays (schemas_plan n 12 (formats_plan r)) 6 (keeps-schemas n 12 (formats_plan r) 6 (omega arith) (formats-keep r 6 (omega arith))) (λ z. omega arith) c.found.end _ [] c.then
              ∙ word-one f.now 6 n l

          module _ (ss : SchemasRead c.found.number 12 (formats_plan (refers f.features)) c.found.end (sets f.now 6 (c.found.number ∷ [])) [])
              (g : FormatsRead (refers f.features) ss.end ss.now ss.words) (d : InitRead Text 10 (λ x. done) g.end g.now ss.words) where
            abbrev means : Meaning
            means = record { profile = p.found.number; unit = f.unit; features = f.features; schemas = ss.listed; formats = g.formats; description = d.found.text }

            ended-all : (sets g.now 10 (d.found.place ∷ d.found.number ∷ []) ≡ I) × (ss.words ≡ C) × (d.found.end ≡ last)
            unfolding read words two one other laid
            ended-all = all (sets g.now 10 (d.found.place ∷ d.found.number ∷ [])) ss.words d.found.end d.then

            is_within : Within means
            unfolding head_of most_of body
            is_within = record {
              profile = p.found.most;
              unit = f.few;
              features = f.inside;
              some = rw (sym ss.count) at (schemas-judged c.found.number c.found.judged).0;
              few = rw (sym ss.count) at (schemas-judged c.found.number c.found.judged).1;
              schemas = ss.inside;
              formats = g.inside;
              description = record { few = rw (sym d.found.count) at d.found.most; bytes = d.found.bytes };
            }

            is-spelling : Span s 0 (spelling means f.over) last
            unfolding head_of head_bytes body
            is-spelling =
                whole-span means f.over p.found.number p.found.end f.end c.found.number c.found.end ss.end g.end d.found.number d.found.place
                refl (sym ss.count) (sym d.found.count)
                (bare Number 0 p.found refl) f.span (bare Schemas f.end c.found refl) ss.span g.span d.found.head
                (rw ended-all.2 at d.found.rest)

            is-described : Stretch s (get_or J 10 0) (get_or J 11 0) d.found.text
            unfolding words two one other laid body
            is-described =
                let q = d.found.place in
                let w = d.found.number in
                let l : 11 < length g.now = omega (arith, g.size) in
                stretch-at (get_or J 10 0) (get_or J 11 0) q d.found.text d.found.end
                (stays done 10 tt (λ z. omega arith) d.found.end _ ss.words d.then ∙ word_first g.now 10 q w l)
                (stays done 11 tt (λ z. omega arith) d.found.end _ ss.words d.then ∙ word-second g.now 10 q w l ∙ sym d.found.count)
                d.found.rest d.found.within

            is_whole : WholeRead
            is_whole = record {
              means = means;
              over = f.over;
              within = is_within;
              stepped = f.stepped;
              profile = profile-word;
              unit = f.word;
              features = f.say;
              count = count_word ∙ sym ss.count;
              schemas = rw ended-all.1 at ss.say;
              formats = g.say;
              description = is-described;
              span = is-spelling;
              lies = rw ended-all.2 at d.found.within;
              size = ap length (sym ended-all.0) ∙ length-sets g.now 10 (d.found.place ∷ d.found.number ∷ []) ∙ g.size;
            }

      whole-read : get_or init 3 0 ≡ 0 → read s wall room plan 0 init [] ≡ given I C last → WholeRead
      unfolding plan words two one other laid
      whole-read nought e = profiled (init-read Number 1 (λ x. unit_plan) 0 init [] e)
        where
          formatted : (p : InitRead Number 1 (λ x. unit_plan) 0 init []) (f : FeaturesRead p.found.end (sets init 1 (p.found.number ∷ [])) [])
              (c : InitRead Schemas 6 (schemas_of f.features) f.end f.now [])
              (ss : SchemasRead c.found.number 12 (formats_plan (refers f.features)) c.found.end (sets f.now 6 (c.found.number ∷ [])) [])
              → FormatsRead (refers f.features) ss.end ss.now ss.words → WholeRead
          formatted p f c ss g = is_whole p f c ss g (init-read Text 10 (λ x. done) g.end g.now ss.words g.then)

          schemed : (p : InitRead Number 1 (λ x. unit_plan) 0 init []) (f : FeaturesRead p.found.end (sets init 1 (p.found.number ∷ [])) [])
              (c : InitRead Schemas 6 (schemas_of f.features) f.end f.now [])
              → SchemasRead c.found.number 12 (formats_plan (refers f.features)) c.found.end (sets f.now 6 (c.found.number ∷ [])) [] → WholeRead
          schemed p f c ss = formatted p f c ss (formats-read (refers f.features) ss.end ss.now ss.words ss.size ss.then)

          counting : (p : InitRead Number 1 (λ x. unit_plan) 0 init []) (f : FeaturesRead p.found.end (sets init 1 (p.found.number ∷ [])) [])
              → InitRead Schemas 6 (schemas_of f.features) f.end f.now [] → WholeRead
          counting p f c =
              let few = (schemas-judged c.found.number c.found.judged).1 in
              schemed p f c
              (schemas-read c.found.number 12 (formats_plan (refers f.features)) c.found.end (sets f.now 6 (c.found.number ∷ [])) []
              (length-sets f.now 6 (c.found.number ∷ []) ∙ f.size) (omega arith) (omega (arith, few)) (keeps-formats (refers f.features)) c.then)

          featured : (p : InitRead Number 1 (λ x. unit_plan) 0 init []) → FeaturesRead p.found.end (sets init 1 (p.found.number ∷ [])) [] → WholeRead
          featured p f = counting p f (init-read Schemas 6 (schemas_of f.features) f.end f.now [] f.then)

          profiled : InitRead Number 1 (λ x. unit_plan) 0 init [] → WholeRead
          profiled p =
              featured p
              (features-read p.found.end (sets init 1 (p.found.number ∷ [])) [] (length-sets init 1 (p.found.number ∷ []) ∙ size)
              (get_or-set_other init 1 3 p.found.number 0 (λ z. omega arith) ∙ nought) p.then)

-- (a) the first half
pub record Accepted (s : List ℕ) (room : ℕ) (init codecs : List ℕ) (at : ℕ) : Type 0 where
  pub means : Meaning
  pub over : Over
  pub within : Within means
  pub stepped : OverIn means.features over
  pub spells : s ≡ spelling means over
  pub short : length s ≤ most_message
  pub fits : length codecs ≤ room
  pub says : Says over.first init codecs s means
  pub counts : get_or init 7 0 ≡ length codecs
  pub ends : at ≡ length s

pub read-said : (s : List ℕ) (room : ℕ) (init codecs : List ℕ) (at : ℕ) → Each Byte s → init_read s room ≡ given init codecs at → Accepted s room init codecs at
unfolding init_read ended
read-said s room init codecs at octets e = by (read s wall room plan 0 (replicate init_words 0) []) refl e
  where
    wall : ℕ
    wall = wall_of s

    by_end : (I C : List ℕ) (last : ℕ) → read s wall room plan 0 (replicate init_words 0) [] ≡ given I C last → (t : Bool) → ltb last (length s) ≡ t
        → cond t (refused left_over last) (given (set I 7 (length C)) C last) ≡ given init codecs at → Accepted s room init codecs at
    by_end I C last r true t h = absurd (no-given left_over last init codecs at refl h)
    by_end I C last r false t h =
        let J = set I 7 (length C) in
        let same : (j : ℕ) → (j ≡ 7 → ⊥) → get_or J j 0 ≡ get_or I j 0 = λ j n. get_or-set_other I 7 j (length C) 0 n in
        let w = whole-read s octets wall (omega arith) room I C last J same (replicate init_words 0) refl refl r in
        let x : get_or J 7 0 ≡ length C = get_or-set_same I 7 (length C) 0 (omega (arith, w.size)) in
        let l = ltb-false last (length s) t in
        let under = w.lies in
        let a = span-all s (spelling w.means w.over) last w.span l in
        let eq : (J ≡ init) × (C ≡ codecs) × (last ≡ at) = (cc, cc, cc) in
        let accepted : Accepted s room J C last = record {
          means = w.means;
          over = w.over;
          within = w.within;
          stepped = w.stepped;
          spells = a.0;
          short = omega arith;
          fits = roomy s octets wall (omega arith) room I C last J same plan 0 (replicate init_words 0) [] (omega arith) r;
          says = record {
            profile = w.profile;
            unit = w.unit;
            features = w.features;
            count = w.count;
            used = omega (arith, x);
            schemas = rw (x, take-length C) w.schemas;
            formats = w.formats;
            description = w.description;
          };
          counts = x;
          ends = a.1;
        } in
        rw (eq.0, eq.1, eq.2) at accepted

    by : (x : Reading) → read s wall room plan 0 (replicate init_words 0) [] ≡ x → ended (length s) x ≡ given init codecs at → Accepted s room init codecs at
    by (given I C last) r h = by_end I C last r (ltb last (length s)) refl h
    by (refused n k) r h = absurd (no-given n k init codecs at refl h)
