-- THE THEOREMS of start-up messages over the bytes of the calls; specs/ByCalls has what each says.
use Prim.Native.Nat.{ℕ, ◌+◌, ◌-◌, ◌*◌, ◌/◌, ◌%◌, ◌≤◌, min}
use mathlib.Core.Path.{◌≡◌, refl, sym, ap, ap₂, ◌∙◌}
use mathlib.Core.Bool.{Bool, true, false, cond}
use mathlib.Core.List.{List, [], ◌∷◌, ◌++◌, append-nil}
use native.Mathlib.Omega.{arith}
use native.Mathlib.Decide.{ℕ_discrete}
use lib.Dec.{ltb, leb, eqb}
use lib.ListN.{length, get_or, set, take, replicate, length-append, length-set}
use lib.Seq.{sets, length-sets, get_or-set_other, take-append-le, take-append_seam}
use borrow.Author.Tests.{eq-eqb, ne_eqb}
use Rattle.numbers.specs.Refusal.{accepted, no_reading}
use Rattle.numbers.specs.Limit as limit
use Rattle.numbers.specs.Limit.{most_message, init_words, init_area, most_word}
use Rattle.buffers.specs.Bytes.{words_of, spelled, bytes_of}
use Rattle.buffers.proofs.BytesLaws.{words-bytes, bytes-length}
use Rattle.wire.specs.Res.{Res, got, fault, guard, at_most, ◌>>=◌, ◌>>◌}
use Rattle.init.specs.declared.Item.{Item}
use Rattle.init.specs.declared.Item.TheVariants.{Number, UnitByte, Length, Flags, Schemas, Uri, Text, Formats, NoFlags, NoFormats}
use Rattle.init.specs.declared.Slot.{Slot}
use Rattle.init.specs.declared.Slot.TheVariants.{Init, Codecs}
use Rattle.init.specs.Items.{Head, byte_at, second_at, number_at, head_of, head_at, before, body, after, pass, rest_at, item_at, words}
use Rattle.init.specs.Items.Head.{eight, byte, nothing}
use Rattle.init.specs.Plan.{Plan, plan}
use Rattle.init.specs.Plan.Plan.{done, item}
use Rattle.init.specs.Read.{Reading, on_item, store, read, wall_of, ended, init_read}
use Rattle.init.specs.Read.Reading.{given as gives, refused as denies}
use Rattle.init.specs.Write.{Value, Writing, value_of, content_of, lies_of, bytes_for, word_in, there_of, index, used_by, on_value, emit, write, closed, init_write}
use Rattle.init.specs.Write.Value.{value, wrong}
use Rattle.init.specs.Write.Writing.{wrote, refused}
use Rattle.init.specs.Meaning.{Schema, Features, Meaning, Over, refers, noughts, spelling, spelt, Each, Byte, Within}
use Rattle.init.specs.Meaning.Features.{plain, flagged}
use Rattle.init.specs.Says.{SchemasSay, FeaturesSay, FormatsSay, Says}
use Rattle.init.specs.Theorems.{IsMessage}
use Rattle.init.specs.Back.{read_back}
use Rattle.init.specs.Made.{write_back}
use Rattle.init.specs.Calls.{Back, back, zeros, place_word, read_told, read_call, area_of, write_told, write_bytes, write_call}
use Rattle.init.specs.ByCalls.{ReadBy, WroteBy, BytesSay, count_in, filled, WrittenBy, ReadAgain, InitByCalls}
use Rattle.init.proofs.Codes.{spelling-one, noughts-in}
use Rattle.init.proofs.Theorems.{each_append, said-counted, tells, spelt_is, first-nought, say-nought, accepted-is-spelt, spelt-is-accepted, said-is-written, written-is-said, one-said}

-- NO REFUSAL IS NUMBER 0.
either : {A : Type 0} (P : A → Type 0) (t : Bool) (a b : A) → P a → P b → P (cond t a b)
either P true a b h k = h
either P false a b h k = k

abbrev Blames : {A : Type 0} → Res A → Type 0
Blames (got a) = Unit {0}
Blames (fault e) = 1 ≤ e

bind-blames : {A B : Type 0} (m : Res A) (f : A → Res B) → Blames m → ((a : A) → Blames (f a)) → Blames (m >>= f)
unfolding ◌>>=◌
bind-blames (got a) f h k = k a
bind-blames (fault e) f h k = h

then-blames : {B : Type 0} (m : Res Unit) (n : Res B) → Blames m → Blames n → Blames (m >> n)
unfolding ◌>>◌
then-blames (got a) n h k = k
then-blames (fault e) n h k = h

guard-blames : (t : Bool) (e : ℕ) → 1 ≤ e → Blames (guard t e)
unfolding guard
guard-blames true e h = tt
guard-blames false e h = h

pass-blames : (e : ℕ) → Blames (pass e)
unfolding pass guard
pass-blames e = elim (ℕ_discrete e accepted) [
  | yes h ↦ rw (eq-eqb e accepted h) tt
  | no n ↦ rw (ne_eqb e accepted n) (omega (arith, n))
]

byte-blames : (s : List ℕ) (wall at : ℕ) → Blames (byte_at s wall at)
unfolding byte_at
byte-blames s wall at = either Blames (ltb at wall) _ _ tt (omega arith)

head-blames : (h : Head) (s : List ℕ) (wall at : ℕ) → Blames (head_at h s wall at)
unfolding head_at number_at second_at
head-blames eight s wall at =
    bind-blames (byte_at s wall at) _ (byte-blames s wall at)
    (λ r. either Blames (ltb r.0 128) _ _ tt
    (bind-blames (byte_at s wall r.1) _ (byte-blames s wall r.1)
    (λ q. either Blames (ltb q.0 128) _ _ (either Blames (eqb (r.0 - 128) 0) _ _ (omega arith) tt) (omega arith))))
head-blames byte s wall at = byte-blames s wall at
head-blames nothing s wall at = tt

item-blames : (i : Item) (s : List ℕ) (wall at : ℕ) → Blames (item_at i s wall at)
unfolding item_at rest_at at_most
item-blames i s wall at =
    bind-blames (head_at (head_of i) s wall at) _ (head-blames (head_of i) s wall at)
    (λ r. then-blames (pass (before i r.0)) _ (pass-blames (before i r.0))
    (then-blames (guard (leb (r.1 + body i r.0) wall) _) _ (guard-blames (leb (r.1 + body i r.0) wall) _ (omega arith))
    (then-blames (pass (after i r.0)) _ (pass-blames (after i r.0)) tt)))

-- and what is read is as many words of init
abbrev Sound : Reading → Type 0
Sound (gives init codecs at) = length init ≡ init_words
Sound (denies e at) = 1 ≤ e

store-sound : (slot : Slot) (room at : ℕ) (ws init codecs : List ℕ) (f : List ℕ → List ℕ → Reading) → length init ≡ init_words
    → ((I C : List ℕ) → length I ≡ init_words → Sound (f I C)) → Sound (store slot room at ws init codecs f)
unfolding store
store-sound (Init i) room at ws init codecs f n k = k (sets init i ws) codecs (length-sets init i ws ∙ n)
store-sound Codecs room at ws init codecs f n k = either Sound (leb (length codecs + length ws) room) _ _ (k init (codecs ++ ws) n) (omega arith)

item-sound : (x : Res (ℕ × ℕ × ℕ)) (at : ℕ) (f : ℕ × ℕ × ℕ → Reading) → Blames x → ((r : ℕ × ℕ × ℕ) → Sound (f r)) → Sound (on_item x at f)
unfolding on_item
item-sound (got r) at f h k = k r
item-sound (fault e) at f h k = h

plan-sound : (s : List ℕ) (wall room : ℕ) (p : Plan) (at : ℕ) (init codecs : List ℕ) → length init ≡ init_words → Sound (read s wall room p at init codecs)
unfolding read
plan-sound s wall room done at init codecs n = n
plan-sound s wall room (item i slot k) at init codecs n =
    item-sound (item_at i s wall at) at _ (item-blames i s wall at)
    (λ r. store-sound slot room at (words i r.0 r.1) init codecs _ n (λ I C l. plan-sound s wall room (k r.0) r.2 I C l))

read-sound : (s : List ℕ) (room : ℕ) → Sound (init_read s room)
unfolding init_read ended
read-sound s room = all (read s (wall_of s) room plan 0 (replicate init_words 0) []) (plan-sound s (wall_of s) room plan 0 (replicate init_words 0) [] refl)
  where
    all : (x : Reading) → Sound x → Sound (ended (length s) x)
    all (gives I C at) h = either Sound (ltb at (length s)) _ _ (omega arith) (length-set I 7 (length C) ∙ h)
    all (denies e at) h = h

abbrev Right : Value → Type 0
Right (value v) = Unit {0}
Right (wrong e word) = 1 ≤ e

value-right : (i : Item) (a b : ℕ) → Right (value_of i a b)
unfolding value_of
value-right Number a b = either Right (leb a _) _ _ tt (omega arith)
value-right UnitByte a b = either Right (leb a _) _ _ tt (omega arith)
value-right Length a b = either Right (eqb (a % 8) 1) _ _ (either Right (leb ((a + 7) / 8) _) _ _ tt (omega arith)) (omega arith)
value-right (Flags n) a b =
    either Right (leb a 127) _ _ (either Right (eqb (a / 8 % 8) 0) _ _ (either Right (eqb b 0) _ _ tt (omega arith)) (omega arith)) (omega arith)
value-right Schemas a b = either Right (eqb a 0) _ _ (omega arith) (either Right (leb a _) _ _ tt (omega arith))
value-right Uri a b = either Right (eqb b 0) _ _ (omega arith) (either Right (leb b _) _ _ tt (omega arith))
value-right Text a b = either Right (leb b _) _ _ tt (omega arith)
value-right Formats a b = either Right (leb b _) _ _ tt (omega arith)
value-right NoFlags a b = either Right (eqb a 0) _ _ (either Right (eqb b 0) _ _ tt (omega arith)) (omega arith)
value-right NoFormats a b = either Right (eqb a 0) _ _ tt (omega arith)

abbrev Fair : Writing → Type 0
Fair (wrote used out) = Unit {0}
Fair (refused e at) = 1 ≤ e

value-fair : (x : Value) (at : ℕ) (f : ℕ → Writing) → Right x → ((v : ℕ) → Fair (f v)) → Fair (on_value x at f)
unfolding on_value
value-fair (value v) at f h k = k v
value-fair (wrong e word) at f h k = h

plan-fair : (init codecs given : List ℕ) (p : Plan) (used : ℕ) (out : List ℕ) → Fair (write init codecs given p used out)
unfolding write emit
plan-fair init codecs given done used out = tt
plan-fair init codecs given (item i slot k) used out =
    let a = word_in slot init codecs used 0 in
    let b = word_in slot init codecs used 1 in
    either Fair (there_of slot i (length codecs) used) _ _
    (value-fair (value_of i a b) (index slot used) _ (value-right i a b)
    (λ v. either Fair (lies_of (content_of i) (length given) a v) _ _ (plan-fair init codecs given (k v) (used_by slot i used) (out ++ bytes_for i given a v)) (omega arith)))
    (omega arith)

write-fair : (init codecs given : List ℕ) (room : ℕ) → Fair (init_write init codecs given room)
unfolding init_write closed
write-fair init codecs given room =
    let n = get_or init 7 0 in
    either Fair (leb n (length codecs)) _ _ (all n (write init (take n codecs) given plan 0 []) (plan-fair init (take n codecs) given plan 0 [])) (omega arith)
  where
    all : (n : ℕ) (x : Writing) → Fair x → Fair (closed n room x)
    all n (wrote used out) h = either Fair (ltb used n) _ _ (omega arith) (either Fair (leb (length out) room) _ _ tt (omega arith))
    all n (refused e at) h = h

-- WHAT IS SAID IS SAID BY OTHER WORDS that are the same from word 1 on, with as many words of codecs.
module _ (init init' : List ℕ) (same : (j : ℕ) → 1 ≤ j → get_or init j 0 ≡ get_or init' j 0) where
  schemas-move : (given : List ℕ) (slot : ℕ) (ss : List Schema) (ws : List ℕ) → 1 ≤ slot → SchemasSay init given slot ss ws → SchemasSay init' given slot ss ws
  schemas-move given slot [] ws l h = h
  schemas-move given slot (x ∷ ss) ws l h =
      let y = h.2 in (
        h.0,
        h.1,
        record {
          uri = rw (same slot l, same (slot + 1) (omega arith)) at y.uri;
          hint = rw (same (slot + 2) (omega arith), same (slot + 3) (omega arith)) at y.hint;
          count = rw (same (slot + 4) (omega arith)) at y.count;
          codecs = y.codecs;
          are = y.are;
        },
        schemas-move given (slot + 5) ss h.1 (omega arith) h.3,
      )

  features-move : (first : ℕ) (f : Features) → FeaturesSay first init f → FeaturesSay first init' f
  features-move first plain h = rw (same 3 (omega arith), same 4 (omega arith), same 5 (omega arith)) at h
  features-move first (flagged n f) h = rw (same 3 (omega arith), same 4 (omega arith), same 5 (omega arith)) at h

  formats-move : (given : List ℕ) (r : Bool) (l : List ℕ) → FormatsSay init given r l → FormatsSay init' given r l
  formats-move given true l h = rw (same 8 (omega arith), same 9 (omega arith)) at h
  formats-move given false l h = rw (same 9 (omega arith)) at h

  says-move : (first : ℕ) (codecs more given : List ℕ) (m : Meaning) → Says first init codecs given m → Says first init' (codecs ++ more) given m
  says-move first codecs more given m h =
      let n : get_or init 7 0 ≡ get_or init' 7 0 = same 7 (omega arith) in
      let front : take (get_or init 7 0) codecs ≡ take (get_or init' 7 0) (codecs ++ more) =
      sym (take-append-le (get_or init 7 0) codecs more h.used) ∙ ap (λ (k : ℕ). take k (codecs ++ more)) n in
      let u = h.used in record {
        profile = sym (same 1 (omega arith)) ∙ h.profile;
        unit = sym (same 2 (omega arith)) ∙ h.unit;
        features = features-move first m.features h.features;
        count = sym (same 6 (omega arith)) ∙ h.count;
        used = omega (arith, length-append codecs more);
        schemas = schemas-move given 12 m.schemas _ (omega arith) (rw front at h.schemas);
        formats = formats-move given (refers m.features) m.formats h.formats;
        description = rw (same 10 (omega arith), same 11 (omega arith)) at h.description;
      }

-- words stored, with bytes behind them
words-front : (l t : List ℕ) → words_of (bytes_of l ++ t) ≡ l ++ words_of t
unfolding words_of spelled
words-front [] t = refl
words-front (w ∷ l) t = ap₂ ◌∷◌ (ap (λ (x : List ℕ). get_or x 0 0) (words-bytes (w ∷ []))) (words-front l t)

says-stored : (first p : ℕ) (init codecs behind given : List ℕ) (m : Meaning) → Says first init codecs given m
    → BytesSay first (bytes_of (set init 0 p)) (bytes_of codecs ++ behind) given m
says-stored first p init codecs behind given m h =
    rw (words-bytes (set init 0 p), words-front codecs behind)
    (says-move init (set init 0 p) (λ j l. sym (get_or-set_other init 0 j p 0 (λ e. omega arith))) first codecs (words_of behind) given m h)

-- THE READER'S CALL
call-reads : (s : List ℕ) (room : ℕ) → read_call s room limit.init ≡ read_told (read_back room (init_read s (room / 4)))
unfolding read_call
call-reads s room = refl

-- what a reading of these words leaves
reads-by : (s : List ℕ) (room : ℕ) (words listed : List ℕ) (at : ℕ) → init_read s (room / 4) ≡ gives words listed at
    → ReadBy s room (bytes_of (set words 0 0)) (bytes_of listed ++ zeros (room - 4 * length listed))
unfolding read_told read_back
reads-by s room words listed at e = call-reads s room ∙ ap (λ (x : Reading). read_told (read_back room x)) e

record Left (s : List ℕ) (room : ℕ) (init codecs : List ℕ) : Type 0 where
  words : List ℕ
  listed : List ℕ
  at : ℕ
  reads : init_read s (room / 4) ≡ gives words listed at
  sized : length words ≡ init_words
  init_is : init ≡ bytes_of (set words 0 0)
  codecs_is : codecs ≡ bytes_of listed ++ zeros (room - 4 * length listed)

left : (s : List ℕ) (room : ℕ) (init codecs : List ℕ) → ReadBy s room init codecs → Left s room init codecs
unfolding read_told read_back
left s room init codecs e = by (init_read s (room / 4)) refl (read-sound s (room / 4)) (sym (call-reads s room) ∙ e)
  where
    by : (x : Reading) → init_read s (room / 4) ≡ x → Sound x → read_told (read_back room x) ≡ back accepted init (codecs ∷ []) → Left s room init codecs
    by (gives words listed at) r n e = record {
      words = words;
      listed = listed;
      at = at;
      reads = r;
      sized = n;
      init_is = sym (ap (λ (b : Back). b.area) e);
      codecs_is = sym (ap (λ (b : Back). get_or b.buffers 0 []) e);
    }
    by (denies f at) r h e = let z = ap (λ (b : Back). b.number) e in absurd (omega arith)

left-says : (first : ℕ) (s : List ℕ) (room : ℕ) (init codecs : List ℕ) (m : Meaning) (l : Left s room init codecs) → Says first l.words l.listed s m
    → BytesSay first init codecs s m
left-says first s room init codecs m l h =
    rw (l.init_is, l.codecs_is) (says-stored first 0 l.words l.listed (zeros (room - 4 * length l.listed)) s m h)

left-size : (s : List ℕ) (room : ℕ) (init codecs : List ℕ) → Left s room init codecs → length init ≡ limit.init
left-size s room init codecs l =
    ap length l.init_is ∙ bytes-length (set l.words 0 0) ∙ ap (λ (n : ℕ). 4 * n) (length-set l.words 0 0 ∙ l.sized)

spelt-read : (s : List ℕ) (room : ℕ) (m : Meaning) (o : Over) → IsMessage s (room / 4) m o
    → (init : List ℕ) × (codecs : List ℕ) × ReadBy s room init codecs × BytesSay o.first init codecs s m
spelt-read s room m o h =
    let r = spelt-is-accepted s (room / 4) m o h in
    let behind = zeros (room - 4 * length r.1) in (
      bytes_of (set r.0 0 0),
      bytes_of r.1 ++ behind,
      reads-by s room r.0 r.1 (length s) r.2.reads,
      says-stored o.first 0 r.0 r.1 behind s m r.2.says,
    )

-- THE WRITER'S CALL
call-writes : (init codecs given : List ℕ) (room : ℕ) → length init ≡ limit.init
    → write_call init codecs given room init_area ≡ write_told (write_back room (init_write (words_of init) (words_of codecs) given room))
unfolding write_call write_bytes
call-writes init codecs given room l = rw (eq-eqb (length init) limit.init l)

call-refuses : (init codecs given : List ℕ) (room : ℕ) → (length init ≡ limit.init → ⊥)
    → (write_call init codecs given room init_area).number ≡ no_reading
unfolding write_call write_bytes write_told write_back
call-refuses init codecs given room n = rw (ne_eqb (length init) limit.init n)

said-wrote : (init codecs given : List ℕ) (room : ℕ) (m : Meaning) → length init ≡ limit.init → Within m → BytesSay 0 init codecs given m
    → length (spelt m) ≤ room → WroteBy init codecs given room (area_of 0 (length (spelt m))) (filled room (spelt m))
unfolding write_told write_back
said-wrote init codecs given room m l h say fits =
    call-writes init codecs given room l
    ∙ ap (λ (x : Writing). write_told (write_back room x)) (said-is-written (words_of init) (words_of codecs) given room m h say fits)

wrote-said : (init codecs given : List ℕ) (room : ℕ) (area message : List ℕ) → Each Byte given → WroteBy init codecs given room area message
    → (m : Meaning) × WrittenBy init codecs given room area message m
unfolding write_told write_back
wrote-said init codecs given room area message octets e = elim (ℕ_discrete (length init) limit.init) [
  | yes l ↦
      by l (init_write (words_of init) (words_of codecs) given room) refl (write-fair (words_of init) (words_of codecs) given room)
      (sym (call-writes init codecs given room l) ∙ e)
  | no n ↦ let z = sym (call-refuses init codecs given room n) ∙ ap (λ (b : Back). b.number) e in absurd (omega arith)
]
  where
    by : length init ≡ limit.init → (x : Writing) → init_write (words_of init) (words_of codecs) given room ≡ x → Fair x
        → write_told (write_back room x) ≡ back accepted area (message ∷ []) → (m : Meaning) × WrittenBy init codecs given room area message m
    by l (wrote used out) r h e =
        let w = written-is-said (words_of init) (words_of codecs) given room used out octets r in
        let is = w.1.spells in (
          w.0,
          record {
            sized = l;
            within = w.1.within;
            says = w.1.says;
            fits = rw is at w.1.fits;
            counts = sym (ap (λ (b : Back). b.area) e) ∙ ap (λ (x : List ℕ). area_of 0 (length x)) is;
            spells = sym (ap (λ (b : Back). get_or b.buffers 0 []) e) ∙ ap (filled room) is;
          },
        )
    by l (refused f at) r h e = let z = ap (λ (b : Back). b.number) e in absurd (omega arith)

-- the count in the area is that of the bytes, but for more than a word counts
count-is : (n : ℕ) → count_in (area_of 0 n) ≡ min n most_word
unfolding area_of
count-is n = ap (λ (l : List ℕ). get_or l 1 0) (words-bytes (place_word 0 ∷ place_word n ∷ []))

wrote-read : (init codecs given : List ℕ) (room : ℕ) (area message : List ℕ) (room' : ℕ) → Each Byte given
    → WroteBy init codecs given room area message → count_in area ≤ most_message → get_or (words_of init) 7 0 ≤ room' / 4
    → (m : Meaning) × (init' : List ℕ) × (codecs' : List ℕ) × ReadAgain init codecs given (take (count_in area) message) room' m init' codecs'
wrote-read init codecs given room area message room' octets e short fits =
    let w = wrote-said init codecs given room area message octets e in
    let m = w.0 in
    let h = w.1.within in
    let c = ap count_in w.1.counts ∙ count-is (length (spelt m)) in
    let n : count_in area ≡ length (spelt m) = omega arith in
    let written = take (count_in area) message in
    let is : written ≡ spelt m =
    ap (λ (k : ℕ). take k message) n ∙ ap (take (length (spelt m))) w.1.spells ∙ take-append_seam (spelt m) (zeros (room - length (spelt m))) in
    let o = noughts m.features in
    let r = spelt-read written room' m o (record {
      within = h;
      stepped = noughts-in m.features h.features;
      spells = is ∙ spelt_is m;
      short = omega (arith, ap length is);
      fits = omega (arith, said-counted 0 (words_of init) (words_of codecs) given m w.1.says);
    }) in (
      m,
      r.0,
      r.1,
      record {
        said = w.1.says;
        spells = is;
        reads = r.2;
        says = say-nought o.first (words_of r.0) (words_of r.1) written m (first-nought m.features) r.3;
      },
    )

-- ALL OF THEM
read-spelt : (s : List ℕ) (room : ℕ) (init codecs : List ℕ) → Each Byte s → ReadBy s room init codecs
    → (m : Meaning) × (o : Over) × IsMessage s (room / 4) m o × BytesSay o.first init codecs s m
read-spelt s room init codecs octets e =
    let l = left s room init codecs e in
    let a = accepted-is-spelt s (room / 4) l.words l.listed l.at octets l.reads in
    (a.0, a.1, a.2, left-says a.1.first s room init codecs a.0 l a.3.says)

pub init-by-calls : InitByCalls
init-by-calls = record {
  accepted-is-spelt = read-spelt;
  spelt-is-accepted = spelt-read;
  said-is-written = said-wrote;
  written-is-said = wrote-said;
  write_read = wrote-read;
  read-write = λ s room init codecs m out h e r fits.
      let l = left s room init codecs r in
      let o = noughts m.features in
      let t = tells s (room / 4) l.words l.listed l.at m o h (noughts-in m.features h.features) (e ∙ spelt_is m) l.reads in
      let say = say-nought o.first l.words l.listed s m (first-nought m.features) t.says in
      let w = said-wrote init codecs s out m (left-size s room init codecs l) h (left-says 0 s room init codecs m l say) (rw e at fits) in
      w ∙ ap (λ (x : List ℕ). back accepted (area_of 0 (length x)) (filled out x ∷ [])) (sym e);
  none-begins = λ s more room room' init codecs init' codecs' small others e e'.
      let a = read-spelt s room init codecs small e in
      let b = read-spelt (s ++ more) room' init' codecs' (each_append Byte s more small others) e' in
      let x = ap (λ (l : List ℕ). l ++ more) (sym a.2.spells) ∙ b.2.spells ∙ sym (append-nil (spelling b.0 b.1)) in
      (spelling-one a.0 b.0 a.1 b.1 more [] a.2.within b.2.within a.2.stepped b.2.stepped x).then;
  one-said = λ init codecs given. one-said (words_of init) (words_of codecs) given;
}
