-- THE THEOREMS of start-up messages, (a) to (e) of 02 [8]; specs/Theorems has what each says.
use Prim.Native.Nat.{ℕ, ◌+◌, ◌*◌, ◌≤◌}
use mathlib.Core.Path.{◌≡◌, refl, sym, ap, ◌∙◌}
use mathlib.Core.Bool.{Bool, true, false}
use mathlib.Core.List.{List, [], ◌∷◌, ◌++◌, flat_map}
use native.Mathlib.Omega.{arith}
use native.Mathlib.Decide.{dec_lt}
use lib.ListN.{length, get_or, take, length-append}
use lib.Seq.{length-take-le}
use Rattle.numbers.specs.Limit.{most_unit}
use Rattle.init.specs.Items.{bytes8}
use Rattle.init.specs.Read.{init_read}
use Rattle.init.specs.Read.Reading.{given as gives}
use Rattle.init.specs.Write.{Writing, init_write}
use Rattle.init.specs.Write.Writing.{wrote}
use Rattle.init.specs.Meaning.{Codec, Schema, Features, Meaning, Over, codec_words, schema_words, refers, noughts, counted, numbered, codec_bytes, schema_bytes, feature_bytes, format_bytes, spelling, spelt, Each, Byte, Small, TextIn, CodecIn, SchemaIn, FeaturesIn, FormatsIn, Within, OverIn}
use Rattle.init.specs.Meaning.Features.{plain, flagged}
use Rattle.init.specs.Says.{CodecsSay, SchemasSay, Says}
use Rattle.init.specs.Theorems.{Told, AcceptedIsSpelt, SpeltIsAccepted, SaidIsWritten, WrittenIsSaid, WriteRead, ReadWrite, OneMeaning, NoneBegins, OneSaid}
use Rattle.init.proofs.Codes.{short8, long8, spelling-one, noughts-in, spelt-one, spelt-alone}
use Rattle.init.proofs.WriterGoes.{said-written}
use Rattle.init.proofs.WriterWent.{written-said}
use Rattle.init.proofs.ReaderWent.{read-said}
use Rattle.init.proofs.ReaderGoes.{spelling-read}

-- A SPELLING IS BYTES.
pub each_append : {A : Type 0} (P : A → Type 0) (a b : List A) → Each P a → Each P b → Each P (a ++ b)
each_append P [] b h k = k
each_append P (x ∷ a) b h k = (h.0, each_append P a b h.1 k)

bytes8-bytes : (v : ℕ) → Small v → Each Byte (bytes8 v)
bytes8-bytes v h = elim (dec_lt v 128) [
  | yes k ↦ rw (short8 v k) (omega arith, tt)
  | no k ↦ rw (long8 v (omega arith)) (omega arith, (omega arith, tt))
]

counted-bytes : (l : List ℕ) → TextIn l → Each Byte (counted l)
unfolding counted
counted-bytes l h = each_append Byte (bytes8 (length l)) l (bytes8-bytes (length l) h.few) h.bytes

numbered-bytes : {A : Type 0} (P : A → Type 0) (f : A → List ℕ) → ((a : A) → P a → Each Byte (f a)) → (l : List A) → Small (length l) → Each P l → Each Byte (numbered f l)
unfolding numbered flat_map
numbered-bytes P f bytes l n h = each_append Byte (bytes8 (length l)) (flat_map f l) (bytes8-bytes (length l) n) (all l h)
  where
    all : (l : List _) → Each P l → Each Byte (flat_map f l)
    all [] h = tt
    all (a ∷ l) h = each_append Byte (f a) (flat_map f l) (bytes a h.0) (all l h.1)

codec-bytes : (c : Codec) → CodecIn c → Each Byte (codec_bytes c)
unfolding codec_bytes
codec-bytes c h = each_append Byte (counted c.uri) (numbered bytes8 c.types) (counted-bytes c.uri h.uri) (numbered-bytes Small bytes8 bytes8-bytes c.types h.few h.types)

schema-bytes : (x : Schema) → SchemaIn x → Each Byte (schema_bytes x)
unfolding schema_bytes
schema-bytes x h =
    each_append Byte (counted x.uri) (counted x.hint ++ numbered codec_bytes x.codecs) (counted-bytes x.uri h.uri)
    (each_append Byte (counted x.hint) (numbered codec_bytes x.codecs) (counted-bytes x.hint h.hint) (numbered-bytes CodecIn codec_bytes codec-bytes x.codecs h.few h.codecs))

feature-bytes : (u : ℕ) (f : Features) (o : Over) → u ≤ most_unit → FeaturesIn f → OverIn f o → Each Byte (feature_bytes u f o)
unfolding feature_bytes
feature-bytes u plain o n h k = (omega arith, tt)
feature-bytes u (flagged m f) o n h k =
    let most = h.2 in
    let first = k.0 in
    (omega arith, each_append Byte (bytes8 m) ((2 * f + o.first) ∷ o.rest) (bytes8-bytes m h.1) (omega arith, k.2))

format-bytes : (r : Bool) (l : List ℕ) → FormatsIn r l → Each Byte (format_bytes r l)
unfolding format_bytes
format-bytes true l h = let n = h.0 in (omega arith, h.1)
format-bytes false l h = tt

spelling-bytes : (m : Meaning) (o : Over) → Within m → OverIn m.features o → Each Byte (spelling m o)
unfolding spelling
spelling-bytes m o h k =
    each_append Byte (bytes8 m.profile) _ (bytes8-bytes m.profile h.profile)
    (each_append Byte (feature_bytes m.unit m.features o) _ (feature-bytes m.unit m.features o h.unit h.features k)
    (each_append Byte (numbered schema_bytes m.schemas) _ (numbered-bytes SchemaIn schema_bytes schema-bytes m.schemas (omega (arith, h.few)) h.schemas)
    (each_append Byte (format_bytes (refers m.features) m.formats) _ (format-bytes (refers m.features) m.formats h.formats) (counted-bytes m.description h.description))))

-- HOW MANY WORDS SAY IT.
codecs-counted : (given : List ℕ) (cs : List Codec) (ws : List ℕ) → CodecsSay given cs ws → length ws ≡ codec_words cs
unfolding codec_words
codecs-counted given [] ws say = ap length say
codecs-counted given (c ∷ cs) ws say =
    let e = ap length say.1.are in omega (arith, length-append c.types say.0, codecs-counted given cs say.0 say.2)

schemas-counted : (init given : List ℕ) (slot : ℕ) (ss : List Schema) (ws : List ℕ) → SchemasSay init given slot ss ws → length ws ≡ schema_words ss
unfolding schema_words
schemas-counted init given slot [] ws say = ap length say
schemas-counted init given slot (s ∷ ss) ws say =
    let e = ap length say.2.are in
    omega (arith, length-append say.0 say.1, codecs-counted given s.codecs say.0 say.2.codecs, schemas-counted init given (slot + 5) ss say.1 say.3)

pub said-counted : (first : ℕ) (init codecs given : List ℕ) (m : Meaning) → Says first init codecs given m → get_or init 7 0 ≡ schema_words m.schemas
said-counted first init codecs given m say =
    sym (length-take-le (get_or init 7 0) codecs say.used) ∙ schemas-counted init given 12 m.schemas (take (get_or init 7 0) codecs) say.schemas

-- (e)
pub one-meaning : OneMeaning
one-meaning = spelt-one

pub none-begins : NoneBegins
none-begins = spelt-alone

-- (b)
pub said-is-written : SaidIsWritten
said-is-written init codecs given room m h say fits =
    said-written init codecs given room m h say fits ∙ ap (λ (n : ℕ). wrote n (spelt m)) (said-counted 0 init codecs given m say)

pub written-is-said : WrittenIsSaid
written-is-said init codecs given room used bytes octets e =
    let w = written-said init codecs given room used bytes octets e in
    (w.means, record { within = w.within; says = w.says; counts = w.counts ∙ said-counted 0 init codecs given w.means w.says; spells = w.spells; fits = w.fits })

pub one-said : OneSaid
one-said init codecs given m m' h h' say say' =
    let room = length (spelt m) + length (spelt m') in
    let e = said-is-written init codecs given room m h say (omega arith) in
    let e' = said-is-written init codecs given room m' h' say' (omega arith) in
    spelt-one m m' h h' (same (init_write init codecs given room) (schema_words m.schemas) (schema_words m'.schemas) (spelt m) (spelt m') e e')
  where
    same : (w : Writing) (u u' : ℕ) (a b : List ℕ) → w ≡ wrote u a → w ≡ wrote u' b → a ≡ b
    same w u u' a b e e' = cc

-- (a)
pub accepted-is-spelt : AcceptedIsSpelt
accepted-is-spelt s room init codecs at octets e =
    let a = read-said s room init codecs at octets e in
    let n : length codecs ≡ schema_words a.means.schemas = sym a.counts ∙ said-counted a.over.first init codecs s a.means a.says in (
      a.means,
      a.over,
      record { within = a.within; stepped = a.stepped; spells = a.spells; short = a.short; fits = rw n at a.fits },
      record { reads = rw a.ends at e; counts = n; says = a.says },
    )

-- a message that is this one's spelling tells this meaning, however it is accepted
pub tells : (s : List ℕ) (room : ℕ) (init codecs : List ℕ) (at : ℕ) (m : Meaning) (o : Over) → Within m → OverIn m.features o → s ≡ spelling m o
    → init_read s room ≡ gives init codecs at → Told s room init codecs m o
tells s room init codecs at m o h k e r =
    let octets : Each Byte s = rw e (spelling-bytes m o h k) in
    let a = accepted-is-spelt s room init codecs at octets r in
    let one = spelling-one a.0 m a.1 o [] [] a.2.within h a.2.stepped k (ap (λ (l : List ℕ). l ++ []) (sym a.2.spells ∙ e)) in
    rw (one.means, one.over) at a.3

pub spelt-is-accepted : SpeltIsAccepted
spelt-is-accepted s room m o h =
    let g = spelling-read m o room h.within h.stepped (rw h.spells at h.short) h.fits in
    let e : init_read s room ≡ gives g.0 g.1 (length s) = rw h.spells g.2 in
    (g.0, g.1, tells s room g.0 g.1 (length s) m o h.within h.stepped h.spells e)

-- zeros are stepped over behind a meaning's own spelling
pub first-nought : (f : Features) → (noughts f).first ≡ 0
unfolding noughts
first-nought plain = refl
first-nought (flagged n f) = refl

pub spelt_is : (m : Meaning) → spelt m ≡ spelling m (noughts m.features)
unfolding spelt
spelt_is m = refl

pub say-nought : (n : ℕ) (init codecs given : List ℕ) (m : Meaning) → n ≡ 0 → Says n init codecs given m → Says 0 init codecs given m
say-nought n init codecs given m e say = rw e at say

-- (c)
pub write_read : WriteRead
write_read init codecs given room used bytes back octets e short fits =
    let w = written-is-said init codecs given room used bytes octets e in
    let m = w.0 in
    let h = w.1.within in
    let r = spelt-is-accepted bytes back m (noughts m.features) (record {
      within = h;
      stepped = noughts-in m.features h.features;
      spells = w.1.spells ∙ spelt_is m;
      short = short;
      fits = rw w.1.counts at fits;
    }) in
    (m, r.0, r.1, w.1.says, r.2.reads, say-nought (noughts m.features).first r.0 r.1 bytes m (first-nought m.features) r.2.says)

-- (d)
pub read-write : ReadWrite
read-write s room init codecs at m out h e r fits =
    let t = tells s room init codecs at m (noughts m.features) h (noughts-in m.features h.features) (e ∙ spelt_is m) r in
    let say = say-nought (noughts m.features).first init codecs s m (first-nought m.features) t.says in
    let w = said-is-written init codecs s out m h say (rw e at fits) in
    w ∙ rw (← e, ← t.counts)
