-- A text moved in blocks of octets, and judged; and a text stored.
use Prim.Native.Nat.{ℕ, zero, suc, ◌+◌, ◌-◌, ◌*◌, ◌/◌, ◌%◌, ◌<◌, ◌≤◌}
use mathlib.Core.Path.{◌≡◌, refl, sym, ap, subst, ◌∙◌}
use mathlib.Core.Bool.{Bool, true, false}
use mathlib.Core.List.{List, [], ◌∷◌, ◌++◌}
use native.Mathlib.Nat.{add-zero}
use native.Mathlib.Omega.{arith}
use native.Mathlib.Decide.{ℕ_discrete, dec_lt}
use mir.Val.{Fits}
use mir.Syntax.{w8}
use lib.ListN.{length, get_or, take, drop, set}
use borrow.Rule.Slice.PartMut.{put_mid}
use Rattle.std.proofs.lemmas.Slice.{put_mid-paste}
use lib.Seq.{sets, sets-eq, take-suc, take_all, set-set, set_comm, get_or-set_same, get_or-set_other}
use Rattle.numbers.specs.Refusal.{past_end}
use Rattle.numbers.specs.Kind as kinds
use Rattle.numbers.specs.Limit.{most_text}
use Rattle.wire.specs.declared.Bits.{Bits}
use Rattle.wire.specs.Answer.{Read, read_is}
use Rattle.wire.specs.Res.{Res, got, fault}
use Rattle.wire.proofs.Res.{then, then-fault, under-then, under-fault}
use Rattle.wire.proofs.ReadWays.{read-value, read-refuse}
use Rattle.wire.specs.Bits.{bit_at}
use Rattle.utf8.specs.Rfc.{In}
use Rattle.utf8.specs.Text.{text_fault}
use Rattle.utf8.specs.Slanted.{octet_at, octets_at, Printable, Passed}
use Rattle.utf8.specs.declared.State.TheVariants.{Start}
use Rattle.utf8.proofs.SlantedLaws.{SoFar, printable-both, printable-one, went-none, went-passed, judged-all}
use Rattle.value.specs.Simple.{text, first_word, second_word, bytes_at, text_of, simple_at, words_of}
use Rattle.value.specs.Code.{number_at, code_at}
use Rattle.value.proofs.OctetsLaws.{octet-num}
use Rattle.value.proofs.SimpleLaws.{words-got, words-fault, passes_then, passes-fault}
use Rattle.model.specs.Read.{code}
use Rattle.reader_parts.specs.declared.Cursor.{Cursor}
use Rattle.std.specs.Prelude.{Result, Ok, Err}
use Rattle.numbers.specs.Refused.{number_of, answered}
use Rattle.numbers.specs.declared.refusal.Refusal.{Refusal}
use Rattle.numbers.specs.declared.refusal.Refusal.TheVariants as refusal
use Rattle.numbers.proofs.Refusals.{number-some}
use Rattle.reader_parts.specs.Out.{Step, step_view, outcome, Stores, Keeps}
use Rattle.reader_parts.specs.Texts.{Moves, Copies, Follows}
use Rattle.reader_parts.proofs.Laws.{sets-sets}
use Rattle.reader_parts.proofs.StoreWays.{keep-full, keep-in}

-- a list laid over another
sets-apart : (l xs : List ℕ) (i j y : ℕ) → i < j → set (sets l j xs) i y ≡ sets (set l i y) j xs
sets-apart l [] i j y h = refl
sets-apart l (x ∷ xs) i j y h =
    sets-apart (set l j x) xs i (suc j) y (omega arith)
    ∙ ap (λ (m : List ℕ). sets m (suc j) xs) (set_comm l j i x y (λ e. omega arith))

sets_over : (l xs ys : List ℕ) (i : ℕ) → length xs ≤ length ys → sets (sets l i xs) i ys ≡ sets l i ys
sets_over l [] ys i h = refl
sets_over l (x ∷ xs) [] i h = absurd (omega arith)
sets_over l (x ∷ xs) (y ∷ ys) i h =
    ap
    (λ (m : List ℕ). sets m (suc i) ys)
    (sets-apart (set l i x) xs i (suc i) y (omega arith) ∙ ap (λ (m : List ℕ). sets m (suc i) xs) (set-set l i x y))
    ∙ sets_over (set l i y) xs ys (suc i) (omega arith)

module _ (s : List ℕ) (k : ℕ) where
  octets-length : (i n : ℕ) → length (octets_at s k i n) ≡ n
  unfolding octets_at
  octets-length i zero = refl
  octets-length i (suc n) = ap suc (octets-length (suc i) n)

  octets-both : (i n m : ℕ) → octets_at s k i (n + m) ≡ octets_at s k i n ++ octets_at s k (i + n) m
  unfolding octets_at
  octets-both i zero m =
      let z : i + 0 ≡ i = add-zero i in
      let w : 0 + m ≡ m = omega arith in
      rw (z, w)
  octets-both i (suc n) m =
      let e : suc i + n ≡ i + suc n = omega arith in
      let z : suc n + m ≡ suc (n + m) = omega arith in
      rw z (ap (λ (l : List ℕ). octet_at s k i ∷ l) (rw e at (octets-both (suc i) n m)))

-- what does not hold proves anything
pub refuted : {A : Type 0} → false ≡ true → A
refuted e = absurd (let z : ◌≡◌ {A = ℕ} 0 1 = cc in omega arith)

-- block: the octets that are held so far, and then laid
module _ (s : List ℕ) (k i : ℕ) where
  abbrev pub Held : List ℕ → ℕ → Type 0
  Held held j = (m : ℕ) → m < j → get_or held m 0 ≡ octet_at s k (i + m)

  pub held_more : (held : List ℕ) (j x : ℕ) → length held ≡ 16 → j < 16 → Held held j → x ≡ octet_at s k (i + j) → Held (set held j x) (j + 1)
  held_more held j x l h f e m g = elim (ℕ_discrete m j) [
    | yes z ↦ rw z (get_or-set_same held j x 0 (omega arith) ∙ e)
    | no z ↦ get_or-set_other held j m x 0 z ∙ f m (omega arith)
  ]

  pub far_none : SoFar s k i 0 true
  far_none e = record { each = λ j h l. absurd (omega arith) }

  pub far-more : (j x : ℕ) (all b both : Bool) → SoFar s k i j all → x ≡ octet_at s k (i + j) → (b ≡ true → In 0x20 0x7F x) → (both ≡ true → (all ≡ true) × (b ≡ true)) → SoFar s k i (j + 1) both
  far-more j x all b both f e h t z =
      let w : i + j + 1 ≡ i + (j + 1) = omega arith in
      rw w at (printable-both (f (t z).0) (printable-one (i + j) (rw (← e) (h (t z).1))))

  pub far-all : (j n : ℕ) (all : Bool) → n ≤ j → SoFar s k i j all → SoFar s k i n all
  far-all j n all h f e = record { each = λ m a b. (f e).each m a (omega arith) }

  pub laid_none : (T : List ℕ) (used : ℕ) → T ≡ sets T used (octets_at s k i 0)
  unfolding octets_at
  laid_none T used = refl

  -- the first n that are held are n octets
  held_taken : (held : List ℕ) (n : ℕ) → n ≤ length held → Held held n → take n held ≡ octets_at s k i n
  unfolding octets_at
  held_taken held zero h f = refl
  held_taken held (suc n) h f =
      let p : take n held ≡ octets_at s k i n = held_taken held n (omega arith) (λ m l. f m (omega arith)) in
      let x : get_or held n 0 ≡ octet_at s k (i + n) = f n (omega arith) in
      let b : octets_at s k i (n + 1) ≡ octets_at s k i n ++ octet_at s k (i + n) ∷ [] = octets-both s k i n 1 in
      let z : n + 1 ≡ suc n = omega arith in
      take-suc held n 0 (omega arith) ∙ rw (p, x) (sym b ∙ ap (octets_at s k i) z)

  pub laid-held : (held m : List ℕ) (j n used : ℕ) (T : List ℕ) (plain : Bool) → n ≤ j → j ≤ n → n ≤ length held → used + n ≤ length T → Held held j → m ≡ take n held → SoFar s k i j plain
      → Moves s k i n T used (put_mid used (used + n - used) T m) plain
  laid-held held m j n used T plain a b h room f e g =
      let w : j ≡ n = omega arith in
      let O = octets_at s k i n in
      let l = octets-length s k i n in
      record {
        laid = put_mid-paste used (used + n - used) T m O n (e ∙ held_taken held n h (rw w at f)) (omega arith) (sym l)
            ∙ ap (λ (x : List ℕ). take used T ++ x ++ drop (used + n) T) (take_all n O (omega arith))
            ∙ sym (rw l at (sets-eq O T used (omega arith)));
        printable = rw w at g;
      }

  pub laid-all : (h n used : ℕ) (T T₀ : List ℕ) (plain : Bool) → h ≤ n → n ≤ h → T ≡ sets T₀ used (octets_at s k i h) → SoFar s k i n plain → Moves s k i n T₀ used T plain
  laid-all h n used T T₀ plain a b e f =
      let z : h ≡ n = omega arith in
      record { laid = e ∙ ap (λ (m : ℕ). sets T₀ used (octets_at s k i m)) z; printable = f }

  -- move_octets: 16 more, which may be partly those before
  pub laid-block : (j at used : ℕ) (T T₀ T' : List ℕ) (all : Bool) → at ≤ j → j ≤ at + 16 → T ≡ sets T₀ used (octets_at s k i j) → Moves s k (i + at) 16 T (used + at) T' all
      → T' ≡ sets T₀ used (octets_at s k i (at + 16))
  laid-block j at used T T₀ T' all a b e f =
      let d : at + (j - at) ≡ j = omega arith in
      let A = octets_at s k i at in
      let B = octets_at s k (i + at) (j - at) in
      let C = octets_at s k (i + at) 16 in
      let p : octets_at s k i j ≡ A ++ B = rw d at (octets-both s k i at (j - at)) in
      let l = octets-length s k i at in
      let g = sets-sets T₀ A B used (used + at) (omega arith) in
      let q = sets-sets T₀ A C used (used + at) (omega arith) in
      let o = sets_over (sets T₀ used A) B C (used + at) (omega (arith, octets-length s k (i + at) (j - at), octets-length s k (i + at) 16)) in
      f.laid
      ∙ ap (λ (m : List ℕ). sets m (used + at) C) (e ∙ ap (λ (m : List ℕ). sets T₀ used m) p ∙ sym g)
      ∙ o
      ∙ q
      ∙ ap (λ (m : List ℕ). sets T₀ used m) (sym (octets-both s k i at 16))

  pub far-block : (j at used : ℕ) (T T' : List ℕ) (plain all both : Bool) → at ≤ j → SoFar s k i j plain → Moves s k (i + at) 16 T (used + at) T' all → (both ≡ true → (plain ≡ true) × (all ≡ true))
      → SoFar s k i (at + 16) both
  far-block j at used T T' plain all both a f g t z =
      record {
        each = λ m h l. elim (dec_lt m (i + at)) [
          | yes w ↦ (f (t z).0).each m h (omega arith)
          | no w ↦ (g.printable (t z).1).each m (omega arith) (omega arith)
        ];
      }

-- nothing is wrong with printable octets
module _ (s : List ℕ) (k i : ℕ) where
  printable-fine : (n : ℕ) → Printable s k i (i + n) → text_fault (octets_at s k i n) ≡ 0
  printable-fine n p =
      let q : Passed s k i (i + n) (i + n) = record { from_r = omega arith; r_to = omega arith; printable = p } in
      let w = (went-passed s k (went-none s k i (i + n) (omega arith)) q).whole in
      let z : i + n - i ≡ n = omega arith in
      sym (rw z at (judged-all s k i (i + n) (i + n) 0 Start false (sym w.ends, sym w.free) (omega arith) (omega arith) refl))

-- copy: the bytes of a text are its octets
module _ (s : List ℕ) (f : (j : ℕ) → Fits w8 (get_or s j 0)) where
  bytes-octets : (k : ℕ) → k < 8 → (i n : ℕ) → bytes_at (bit_at s) (8 * i + k) n ≡ octets_at s k i n
  unfolding bytes_at octets_at
  bytes-octets k h i zero = refl
  bytes-octets k h i (suc n) =
      let z : 8 * i + k + 8 ≡ 8 * suc i + k = omega arith in
      rw (octet-num s i (f i).fits k h (λ l. (f (suc i)).fits), z, bytes-octets k h (suc i) n)

  pub copied : (p n used : ℕ) (T T' : List ℕ) (plain : Bool) → Moves s (p % 8) (p / 8) n T used T' plain → Copies s p n T used T' plain
  copied p n used T T' plain m =
      let z : 8 * (p / 8) + p % 8 ≡ p = omega arith in
      let e : bytes_at (bit_at s) p n ≡ octets_at s (p % 8) (p / 8) n = rw z at (bytes-octets (p % 8) (omega arith) (p / 8) n) in
      record { laid = λ h. rw e m.laid; judged = λ h. rw e (printable-fine s (p % 8) (p / 8) n (m.printable h)) }

pub copied-not : (s : List ℕ) (p n used : ℕ) (T : List ℕ) → length T - used < n → Copies s p n T used T false
copied-not s p n used T h = record { laid = λ l. absurd (omega arith); judged = λ e. refuted e }

-- where no text begins there is room for no bytes, and none are laid
pub copied-past : (s : List ℕ) (p n used : ℕ) (T : List ℕ) → length T < used → Copies s p n T used T false
unfolding bytes_at
copied-past s p zero used T h = record { laid = λ l. refl; judged = λ e. refuted e }
copied-past s p (suc n) used T h = record { laid = λ l. absurd (omega arith); judged = λ e. refuted e }

pub ruleset copy-ways = (copied, copied-not, copied-past)

-- judged: where it is known that nothing is wrong
pub judged-fine : (x : ℕ) (fine : Bool) → (fine ≡ true → x ≡ 0) → fine ≡ true → answered {T = Unit {0}} (Ok tt) ≡ x
judged-fine x fine f e = sym (f e)

-- a value's words that follow or do not
module _ (m : Res (ℕ × ℕ × List ℕ × ℕ)) (c : Cursor) (E T : List ℕ) where
  follows-refuse : (n : Refusal) (E' T' : List ℕ) → m ≡ fault (number_of n) → Follows m c E T (Err (record { why = n; at = c.at })) E' T'
  unfolding code step_view outcome
  follows-refuse n E' T' e = record { says = λ π. rw e }

  follows-keep : (word : ℕ) (ts : List ℕ) (next : ℕ) (s : Step) (E' T' : List ℕ) → m ≡ got (word, 0, ts, next) → Keeps word ts next c E T s E' T' → Follows m c E T s E' T'
  unfolding code
  follows-keep word ts next s E' T' e k = record { says = λ π. k.says π ∙ sym (rw e) }

-- text_after: the wall, then what is wrong with the bytes, then room for them, then room for the event
module _ (s : List ℕ) (wall n p : ℕ) (c : Cursor) (E T : List ℕ) where
  abbrev After : Step → List ℕ → List ℕ → Type 0
  After t E' T' = Follows (words_of text (text_of (bit_at s) wall n p)) c E T t E' T'

  pub text-before : wall < p → After (Err (record { why = refusal.PastEnd; at = c.at })) E T
  unfolding text_of
  text-before h = follows-refuse _ c E T refusal.PastEnd E T (words-fault text (under-fault past_end _ (omega arith)))

  module _ (h : p ≤ wall) where
    pub text-past : (wall - p) / 8 < n → After (Err (record { why = refusal.PastEnd; at = c.at })) E T
    unfolding text_of
    text-past k = follows-refuse _ c E T refusal.PastEnd E T (words-fault text (under-fault past_end _ (omega arith)))

    module _ (k : n ≤ (wall - p) / 8) (w : Result (Unit {0}) Refusal) (e : answered w ≡ text_fault (bytes_at (bit_at s) p n)) (T' : List ℕ) where
      pub text-wrong : (x : Refusal) → w ≡ Err x → After (Err (record { why = x; at = c.at })) E T'
      unfolding text_of
      text-wrong x l =
          let f : number_of x ≡ text_fault (bytes_at (bit_at s) p n) = rw l at e in
          follows-refuse _ c E T x E T' (rw f (words-fault text (under-then past_end (omega arith) (passes-fault _ (λ z. number-some x (f ∙ z))))))

      text-got : w ≡ Ok tt → words_of text (text_of (bit_at s) wall n p) ≡ got (n, 0, bytes_at (bit_at s) p n, p + 8 * n)
      unfolding text_of first_word second_word
      text-got l = words-got text (under-then past_end (omega arith) (passes_then (sym (rw l at e)) refl))

      module _ (l : w ≡ Ok tt) (room : ℕ) (g : room ≡ length T - c.used) where
        pub text-full : room < n → After (Err (record { why = refusal.TextRoom; at = c.at })) E T'
        text-full r = follows-keep _ c E T n (bytes_at (bit_at s) p n) (p + 8 * n) _ E T' (text-got l) (keep-full (bit_at s) p n (p + 8 * n) room c E T g T' r)

        pub text-kept : (d : Cursor) (t : Step) (E' : List ℕ) (next : ℕ) (fine : Bool) → n ≤ room → d.at.0 ≡ c.at.0 → d.count ≡ c.count → d.used ≡ c.used + n → next ≡ p + 8 * n
            → Copies s p n T c.used T' fine → Stores kinds.value n 0 next d E t E' → After t E' T'
        text-kept d t E' next fine r x y z o u v =
            follows-keep _ c E T n (bytes_at (bit_at s) p n) (p + 8 * n) t E' T' (text-got l) (keep-in (bit_at s) p n (p + 8 * n) room c E T g d t E' T' r x y z (u.laid (omega arith)) (rw o at v))

pub ruleset after-ways = (text-before, text-past, text-wrong, text-full, text-kept)

-- text: refused by its count, or by what comes after it
module _ (b : ℕ → ℕ) (wall : ℕ) (c : Cursor) (E T : List ℕ) (r : Read) (e : read_is r ≡ number_at b most_text wall c.at.0) where
  pub text-count : (n : Refusal) → r ≡ Err n → Follows (words_of text (simple_at text b wall c.at.0)) c E T (Err (record { why = n; at = c.at })) E T
  unfolding simple_at code_at
  text-count n g = follows-refuse _ c E T n E T (words-fault text (then-fault _ (read-refuse e g)))

  pub text-rest : (n : ℕ) (p : Bits) (t : Step) (E' T' : List ℕ) → r ≡ Ok (n, p) → Follows (words_of text (text_of b wall n p.0)) c E T t E' T'
      → Follows (words_of text (simple_at text b wall c.at.0)) c E T t E' T'
  unfolding simple_at code_at
  text-rest n p t E' T' g f = subst (λ (m : Res (ℕ × List ℕ × ℕ)). Follows (words_of text m) c E T t E' T') (sym (then _ (read-value e g) refl)) f

pub ruleset text-ways = (text-count, text-rest)
