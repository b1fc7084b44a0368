-- The calls: a size that is another one; the words of init loaded and stored; the answer told.
use Prim.Native.Nat.{ℕ, ◌*◌, ◌/◌, ◌≤◌, min}
use mathlib.Core.Path.{◌≡◌, ap, ◌∙◌}
use mathlib.Core.List.{List, [], ◌∷◌, ◌++◌, append-nil}
use native.Mathlib.Omega.{arith}
use lib.ListN.{length, set, take, drop, replicate, drop_of_length-le, length-set}
use lib.Seq.{take_all}
use borrow.Author.Tests.{eq-eqb, ne_eqb}
use Rattle.numbers.specs.Refusal.{no_reading}
use Rattle.numbers.specs.Limit.{init_words}
use Rattle.buffers.specs.Bytes.{bytes_of, words_of, stored}
use Rattle.buffers.proofs.BytesLaws.{words-length}
use Rattle.init.specs.Read.{init_read}
use Rattle.init.specs.Write.{init_write}
use Rattle.init.specs.Write.Writing.{refused}
use Rattle.init.specs.Back.{Answer, number_in, place_in, count_in, back_is, read_back}
use Rattle.init.specs.Made.{Made, made_is, write_back}
use Rattle.init.specs.Calls.{back, read_told, read_call, area_of, write_told, write_bytes, write_call}

-- words that fill a buffer
stored-all : (words s s' : List ℕ) → length s ≡ 4 * length words → s' ≡ stored words s → s' ≡ bytes_of words
stored-all words s s' l g =
    g ∙ ap (λ (x : List ℕ). bytes_of words ++ x) (drop_of_length-le s {i = 4 * length words} (omega arith)) ∙ append-nil (bytes_of words)

-- THE READER
module _ (s : List ℕ) (room init : ℕ) where
  pub read-other : (b c : List ℕ) → (init ≡ 128 → ⊥) → b ≡ replicate init 0 → c ≡ replicate room 0 → back 24 b (c ∷ []) ≡ read_call s room init
  unfolding read_call
  read-other b c n e g = simp (ne_eqb init 128 n) (rw (e, g))

pub placed-fits : (words old : List ℕ) (p : ℕ) → length words ≡ init_words → length old ≡ 128 → 4 * length (set words 0 p) ≤ length old
placed-fits words old p n l = omega (arith, length-set words 0 p)

-- the words read, of which the first becomes the place, stored over an init of the right size
pub read_told_lem : (s : List ℕ) (room p r : ℕ) (a : Answer) (words old b c : List ℕ) → length old ≡ 128 → length words ≡ init_words
    → back_is a words c ≡ read_back room (init_read s (room / 4)) → r ≡ number_in a → p ≡ min (place_in a) 4294967295 → b ≡ stored (set words 0 p) old
    → back r b (c ∷ []) ≡ read_call s room (length old)
unfolding read_call read_told
read_told_lem s room p r a words old b c l n e k h g =
    let f : b ≡ bytes_of (set words 0 p) = stored-all (set words 0 p) old b (omega (arith, length-set words 0 p)) g in
    simp (eq-eqb (length old) 128 l) (rw (k, f, h) (ap read_told e))

-- THE WRITER
pub other-init : (init codecs given m : List ℕ) (b : Made) → (length init ≡ 128 → ⊥) → b ≡ write_back (length m) (refused no_reading 0)
    → b ≡ write_back (length m) (write_bytes init codecs given (length m))
unfolding write_bytes
other-init init codecs given m b n e = simp (ne_eqb (length init) 128 n) e

-- all words loaded
loaded : (init room words : List ℕ) → length init ≡ 128 → length room ≡ 32 → words ≡ take 32 (words_of init) ++ drop 32 room → words ≡ words_of init
loaded init room words l n e =
    e ∙ ap (λ (x : List ℕ). take 32 (words_of init) ++ x) (drop_of_length-le room {i = 32} (omega arith)) ∙ append-nil (take 32 (words_of init))
    ∙ take_all 32 (words_of init) (omega (arith, words-length init))

pub by-words : (init codecs given m room words : List ℕ) (b : Made) → length init ≡ 128 → length room ≡ 32 → words ≡ take 32 (words_of init) ++ drop 32 room
    → b ≡ write_back (length m) (init_write words (words_of codecs) given (length m)) → b ≡ write_back (length m) (write_bytes init codecs given (length m))
unfolding write_bytes
by-words init codecs given m room words b l n e h =
    simp (eq-eqb (length init) 128 l)
    (h ∙ ap (λ (x : List ℕ). write_back (length m) (init_write x (words_of codecs) given (length m))) (loaded init room words l n e))

pub ruleset byte-ways = (other-init, by-words)

module _ (init codecs given : List ℕ) (room area : ℕ) where
  pub write-other : (b c : List ℕ) → (area ≡ 8 → ⊥) → b ≡ replicate area 0 → c ≡ replicate room 0 → back 24 b (c ∷ []) ≡ write_call init codecs given room area
  unfolding write_call
  write-other b c n e g = simp (ne_eqb area 8 n) (rw (e, g))

  -- place and count fill the area
  pub write-told : (r p n : ℕ) (a : Answer) (b c old : List ℕ) → length old ≡ area → area ≡ 8 → made_is a c ≡ write_back room (write_bytes init codecs given room) → r ≡ number_in a
      → p ≡ min (place_in a) 4294967295 → n ≡ min (count_in a) 4294967295 → b ≡ stored (p ∷ n ∷ []) old → back r b (c ∷ []) ≡ write_call init codecs given room area
  unfolding write_call write_told area_of
  write-told r p n a b c old l e f g hp hn h =
      let k : b ≡ area_of (place_in a) (count_in a) = stored-all (p ∷ n ∷ []) old b (omega arith) h ∙ ap bytes_of (rw (hp, hn)) in
      simp (eq-eqb area 8 e) (rw (g, k) (ap write_told f))
