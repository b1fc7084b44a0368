-- Ways through the functions that end a reading.
use Prim.Native.Nat.{ℕ, zero, suc, ◌-◌, ◌*◌, ◌/◌, ◌≤◌, min}
use mathlib.Core.Path.{◌≡◌, sym, ap, ◌∙◌}
use mathlib.Core.List.{List, [], ◌++◌}
use native.Mathlib.Omega.{arith}
use native.Mathlib.Decide.{dec_lt}
use borrow.Author.Tests.{lt-ltb, le-ltb}
use lib.ListN.{length, set, take, drop, replicate}
use lib.Seq.{length-take-le}
use Rattle.buffers.specs.Bytes.{bytes_of}
use Rattle.numbers.specs.Refusal.{accepted}
use Rattle.std.specs.Prelude.{Result, Ok, Err}
use Rattle.numbers.specs.declared.refusal.Fault.{Fault}
use Rattle.numbers.specs.Refused.{number_of}
use Rattle.init.specs.declared.reading.State.{State}
use Rattle.numbers.specs.Limit.{init_words, most_message}
use Rattle.init.specs.Plan.{plan}
use Rattle.init.specs.Read.{read, wall_of, ended, init_read}
use Rattle.init.specs.Read.Reading.{given, refused}
use Rattle.init.specs.Reads.{Done, Stopped, Ran, whole}
use Rattle.init.proofs.CutWays.{cut-read}
use Rattle.init.specs.Back.{Back, back, read_back, Finished, Zeros}

pub drop-zeros : (k n : ℕ) → drop {A = ℕ} k (replicate n 0) ≡ replicate (n - k) 0
drop-zeros zero n = let e : n - 0 ≡ n = omega arith in rw e
drop-zeros (suc k) zero = let e : 0 - suc k ≡ 0 = omega arith in rw e
drop-zeros (suc k) (suc n) = let e : suc n - suc k ≡ n - k = omega arith in rw e (drop-zeros k n)

module _ (s codecs init : List ℕ) (wall : ℕ) (w : wall ≡ min (length s) most_message) (z : Zeros codecs init) where
  same : whole (take wall s) codecs (length (take wall s)) init ≡ read s (wall_of s) (length codecs / 4) plan 0 (replicate init_words 0) []
  same = cut-read s wall (omega arith) (length codecs / 4) plan 0 init [] ∙ rw (z.said, w)

  cut-lies : length (take wall s) ≤ most_message
  cut-lies = omega (arith, length-take-le wall s (omega arith))

  module _ (o : Result State (Fault ℕ)) (init' codecs' : List ℕ) (ran : Ran codecs (length (take wall s)) (whole (take wall s) codecs (length (take wall s)) init) o init' codecs') (n : length codecs' ≡ length codecs) where
    module _ (f : Fault ℕ) (e : o ≡ Err f) where
      stopped : Stopped (length (take wall s)) (whole (take wall s) codecs (length (take wall s)) init) (number_of f.why) f.at
      stopped = rw e at ran

      pub stopped-lies : f.at ≤ most_message
      stopped-lies = omega (arith, stopped.within, cut-lies)

      pub read-refused : (b : Back) → b ≡ read_back (length codecs') (refused (number_of f.why) f.at) → b ≡ read_back (length codecs) (init_read s (length codecs / 4))
      unfolding init_read ended
      read-refused b g =
          let h : read s (wall_of s) (length codecs / 4) plan 0 (replicate init_words 0) [] ≡ refused (number_of f.why) f.at = sym same ∙ stopped.comes in
          g ∙ rw (h, n)

    module _ (st : State) (e : o ≡ Ok st) where
      through : Done codecs (length (take wall s)) (whole (take wall s) codecs (length (take wall s)) init) st.at st.used init' codecs'
      through = rw e at ran

      pub done-lies : st.at ≤ most_message
      done-lies = omega (arith, through.within, cut-lies)

      pub done-few : st.used ≤ 2 * st.at
      done-few = through.few

      pub read_done : (b : Back) → Finished (length s) st.at st.used init' codecs' b → b ≡ read_back (length codecs) (init_read s (length codecs / 4))
      unfolding init_read ended Finished read_back
      read_done b g =
          let r = through in
          let h : read s (wall_of s) (length codecs / 4) plan 0 (replicate init_words 0) [] ≡ given init' r.words st.at = sym same ∙ r.comes in
          let c : codecs' ≡ bytes_of r.words ++ replicate (length codecs - 4 * st.used) 0 =
          r.stands ∙ ap (λ (x : List ℕ). bytes_of r.words ++ drop (4 * st.used) x) z.listed ∙ ap (λ (x : List ℕ). bytes_of r.words ++ x) (drop-zeros (4 * st.used) (length codecs)) in
          elim (dec_lt st.at (length s)) [
            | yes k ↦ g ∙ rw (h, lt-ltb _ _ k, n)
            | no k ↦ g ∙ rw (h, le-ltb st.at (length s) (omega arith), r.count) (ap (λ (x : List ℕ). back accepted 0 st.used (set init' 7 st.used) x) c)
          ]

pub ruleset read-ways = (stopped-lies, done-lies, done-few, read-refused, read_done)
