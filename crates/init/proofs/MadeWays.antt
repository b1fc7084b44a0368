-- Ways through the functions that end a writing.
use Prim.Native.Nat.{ℕ, zero, suc, ◌+◌, ◌-◌, ◌*◌, ◌/◌, ◌≤◌, ◌<◌}
use mathlib.Core.Path.{◌≡◌, refl, sym, ap, ◌∙◌}
use mathlib.Core.List.{List, [], ◌∷◌, ◌++◌}
use native.Mathlib.Omega.{arith}
use native.Mathlib.Decide.{dec_lt, dec_le}
use native.Mathlib.Numerals.{add-one}
use borrow.Author.Tests.{lt-ltb, le-ltb, le-leb, lt-leb}
use lib.ListN.{length, set, take, drop, get_or, replicate, length-replicate, length-set}
use lib.Seq.{sets, sets-eq, take_all, length-take-le}
use Rattle.buffers.specs.Bytes.{words_of}
use Rattle.buffers.proofs.BytesLaws.{words-length}
use Rattle.numbers.specs.Refusal.{accepted, no_reading, payload_room}
use Rattle.std.specs.Prelude.{Result, Ok, Err, Some, None}
use Rattle.numbers.specs.declared.refusal.Fault.{Fault}
use Rattle.numbers.specs.Refused.{number_of}
use Rattle.init.specs.declared.writing.Desk.{Desk}
use Rattle.numbers.specs.Limit.{init_words}
use Rattle.init.specs.Write.{closed, init_write}
use Rattle.init.specs.Write.Writing.{wrote, refused}
use Rattle.init.specs.Writes.{Page, page, dot, inked, Finished, Written, wholly}
use Rattle.init.specs.Made.{Made, made, write_back, ended, Closed}
use Rattle.init.proofs.BackWays.{drop-zeros}

-- a page that has room for all that is written, and one that has not
inked-none : (m : List ℕ) (l : List ℕ) → inked (page m None) l ≡ page m None
unfolding inked dot
inked-none m [] = refl
inked-none m (x ∷ l) = inked-none m l

pub inked-room : (l m : List ℕ) (at : ℕ) → at + length l ≤ length m → inked (page m (Some at)) l ≡ page (sets m at l) (Some (at + length l))
unfolding inked dot
inked-room [] m at h = let e : at + 0 ≡ at = omega arith in rw e
inked-room (x ∷ l) m at h =
    let e : at + suc (length l) ≡ at + 1 + length l = omega arith in
    rw (lt-ltb at (length m) (omega arith), e)
    (inked-room l (set m at x) (at + 1) (rw (length-set m at x) (omega arith)) ∙ rw (add-one at))

inked-in : (x : ℕ) (l m : List ℕ) (at : ℕ) → at < length m → inked (page m (Some at)) (x ∷ l) ≡ inked (page (set m at x) (Some (at + 1))) l
unfolding inked dot
inked-in x l m at h = rw (lt-ltb _ _ h)

inked-stop : (x : ℕ) (l m : List ℕ) (at : ℕ) → length m ≤ at → inked (page m (Some at)) (x ∷ l) ≡ page m None
unfolding inked dot
inked-stop x l m at h = rw (le-ltb _ _ h) (inked-none m l)

pub inked-over : (l m : List ℕ) (at : ℕ) → at ≤ length m → length m < at + length l → (inked (page m (Some at)) l).at ≡ None
inked-over [] m at h k = absurd (omega arith)
inked-over (x ∷ l) m at h k = elim (dec_lt at (length m)) [
  | yes b ↦
      let n = length-set m at x in
      ap (λ (p : Page). p.at) (inked-in x l m at b) ∙ inked-over l (set m at x) (at + 1) (omega arith) (omega arith)
  | no b ↦ ap (λ (p : Page). p.at) (inked-stop x l m at (omega arith))
]

pub back-of : (room used : ℕ) (out : List ℕ) → made accepted 0 (length out) (out ++ replicate (room - length out) 0) ≡ write_back room (wrote used out)
unfolding write_back
back-of room used out = refl

module _ (n used room : ℕ) (out : List ℕ) where
  closed-left : used < n → closed n room (wrote used out) ≡ refused no_reading (init_words + used)
  unfolding closed
  closed-left h = rw (lt-ltb _ _ h)

  closed-over : n ≤ used → room < length out → closed n room (wrote used out) ≡ refused payload_room 0
  unfolding closed
  closed-over h k = rw (le-ltb _ _ h, lt-leb _ _ k)

  closed-done : n ≤ used → length out ≤ room → closed n room (wrote used out) ≡ wrote used out
  unfolding closed
  closed-done h k = rw (le-ltb _ _ h, le-leb _ _ k)

-- where words are exactly those that count
module _ (init c given m : List ℕ) (seven : length c / 4 ≡ get_or init 7 0) (zero' : m ≡ replicate (length m) 0) (o : Result Desk (Fault ℕ)) (m' : List ℕ)
    (w : Written m (length c / 4) (wholly init (words_of c) given) o m') where
  abbrev many : ℕ
  many = length c / 4

  opened : init_write init (words_of c) given (length m) ≡ closed many (length m) (wholly init (words_of c) given)
  unfolding init_write
  opened =
      let l = words-length c in
      let t : take many (words_of c) ≡ words_of c = take_all many (words_of c) (omega arith) in
      rw (← seven, le-leb many (length (words_of c)) (omega arith), t)

  pub write-refused : (f : Fault ℕ) (b : Made) → o ≡ Err f → length m' ≡ length m → b ≡ write_back (length m') (refused (number_of f.why) f.at)
      → b ≡ write_back (length m) (init_write init (words_of c) given (length m))
  unfolding closed
  write-refused f b e g h =
      let r : wholly init (words_of c) given ≡ refused (number_of f.why) f.at = rw e at w in
      h ∙ rw (g, opened, r)

  module _ (st : Desk) (e : o ≡ Ok st) where
    through : Finished m many (wholly init (words_of c) given) st.used st.ink m'
    through = rw e at w

    pub done-few : st.used ≤ many
    done-few = through.uses

    pub write_done : (b : Made) → length m' ≡ length m → Closed many st.used (page m' st.ink) b
        → b ≡ write_back (length m) (init_write init (words_of c) given (length m))
    unfolding Closed ended
    write_done b g h =
        let r = through in
        let all' : init_write init (words_of c) given (length m) ≡ closed many (length m) (wrote st.used r.out) = opened ∙ ap (closed many (length m)) r.comes in
        let at : st.ink ≡ (inked (page m (Some 0)) r.out).at = ap (λ (p : Page). p.at) r.inks in
        let bytes : m' ≡ (inked (page m (Some 0)) r.out).bytes = ap (λ (p : Page). p.bytes) r.inks in
        elim (dec_lt st.used many) [
          | yes l ↦
              let h' : b ≡ write_back (length m') (refused no_reading (init_words + st.used)) = rw (lt-ltb _ _ l) at h in
              h' ∙ ap (λ (x : ℕ). write_back x (refused no_reading (init_words + st.used))) g ∙ sym (ap (write_back (length m)) (all' ∙ closed-left many st.used (length m) r.out l))
          | no l ↦ elim (dec_le (length r.out) (length m)) [
            | no z ↦
                let f' : st.ink ≡ None = at ∙ inked-over r.out m 0 (omega arith) (omega arith) in
                let h' : b ≡ write_back (length m') (refused payload_room 0) = rw (le-ltb st.used many (omega arith), f') at h in
                h' ∙ ap (λ (x : ℕ). write_back x (refused payload_room 0)) g ∙ sym (ap (write_back (length m)) (all' ∙ closed-over many st.used (length m) r.out (omega arith) (omega arith)))
            | yes z ↦
                let v = inked-room r.out m 0 (omega arith) in
                let e : 0 + length r.out ≡ length r.out = omega arith in
                let a' : st.ink ≡ Some (length r.out) = at ∙ ap (λ (p : Page). p.at) v ∙ ap Some e in
                let m'' : m' ≡ r.out ++ replicate (length m - length r.out) 0 =
                bytes ∙ ap (λ (p : Page). p.bytes) v ∙ sets-eq r.out m 0 (omega arith)
                ∙ ap (λ (x : ℕ). r.out ++ drop x m) e
                ∙ ap (λ (x : List ℕ). r.out ++ drop (length r.out) x) zero' ∙ ap (λ (x : List ℕ). r.out ++ x) (drop-zeros (length r.out) (length m)) in
                let h' : b ≡ made accepted 0 (length r.out) m' = rw (le-ltb st.used many (omega arith), a') at h in
                h' ∙ ap (λ (x : List ℕ). made accepted 0 (length r.out) x) m''
                ∙ back-of (length m) st.used r.out ∙ sym (ap (write_back (length m)) (all' ∙ closed-done many st.used (length m) r.out (omega arith) z))
          ]
        ]

pub ruleset write-ways = (write-refused, done-few, write_done)

-- the words of whole words' bytes
pub words-taken : (n : ℕ) (s : List ℕ) → words_of (take (4 * n) s) ≡ take n (words_of s)
unfolding words_of
words-taken zero s = refl
words-taken (suc n) [] = let e : 4 * suc n ≡ suc (suc (suc (suc (4 * n)))) = omega arith in rw e refl
words-taken (suc n) (a ∷ []) = let e : 4 * suc n ≡ suc (suc (suc (suc (4 * n)))) = omega arith in rw e refl
words-taken (suc n) (a ∷ b ∷ []) = let e : 4 * suc n ≡ suc (suc (suc (suc (4 * n)))) = omega arith in rw e refl
words-taken (suc n) (a ∷ b ∷ c ∷ []) = let e : 4 * suc n ≡ suc (suc (suc (suc (4 * n)))) = omega arith in rw e refl
words-taken (suc n) (a ∷ b ∷ c ∷ d ∷ s) =
    let e : 4 * suc n ≡ suc (suc (suc (suc (4 * n)))) = omega arith in
    rw (e, words-taken n s)

module _ (init c given m : List ℕ) where
  pub seven-over : (b : Made) → length c / 4 < get_or init 7 0 → b ≡ write_back (length m) (refused no_reading 7) → b ≡ write_back (length m) (init_write init (words_of c) given (length m))
  unfolding init_write
  seven-over b h e = e ∙ rw (lt-leb (get_or init 7 0) (length (words_of c)) (omega (arith, words-length c)))

  module _ (z : List ℕ) (zs : z ≡ replicate (length m) 0) where
    pub cleared : z ≡ replicate (length z) 0
    cleared = rw (zs, length-replicate {A = ℕ} (length m) 0)

    -- the words that count, and those behind them
    pub write-cleared : (b : Made) → get_or init 7 0 ≤ length c / 4
        → b ≡ write_back (length z) (init_write init (words_of (take (4 * get_or init 7 0) c)) given (length z))
        → b ≡ write_back (length m) (init_write init (words_of c) given (length m))
    unfolding init_write
    write-cleared b h e =
        let n = get_or init 7 0 in
        let l : length z ≡ length m = ap length zs ∙ length-replicate {A = ℕ} (length m) 0 in
        let w = words-taken n c in
        let s : n ≤ length (words_of c) = omega (arith, words-length c) in
        let t : length (take n (words_of c)) ≡ n = length-take-le n (words_of c) s in
        let u : take n (take n (words_of c)) ≡ take n (words_of c) = take_all n (take n (words_of c)) (omega arith) in
        let g : b ≡ write_back (length m) (closed n (length m) (wholly init (take n (words_of c)) given)) = rw (l, w, le-leb n (length (take n (words_of c))) (omega arith), u) at e in
        g ∙ rw (le-leb n (length (words_of c)) s)

pub ruleset clear-ways = (seven-over, cleared, write-cleared)
