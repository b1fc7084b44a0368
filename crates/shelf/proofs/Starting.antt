-- The records of a list in their stream: where one begins that is the first from a place on, and which end by a place.
use Rattle.std.proofs.Common.{◌≡◌, ℕ, zero, suc, ◌+◌, ◌-◌, ◌*◌, ◌/◌, ◌%◌, ◌<◌, ◌≤◌, Bool, true, false, cond, List, [], ◌∷◌, ◌++◌, length, get_or, take, drop, sym, refl, ap, ◌∙◌, ⊎_elim, append_assoc, arith, length-append, take_at, get_or-append-add, drop_at, le-ltb, lt-ltb}
use Rattle.shelf.specs.Answers.{To}
use Rattle.shelf.specs.Stream.{byte_at, length_at, next, walk, named, first_from}
use Rattle.shelf.specs.Block.{bytes_from}
use Rattle.shelf.specs.Theorems.{entry_bytes, stream_of, Right, AllRight}
use Rattle.shelf.specs.Saved.{Record, hit, untouched}
use Rattle.shelf.proofs.Sides.{less}
use Rattle.shelf.proofs.Walks.{walk-stop, walk-on}
use Rattle.shelf.proofs.Bytes.{bytes-part, bytes-more}

abbrev pub size : Record → ℕ
size r = length (entry_bytes r)

-- from p on the stream has these records, to its end
pub record Suffix (S : List ℕ) (p : ℕ) (rs : List Record) : Type 0 where
  pub before : List ℕ
  pub split : S ≡ before ++ stream_of rs
  pub long : p ≡ length before
  pub right : AllRight rs

pub record Head (S : List ℕ) (p : ℕ) (r : Record) (rs : List Record) : Type 0 where
  pub length-is : length_at (byte_at S) p ≡ length r.payload
  pub short : length r.payload ≤ 8192
  pub size_is_lem : size r ≡ 6 + length r.payload
  pub inside : p + size r ≤ length S
  pub bytes : bytes_from (byte_at S) p (size r) ≡ entry_bytes r
  pub rest : Suffix S (p + size r) rs

right-head : {r : Record} {rs : List Record} → AllRight (r ∷ rs) → Right r × AllRight rs
right-head (AllRight.one g a) = (g, a)

pub head_of : (S : List ℕ) (p : ℕ) (r : Record) (rs : List Record) → Suffix S p (r ∷ rs) → Head S p r rs
unfolding stream_of
head_of S p r rs x =
    let R = entry_bytes r in
    let T = stream_of rs in
    let B = x.before in
    let n = length r.payload in
    let at : (j : ℕ) → byte_at S (length B + j) ≡ get_or (R ++ T) j 0 = λ j. ap (λ (y : List ℕ). get_or y (length B + j) 0) x.split ∙ get_or-append-add B (R ++ T) j 0 in
    let l = x.long in
    let z : length B + 0 ≡ p = omega arith in
    let y : length B + 1 ≡ p + 1 = omega arith in
    let high : byte_at S p ≡ n / 256 = rw z at (at 0) in
    let low : byte_at S (p + 1) ≡ n % 256 = rw y at (at 1) in
    let s : length R ≡ 6 + n = omega arith in
    let all : length S ≡ length B + (length R + length T) = ap length x.split ∙ length-append B (R ++ T) ∙ ap (λ (y : ℕ). length B + y) (length-append R T) in
    let g = right-head x.right in
    record {
      length-is = omega arith;
      short = g.0.short;
      size_is_lem = s;
      inside = omega arith;
      bytes =
          bytes-part S p (length R) (omega arith) ∙ ap (λ (y : List ℕ). take (length R) (drop p y)) x.split ∙ ap (take (length R)) (drop_at B (R ++ T) p (sym l))
          ∙ take_at R T (length R) refl;
      rest = record { before = B ++ R; split = x.split ∙ sym (append_assoc B R T); long = omega (arith, length-append B R); right = g.1 };
    }

pub suffix-end : (S : List ℕ) (p : ℕ) → Suffix S p [] → p ≡ length S
unfolding stream_of
suffix-end S p x = omega (arith, x.long, ap length x.split, length-append x.before [])

pub suffix_within : (S : List ℕ) (p : ℕ) (rs : List Record) → Suffix S p rs → p ≤ length S
suffix_within S p rs x = omega (arith, x.long, ap length x.split, length-append x.before (stream_of rs))

-- THE FIRST that begins at lo or after
pub data Starts (lo : ℕ) : (p : ℕ) → List Record → (q : ℕ) → List Record → Type 0 where
  here : {p : ℕ} {rs : List Record} → lo ≤ p → Starts lo p rs p rs
  later : {p q : ℕ} {r : Record} {rs rest : List Record} → p < lo → Starts lo (p + size r) rs q rest → Starts lo p (r ∷ rs) q rest

pub record First (lo p : ℕ) (rs : List Record) : Type 0 where
  pub place : ℕ
  pub rest : List Record
  pub starts : Starts lo p rs place rest

pub first-from : (S : List ℕ) (lo p : ℕ) (rs : List Record) → Suffix S p rs → lo ≤ length S → First lo p rs
first-from S lo p [] x h = record { place = p; rest = []; starts = Starts.here {p = p} (omega (arith, suffix-end S p x)) }
first-from S lo p (r ∷ rs) x h =
    ⊎_elim
    (λ (l : p < lo). let f = first-from S lo (p + size r) rs (head_of S p r rs x).rest h in record { place = f.place; rest = f.rest; starts = Starts.later l f.starts })
    (λ (l : lo ≤ p). record { place = p; rest = r ∷ rs; starts = Starts.here l })
    (less p lo)

pub starts-past : {lo p q : ℕ} {rs rest : List Record} → Starts lo p rs q rest → lo ≤ q
starts-past (Starts.here h) = h
starts-past (Starts.later h s) = starts-past s

pub starts-on : {lo p q : ℕ} {rs rest : List Record} → Starts lo p rs q rest → p ≤ q
starts-on (Starts.here h) = omega arith
starts-on (Starts.later h s) = let k = starts-on s in omega arith

pub starts-here : {lo p q : ℕ} {rs rest : List Record} → Starts lo p rs q rest → lo ≤ p → q ≡ p
starts-here (Starts.here h) l = refl
starts-here (Starts.later h s) l = absurd (omega arith)

pub starts-suffix : {S : List ℕ} {lo p q : ℕ} {rs rest : List Record} → Starts lo p rs q rest → Suffix S p rs → Suffix S q rest
starts-suffix (Starts.here h) x = x
starts-suffix {S} {lo} {p} (Starts.later {r = r} {rs = rs} h s) x = starts-suffix s (head_of S p r rs x).rest

-- a later place, from the first of an earlier one on
pub starts-then : {lo p q q' : ℕ} {rs rest rest' : List Record} (lo' : ℕ) → lo ≤ lo' → Starts lo p rs q rest → Starts lo' q rest q' rest' → Starts lo' p rs q' rest'
starts-then lo' h (Starts.here g) t = t
starts-then {lo} {p} lo' h (Starts.later {r = r} {rs = rs} g s) t = let k : p < lo' = omega arith in Starts.later k (starts-then lo' h s t)

-- where a walk comes to, and what it lets a block name
pub record Named-so (S : List ℕ) (lo p c q : ℕ) : Type 0 where
  pub place : ℕ
  pub count : ℕ
  pub walks : walk (byte_at S) lo p c ≡ To place count
  pub names : (hi : ℕ) → first_from (byte_at S) lo hi place ≡ named lo hi q

pub named-so : {lo p q : ℕ} {rs rest : List Record} (S : List ℕ) (c : ℕ) → Starts lo p rs q rest → Suffix S p rs → Named-so S lo p c q
unfolding first_from
named-so {lo} {p} S c (Starts.here h) x =
    record { place = p; count = c; walks = walk-stop (byte_at S) lo p c (omega arith); names = λ hi. rw (le-ltb p lo h) }
named-so {lo} {p} {q} S c (Starts.later {r = r} {rs = rs} h s) x =
    let d = head_of S p r rs x in
    let k : next (byte_at S) p ≡ p + size r = omega (arith, d.length-is, d.size_is_lem) in
    ⊎_elim
    (λ (l : p + 1 < lo).
    let i = named-so S (c + 1) s d.rest in
    record {
      place = i.place;
      count = i.count;
      walks = walk-on (byte_at S) lo p c l (omega (arith, d.length-is, d.short)) ∙ ap (λ (y : ℕ). walk (byte_at S) lo y (c + 1)) k ∙ i.walks;
      names = i.names;
    })
    (λ (l : lo ≤ p + 1).
    let e : q ≡ p + size r = starts-here s (omega (arith, d.size_is_lem)) in
    record {
      place = p;
      count = c;
      walks = walk-stop (byte_at S) lo p c l;
      names = λ hi. rw (lt-ltb p lo h) (ap (named lo hi) (k ∙ sym e));
    })
    (less (p + 1) lo)

-- THOSE THAT END by a place
pub data Ends (end : ℕ) : (p : ℕ) → List Record → (q : ℕ) → (kept rest : List Record) → Type 0 where
  none : {p : ℕ} → Ends end p [] p [] []
  over : {p : ℕ} {r : Record} {rs : List Record} → end < p + size r → Ends end p (r ∷ rs) p [] (r ∷ rs)
  more : {p q : ℕ} {r : Record} {rs kept rest : List Record} → p + size r ≤ end → Ends end (p + size r) rs q kept rest → Ends end p (r ∷ rs) q (r ∷ kept) rest

pub record Ended (end p : ℕ) (rs : List Record) : Type 0 where
  pub place : ℕ
  pub kept : List Record
  pub rest : List Record
  pub ends : Ends end p rs place kept rest

pub ended : (end p : ℕ) (rs : List Record) → Ended end p rs
ended end p [] = record { place = p; kept = []; rest = []; ends = Ends.none }
ended end p (r ∷ rs) =
    ⊎_elim (λ (h : end < p + size r). record { place = p; kept = []; rest = r ∷ rs; ends = Ends.over h })
    (λ (h : p + size r ≤ end). let e = ended end (p + size r) rs in record { place = e.place; kept = r ∷ e.kept; rest = e.rest; ends = Ends.more h e.ends })
    (less end (p + size r))

pub ends_on : {end p q : ℕ} {rs kept rest : List Record} → Ends end p rs q kept rest → p ≤ q
ends_on Ends.none = omega arith
ends_on (Ends.over h) = omega arith
ends_on (Ends.more h e) = let k = ends_on e in omega arith

pub ends-within : {end p q : ℕ} {rs kept rest : List Record} → Ends end p rs q kept rest → p ≤ end → q ≤ end
ends-within Ends.none g = g
ends-within (Ends.over h) g = g
ends-within (Ends.more h e) g = ends-within e h

pub ends-bytes : {end p q : ℕ} {rs kept rest : List Record} (S : List ℕ) → Ends end p rs q kept rest → Suffix S p rs → bytes_from (byte_at S) p (q - p) ≡ stream_of kept
unfolding stream_of bytes_from
ends-bytes {end} {p} S Ends.none x = let z : p - p ≡ 0 = omega arith in rw z
ends-bytes {end} {p} S (Ends.over h) x = let z : p - p ≡ 0 = omega arith in rw z
ends-bytes {end} {p} {q} S (Ends.more {r = r} {rs = rs} {kept = kept} h e) x =
    let d = head_of S p r rs x in
    let k = ends_on e in
    let z : q - p ≡ size r + (q - (p + size r)) = omega arith in
    ap (bytes_from (byte_at S) p) z ∙ bytes-more (byte_at S) p (size r) (q - (p + size r)) ∙ ap (λ (y : List ℕ). y ++ bytes_from (byte_at S) (p + size r) (q - (p + size r))) d.bytes
    ∙ ap (λ (y : List ℕ). entry_bytes r ++ y) (ends-bytes S e d.rest)

-- WHICH ARE UNTOUCHED
pub not-hit : (replaced : ℕ → Bool) (first last : ℕ) → ((j : ℕ) → first ≤ j → j < last → replaced j ≡ false) → (p k : ℕ) → 498 * first ≤ p → p + k ≤ 498 * last → hit replaced p k ≡ false
unfolding hit
not-hit replaced first last u p zero h g = refl
not-hit replaced first last u p (suc k) h g =
    simp (u (p / 498) (omega arith) (omega arith)) (not-hit replaced first last u (p + 1) k (omega arith) (omega arith))

pub is-hit : (replaced : ℕ → Bool) (i : ℕ) → replaced i ≡ true → (p k : ℕ) → 0 < k → p < 498 * (i + 1) → 498 * i < p + k → hit replaced p k ≡ true
unfolding hit
is-hit replaced i e p zero z h g = absurd (omega arith)
is-hit replaced i e p (suc k) z h g =
    ⊎_elim
    (λ (l : p < 498 * i). either (replaced (p / 498)) (hit replaced (p + 1) k) (is-hit replaced i e (p + 1) k (omega arith) (omega arith) (omega arith)))
    (λ (l : 498 * i ≤ p). let y : p / 498 ≡ i = omega arith in rw y (simp e))
    (less p (498 * i))
  where
    either : (t u : Bool) → u ≡ true → cond t true u ≡ true
    either true u e = refl
    either false u e = e

size-some : (r : Record) → 0 < size r
size-some r = omega arith

-- records that begin before the end of a replaced block and reach into it
passed : (replaced : ℕ → Bool) (i lo : ℕ) → replaced i ≡ true → lo ≤ 498 * (i + 1) → {p q : ℕ} {rs rest : List Record} → 498 * i ≤ p → Starts lo p rs q rest
    → untouched replaced p rs ≡ untouched replaced q rest
unfolding untouched
passed replaced i lo e l h (Starts.here g) = refl
passed replaced i lo e l {p} h (Starts.later {r = r} g s) =
    simp (is-hit replaced i e p (size r) (size-some r) (omega arith) (omega (arith, size-some r))) (passed replaced i lo e l (omega arith) s)

-- the kept ones, then none up to the first that begins behind the replaced block
pub kept_then : (replaced : ℕ → Bool) (first i lo : ℕ) → ((j : ℕ) → first ≤ j → j < i → replaced j ≡ false) → replaced i ≡ true → lo ≤ 498 * (i + 1) → 498 * i ≤ lo
    → {p q q' : ℕ} {rs kept over rest : List Record} → 498 * first ≤ p → Ends (498 * i) p rs q kept over → Starts lo p rs q' rest
    → untouched replaced p rs ≡ kept ++ untouched replaced q' rest
unfolding untouched
kept_then replaced first i lo u e l m h Ends.none (Starts.here g) = refl
kept_then replaced first i lo u e l m {p} h (Ends.over x) (Starts.here g) = refl
kept_then replaced first i lo u e l m {p} h (Ends.over x) (Starts.later {r = r} g s) =
    simp (is-hit replaced i e p (size r) (size-some r) (omega arith) x) (passed replaced i lo e l (omega arith) s)
kept_then replaced first i lo u e l m {p} h (Ends.more {r = r} x y) (Starts.here g) = absurd (omega (arith, size-some r))
kept_then replaced first i lo u e l m {p} h (Ends.more {r = r} x y) (Starts.later g s) =
    simp (not-hit replaced first i u p (size r) h x) (ap (λ (z : List Record). r ∷ z) (kept_then replaced first i lo u e l m (omega arith) y s))

-- and where no replaced block follows
pub kept-last : (replaced : ℕ → Bool) (first last : ℕ) → ((j : ℕ) → first ≤ j → j < last → replaced j ≡ false) → (S : List ℕ) → length S ≤ 498 * last → {p q : ℕ} {rs kept over : List Record} → 498 * first ≤ p
    → Ends (length S) p rs q kept over → Suffix S p rs → untouched replaced p rs ≡ kept
unfolding untouched
kept-last replaced first last u S l h Ends.none x = refl
kept-last replaced first last u S l {p} h (Ends.over {r = r} {rs = rs} g) x = absurd (omega (arith, (head_of S p r rs x).inside))
kept-last replaced first last u S l {p} h (Ends.more {r = r} {rs = rs} g e) x =
    simp (not-hit replaced first last u p (size r) h (omega arith)) (ap (λ (z : List Record). r ∷ z) (kept-last replaced first last u S l (omega arith) e (head_of S p r rs x).rest))
