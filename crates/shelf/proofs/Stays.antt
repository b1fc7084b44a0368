-- A file that the reader accepts is salvaged as it is, and nothing is dropped. Of each block's used bytes every one is kept or accounted for.
use Rattle.std.proofs.Common.{◌≡◌, ℕ, zero, suc, ◌+◌, ◌-◌, ◌*◌, ◌/◌, ◌%◌, ◌<◌, ◌≤◌, min, max, Bool, true, false, cond, eqb, ltb, leb, ◌⊎◌, List, [], ◌∷◌, length, sym, refl, ap, ◌∙◌, inl, inr, ⊎_elim, append-nil, arith, le-ltb, lt-ltb, eq-eqb, eqb-true, le-leb}
use Rattle.buffers.specs.Bytes.{spelled}
use Rattle.shelf.specs.Answers.{Walk, To, Stepped, Off, On, Refused, Whole}
use Rattle.shelf.specs.Stream.{next, walk, first_from}
use Rattle.shelf.specs.Block.{bytes_from, blocks_for}
use Rattle.shelf.specs.Judge.{byte_of, blocks, number_at, first_at, end_at, reason, walked, in_step}
use Rattle.shelf.specs.Shelf as shelf
use Rattle.shelf.specs.Shelf.{scan_by, scan}
use Rattle.shelf.specs.Theorems.{Octets}
use Rattle.shelf.specs.Salvage.{Turn, Known, Judged, Stretch, Stop, wanted, stepped, taken, judge, kept_by, ending, stretch, onward, stretches_by, stretches, kept_of, count_of, good_entry, bad_entry, good_entries, entries_of, bytes_dropped, entry_words, salvaged, salvage}
use Rattle.shelf.specs.Stays.{Stays, unchanged, Accounts}
use Rattle.shelf.proofs.Sides.{less}
use Rattle.shelf.proofs.Walks.{Walks, walked-so, reached}
use Rattle.shelf.proofs.Ways.{used-so}
use Rattle.shelf.proofs.Scanning.{fine, some-so, steps}
use Rattle.shelf.proofs.Scans.{Scans, scanned, total}
use Rattle.shelf.proofs.Forth.{within}
use Rattle.shelf.proofs.Back.{Whole-file, whole-file}
use Rattle.shelf.proofs.Theorems.{accepted, read-scan}

-- each used byte is kept or dropped
abbrev Lesser : (x y m : ℕ) → Type 0
Lesser x y m = ((x ≤ y) × (m ≡ x)) ⊎ ((y ≤ x) × (m ≡ y))

abbrev Greater : (x y m : ℕ) → Type 0
Greater x y m = ((x ≤ y) × (m ≡ y)) ⊎ ((y ≤ x) × (m ≡ x))

lesser : (x y : ℕ) → Lesser x y (min x y)
lesser x y = ⊎_elim (λ (h : x < y). inl (omega arith, omega arith)) (λ (h : y ≤ x). inr (h, omega arith)) (less x y)

greater : (x y : ℕ) → Greater x y (max x y)
greater x y = ⊎_elim (λ (h : x < y). inl (omega arith, omega arith)) (λ (h : y ≤ x). inr (h, omega arith)) (less x y)

sum-up : (lo hi start stop a b c d : ℕ) → lo ≤ hi → start ≤ stop → Lesser hi stop a → Greater lo start b → Lesser hi start c → Greater lo stop d → hi - lo ≡ a - b + ((c - lo) + (hi - d))
sum-up lo hi start stop a' b' c' d' h g A B C D =
    ⊎_elim (λ a. ⊎_elim (λ b. ⊎_elim (λ c. ⊎_elim (λ d. omega arith) (λ d. omega arith) D) (λ c. ⊎_elim (λ d. omega arith) (λ d. omega arith) D) C) (λ b. ⊎_elim (λ c. ⊎_elim (λ d. omega arith) (λ d. omega arith) D) (λ c. ⊎_elim (λ d. omega arith) (λ d. omega arith) D) C) B) (λ a. ⊎_elim (λ b. ⊎_elim (λ c. ⊎_elim (λ d. omega arith) (λ d. omega arith) D) (λ c. ⊎_elim (λ d. omega arith) (λ d. omega arith) D) C) (λ b. ⊎_elim (λ c. ⊎_elim (λ d. omega arith) (λ d. omega arith) D) (λ c. ⊎_elim (λ d. omega arith) (λ d. omega arith) D) C) B) A

pub accounts : Accounts
accounts lo hi start stop h g =
    sum-up lo hi start stop (min hi stop) (max lo start) (min hi start) (max lo stop) h g (lesser hi stop) (greater lo start) (lesser hi start) (greater lo stop)

-- records kept to the end
stop : (place count : ℕ) → Stop
stop place count = record { place = place; count = count }

enough : (g h : ℕ) (b : ℕ → ℕ) (end p c : ℕ) → end ≤ p + g + 1 → end ≤ p + h + 1 → kept_by g b end p c ≡ kept_by h b end p c
unfolding kept_by stop
enough zero zero b end p c i j = refl
enough zero (suc h) b end p c i j = simp (le-ltb (p + 1) end (omega arith))
enough (suc g) zero b end p c i j = simp (le-ltb (p + 1) end (omega arith))
enough (suc g) (suc h) b end p c i j =
    ap (λ (w : Stop). cond (ltb (p + 1) end) (cond (leb (next b p) end) w (stop p c)) (stop p c))
    (enough g h b end (next b p) (c + 1) (omega arith) (omega arith))

kept-all : (b : ℕ → ℕ) (end d : ℕ) {p c : ℕ} {w : Walk} → Walks b end p c w → w ≡ To end d → kept_by end b end p c ≡ stop end d
unfolding kept_by stop
kept-all b end d {p} {c} (Walks.stops h) e =
    let a : p ≡ end = cc in
    let k : c ≡ d = cc in
    enough end (suc end) b end p c (omega arith) (omega arith) ∙ simp (le-ltb (p + 1) end h) (ap (λ (x : ℕ). stop x c) a ∙ ap (stop end) k)
kept-all b end d (Walks.passes h l) e = let o : ◌≡◌ {A = ℕ} 0 1 = cc in absurd (omega arith)
kept-all b end d {p} {c} (Walks.goes h l r) e =
    let n : next b p ≤ end = (reached (walked_to r e)).on in
    enough end (suc end) b end p c (omega arith) (omega arith) ∙ simp (lt-ltb (p + 1) end h, le-leb (next b p) end n) (kept-all b end d r e)
  where
    walked_to : {q x : ℕ} {w : Walk} → Walks b end q x w → w ≡ To end d → Walks b end q x (To end d)
    walked_to r e = rw e at r

-- the reader's blocks, by their tests
data Passes (f : List ℕ) (n d : ℕ) : (k i p c : ℕ) → Type 0 where
  done : {i : ℕ} → length f % 512 ≡ 0 → Passes f n d zero i n d
  more : {k i p c q e : ℕ} → reason f i i ≡ 0 → in_step f i p c ≡ On q e → Passes f n d k (i + 1) q e → Passes f n d (suc k) i p c

passed : (f : List ℕ) (n d k i p c : ℕ) → scan_by k f i p c ≡ Whole n d → Passes f n d k i p c
unfolding scan_by shelf.onward
passed f n d zero i p c e = by (eqb (length f % 512) 0) refl e
  where
    ended : (q s : ℕ) → Whole q s ≡ Whole n d → length f % 512 ≡ 0 → Passes f n d zero i q s
    ended q s g h = let a : q ≡ n = cc in let b : s ≡ d = cc in rw (a, b) (Passes.done h)

    by : (t : Bool) → eqb (length f % 512) 0 ≡ t → cond t (Whole p c) (Refused 33 i) ≡ Whole n d → Passes f n d zero i p c
    by true g e = ended p c e (eqb-true _ _ g)
    by false g e = let o : ◌≡◌ {A = ℕ} 0 1 = cc in absurd (omega arith)
passed f n d (suc k) i p c e = by (λ q s g. passed f n d k (i + 1) q s g) (eqb (reason f i i) 0) refl (in_step f i p c) refl e
  where
    by : ((q s : ℕ) → scan_by k f (i + 1) q s ≡ Whole n d → Passes f n d k (i + 1) q s) → (t : Bool) → eqb (reason f i i) 0 ≡ t → (s : Stepped) → in_step f i p c ≡ s
        → cond t (shelf.onward i s (scan_by k f (i + 1))) (Refused (reason f i i) i) ≡ Whole n d → Passes f n d (suc k) i p c
    by rest true g (On q s) h e = Passes.more (eqb-true _ _ g) h (rest q s e)
    by rest true g Off h e = let o : ◌≡◌ {A = ℕ} 0 1 = cc in absurd (omega arith)
    by rest false g s h e = let o : ◌≡◌ {A = ℕ} 0 1 = cc in absurd (omega arith)

module _ (f : List ℕ) (n d : ℕ) where
  -- they are one stretch
  along : (k i p c : ℕ) → Passes f n d k i p c → stretches_by k f i 0 (Turn.only i) (Known.from 0 p c) ≡ stretch f 0 (i + k) (Known.from 0 n d) 0 ∷ []
  unfolding stretches_by onward judge wanted taken stepped
  along zero i p c (Passes.done h) = let z : i + 0 ≡ i = omega arith in rw z (simp (eq-eqb (length f % 512) 0 h))
  along (suc k) i p c (Passes.more {q = q} {e = x} g s r) =
      let z : i + suc k ≡ i + 1 + k = omega arith in
      let m : number_at f i + 1 ≡ i + 1 = ap (λ (y : ℕ). y + 1) (fine f i i g).number in
      simp (eq-eqb (reason f i i) 0 g, s) (rw (m, z) (along k (i + 1) q x r))

  first-zero : (q x : ℕ) → reason f 0 0 ≡ 0 → in_step f 0 0 0 ≡ On q x → first_at f 0 ≡ 0
  unfolding first_from
  first-zero q x g s =
      let u = used-so f 0 (some-so f 0 (fine f 0 0 g).alone) in
      (steps f 0 0 0 q x s).first ∙ simp (lt-ltb 0 (end_at f 0) (omega (arith, u.some)))

  begun : (q x : ℕ) → reason f 0 0 ≡ 0 → in_step f 0 0 0 ≡ On q x → judge f 0 Turn.any Known.lost ≡ Judged.good (Known.from 0 q x)
  unfolding judge wanted taken stepped in_step
  begun q x g s =
      let z = first-zero q x g s in
      let w : reason f 0 (number_at f 0) ≡ 0 = ap (reason f 0) (fine f 0 0 g).number ∙ g in
      let k : walked f 0 (walk (byte_of f) (end_at f 0) 0 0) ≡ On q x =
      sym (simp (eq-eqb (first_at f 0) (first_from (byte_of f) (498 * 0) (end_at f 0) 0) (steps f 0 0 0 q x s).first)) ∙ s in
      simp (eq-eqb (reason f 0 (number_at f 0)) 0 w) (rw z (ap (stepped 0) k))

  one-stretch : (k : ℕ) → Passes f n d (suc k) 0 0 0 → stretches_by (suc k) f 0 0 Turn.any Known.lost ≡ stretch f 0 (0 + 1 + k) (Known.from 0 n d) 0 ∷ []
  unfolding stretches_by onward
  one-stretch k (Passes.more {q = q} {e = x} g s r) =
      let m : number_at f 0 + 1 ≡ 0 + 1 = ap (λ (y : ℕ). y + 1) (fine f 0 0 g).number in
      simp (begun q x g s) (rw m (along k (0 + 1) q x r))

  -- nothing of it is dropped
  none_dropped : (s : Stretch) → s.start ≡ 0 → s.stop ≡ n → ((i : ℕ) → i < blocks f → end_at f i ≤ n) → (k i : ℕ) → i + k ≡ blocks f → good_entries k f s i ≡ []
  unfolding good_entries good_entry
  none_dropped s a e h zero i g = refl
  none_dropped s a e h (suc k) i g =
      let z : (min (end_at f i) s.start - 498 * i) + (end_at f i - max (498 * i) s.stop) ≡ 0 = omega (arith, h i (omega arith)) in
      rw z (none_dropped s a e h k (i + 1) (omega arith))

whole : (last n d : ℕ) → Stretch
whole last n d = record { first = 0; last = last; start = 0; stop = n; count = d; reason = 0 }

-- what the stretches of an accepted file come to
pub record Kept (f S : List ℕ) (c : ℕ) : Type 0 where
  pub stream : kept_of f (stretches f) ≡ S
  pub count : count_of (stretches f) ≡ c
  pub entries : entries_of f (stretches f) ≡ []

from-whole : (f : List ℕ) (m n d : ℕ) → stretches f ≡ whole m n d ∷ [] → good_entries (m - 0) f (whole m n d) 0 ≡ [] → Kept f (bytes_from (byte_of f) 0 n) d
unfolding kept_of count_of entries_of bad_entry whole
from-whole f m n d e g =
    let z : n - 0 ≡ n = omega arith in
    let y : d + 0 ≡ d = omega arith in
    record {
      stream = rw e (rw z (append-nil (bytes_from (byte_of f) 0 n)));
      count = rw e y;
      entries = rw e (rw g);
    }

stretch-is : (f : List ℕ) (last n d : ℕ) → ending f 0 last ≡ n → kept_by n (byte_of f) n 0 0 ≡ stop n d → stretch f 0 last (Known.from 0 n d) 0 ≡ whole last n d
unfolding stretch whole stop
stretch-is f last n d e k = rw e (rw k)

none_left : (f : List ℕ) (n d i p c : ℕ) → Passes f n d zero i p c → (p ≡ n) × (c ≡ d) × (length f % 512 ≡ 0)
none_left f n d i p c (Passes.done h) = (refl, refl, h)

kept-none : (f : List ℕ) (n d : ℕ) → blocks f ≡ 0 → Passes f n d zero 0 0 0 → Kept f (bytes_from (byte_of f) 0 n) d
unfolding stretches stretches_by stretch ending whole good_entries
kept-none f n d q r =
    let x = none_left f n d 0 0 0 r in
    let e : stretches f ≡ whole 0 0 0 ∷ [] = rw q (simp (eq-eqb (length f % 512) 0 x.2)) in
    from-whole f 0 n d (e ∙ ap (λ (y : ℕ). whole 0 y 0 ∷ []) x.0 ∙ ap (λ (y : ℕ). whole 0 n y ∷ []) x.1) refl

kept-some : (f : List ℕ) (n d k : ℕ) → blocks f ≡ suc k → Passes f n d (suc k) 0 0 0 → ((i : ℕ) → i < blocks f → end_at f i ≤ n) → n ≡ end_at f (blocks f - 1) → walk (byte_of f) n 0 0 ≡ To n d
    → Kept f (bytes_from (byte_of f) 0 n) d
unfolding stretches ending whole
kept-some f n d k q r inside t w =
    let l : blocks f - 1 ≡ 0 + 1 + k - 1 = omega arith in
    let e : ending f 0 (0 + 1 + k) ≡ n = simp (lt-ltb 0 (0 + 1 + k) (omega arith)) (sym (t ∙ ap (end_at f) l)) in
    let one : stretches f ≡ whole (0 + 1 + k) n d ∷ [] =
    rw q (one-stretch f n d k r) ∙ ap (λ (y : Stretch). y ∷ []) (stretch-is f (0 + 1 + k) n d e (kept-all (byte_of f) n d (walked-so w) refl)) in
    from-whole f (0 + 1 + k) n d one (none_dropped f n d (whole (0 + 1 + k) n d) refl refl inside (0 + 1 + k - 0) 0 (omega arith))

pub kept-so : (f : List ℕ) (n d : ℕ) → Octets f → scan f ≡ Whole n d → Kept f (bytes_from (byte_of f) 0 n) d
unfolding scan
kept-so f n d o e = by (blocks f) refl (passed f n d (blocks f) 0 0 0 e) (scanned f n d (blocks f) 0 0 0 e) (whole-file f o n d (scanned f n d (blocks f) 0 0 0 e))
  where
    by : (k : ℕ) → blocks f ≡ k → Passes f n d k 0 0 0 → Scans f n d k 0 0 0 → Whole-file f o n d → Kept f (bytes_from (byte_of f) 0 n) d
    by zero q r s w = kept-none f n d q r
    by (suc k) q r s w =
        kept-some f n d k q r (λ i h. omega (arith, w.used i h, within (byte_of f) n i (omega (arith, w.blocks)))) (total f n d k 0 0 0 s (omega arith)) w.walked

-- (e)
salvage-so : (f S : List ℕ) (room list c : ℕ) → Kept f S c → blocks_for (length S) ≤ room / 512 → blocks_for (length S) ≤ 4294967296 → salvage f room list ≡ salvaged c (length S) S []
unfolding salvage
salvage-so f S room list c k h g =
    rw (k.stream, k.count, k.entries)
    (simp (le-ltb (room / 512) (blocks_for (length S)) h, le-ltb 4294967296 (blocks_for (length S)) g, le-ltb (list / 12) 0 (omega arith)))

pub stays : Stays
unfolding bytes_dropped entry_words spelled
stays f s room list back c n o e h =
    let r = read-scan f s back c n e in
    let S = bytes_from (byte_of f) 0 n in
    let a = accepted f n c o r.0 in
    salvage-so f S room list c (kept-so f n c o r.0) (omega (arith, a.fits)) a.numbered
    ∙ ap (unchanged c (length S) (512 * blocks_for (length S))) a.file
    ∙ ap (λ (x : ℕ). unchanged c x (512 * blocks_for (length S)) f) a.long
    ∙ ap (λ (x : ℕ). unchanged c n x f) a.size
