-- The theorems of the shelf.
use Rattle.std.proofs.Common.{◌≡◌, ℕ, zero, suc, ◌+◌, ◌*◌, ◌/◌, ◌%◌, ◌<◌, ◌≤◌, Bool, true, false, cond, ltb, List, [], ◌∷◌, ◌++◌, length, get_or, take, drop, sym, refl, ap, ◌∙◌, ⊎_elim, append_assoc, arith, length-append, take_at, get_or-append-add, drop_at, le-ltb, lt-ltb, eq-eqb}
use Rattle.shelf.specs.Answers.{Walk, Over, To, Sound, Scan, Refused, Whole}
use Rattle.shelf.specs.Stream.{byte_at, next, length_at, walk, judged, fault, named, first_from}
use Rattle.shelf.specs.Block.{bytes_from, block, used_in, name_after, first_in, block_in, cut, blocks_for, file_of}
use Rattle.shelf.specs.Judge.{byte_of, blocks}
use Rattle.shelf.specs.Shelf.{Outcome, refuses, gives, write_sound, shelf_write, scan_by, scan, read_scanned, shelf_read}
use Rattle.shelf.specs.Theorems.{Entry, entry_bytes, stream_of, Octets, AllRight, verdict, WriteRead, ReadWrite, RefusedAlike, OneList}
use Rattle.shelf.proofs.Sides.{less}
use Rattle.shelf.proofs.Walks.{walk-stop, walk-on, walk-alike}
use Rattle.shelf.proofs.Bytes.{bytes-long, byte-of, bytes-alike, bytes-all}
use Rattle.shelf.proofs.Cutting.{cut-long}
use Rattle.shelf.proofs.Scans.{scanned}
use Rattle.shelf.proofs.Forth.{scan-cut, stream-is, within}
use Rattle.shelf.proofs.Back.{whole-file}

-- the records of a list, followed to their end
pub followed : (s before : List ℕ) (rs : List Entry) (c : ℕ) → AllRight rs → s ≡ before ++ stream_of rs → walk (byte_at s) (length s) (length before) c ≡ To (length s) (c + length rs)
unfolding stream_of
followed s before [] c AllRight.none e =
    let l : length s ≡ length before = ap length e ∙ length-append before [] ∙ omega arith in
    let z : c + 0 ≡ c = omega arith in
    walk-stop (byte_at s) (length s) (length before) c (omega arith) ∙ rw (l, z)
followed s before (r ∷ rs) c (AllRight.one g a) e =
    let R = entry_bytes r in
    let T = stream_of rs in
    let n = length r.payload in
    let at : (j : ℕ) → byte_at s (length before + j) ≡ get_or (R ++ T) j 0 = λ j. ap (λ (x : List ℕ). get_or x (length before + j) 0) e ∙ get_or-append-add before (R ++ T) j 0 in
    let p : length before + 0 ≡ length before = omega arith in
    let high : byte_at s (length before) ≡ n / 256 = rw p at (at 0) in
    let low : byte_at s (length before + 1) ≡ n % 256 = at 1 in
    let long : length_at (byte_at s) (length before) ≡ n = omega arith in
    let size : length R ≡ 6 + n = omega arith in
    let all : length s ≡ length before + (length R + length T) = ap length e ∙ length-append before (R ++ T) ∙ ap (λ (x : ℕ). length before + x) (length-append R T) in
    let far : next (byte_at s) (length before) ≡ length (before ++ R) = omega (arith, length-append before R) in
    let count : c + 1 + length rs ≡ c + suc (length rs) = omega arith in
    walk-on (byte_at s) (length s) (length before) c (omega arith) (omega (arith, g.short))
    ∙ ap (λ (x : ℕ). walk (byte_at s) (length s) x (c + 1)) far
    ∙ followed s (before ++ R) rs (c + 1) a (e ∙ sym (append_assoc before R T))
    ∙ ap (To (length s)) count

list-sound : (rs : List Entry) → AllRight rs → fault (byte_at (stream_of rs)) (length (stream_of rs)) ≡ Sound (length rs)
unfolding fault judged
list-sound rs a =
    let s = stream_of rs in
    let z : 0 + length rs ≡ length rs = omega arith in
    ap (judged (length s)) (followed s [] rs 0 a refl ∙ ap (To (length s)) z) ∙ simp (eq-eqb (length s) (length s) refl)

-- what a sound stream is written as, and how its file reads
sound-written : (s : List ℕ) (room c : ℕ) → fault (byte_at s) (length s) ≡ Sound c → blocks_for (length s) ≤ room / 512 → blocks_for (length s) ≤ 4294967296
    → shelf_write s room ≡ gives c (length s) (512 * blocks_for (length s)) (file_of (byte_at s) (length s))
unfolding shelf_write write_sound
sound-written s room c e h g = ap (write_sound s room) e ∙ simp (le-ltb (room / 512) (blocks_for (length s)) h, le-ltb 4294967296 (blocks_for (length s)) g)

pub sound-read : (s : List ℕ) (back c : ℕ) → fault (byte_at s) (length s) ≡ Sound c → length s ≤ back
    → shelf_read (file_of (byte_at s) (length s)) back ≡ gives c (length s) (length (file_of (byte_at s) (length s))) s
unfolding shelf_read read_scanned verdict
sound-read s back c e h =
    let F = file_of (byte_at s) (length s) in
    let b : bytes_from (byte_of F) 0 (length s) ≡ s =
    bytes-alike (byte_of F) (byte_at s) 0 0 (length s) (λ j l. stream-is (byte_at s) (length s) (0 + j) (omega arith)) ∙ bytes-all s in
    ap (read_scanned F back) (scan-cut (byte_at s) (length s) ∙ ap (verdict (length s)) e) ∙ simp (le-ltb back (length s) h) (ap (gives c (length s) (length F)) b)

-- (a)
pub write_read : WriteRead
write_read rs room back a h g l =
    let s = stream_of rs in
    let e = list-sound rs a in
    let n : 512 * blocks_for (length s) ≡ length (file_of (byte_at s) (length s)) = sym (cut-long (byte_at s) (length s) (blocks_for (length s))) in
    (sound-written s room (length rs) e h g ∙ ap (λ (x : ℕ). gives (length rs) (length s) x (file_of (byte_at s) (length s))) n, sound-read s back (length rs) e l)

-- (d)
pub refused-alike : RefusedAlike
unfolding shelf_write write_sound shelf_read read_scanned verdict
refused-alike s i room back e =
    (ap (write_sound s room) e, ap (read_scanned (file_of (byte_at s) (length s)) back) (scan-cut (byte_at s) (length s) ∙ ap (verdict (length s)) e))

-- streams that agree have one file
module _ (b b' : ℕ → ℕ) (n : ℕ) (same : (k : ℕ) → k < n → b k ≡ b' k) where
  name-alike : (lo hi p : ℕ) → lo < n → first_from b lo hi p ≡ first_from b' lo hi p
  unfolding first_from
  name-alike lo hi p h =
      ⊎_elim (λ (l : p < lo). rw (lt-ltb p lo l) (ap (λ (x : ℕ). named lo hi (p + 6 + x)) (rw (same p (omega arith), same (p + 1) (omega arith)))))
      (λ (l : lo ≤ p). rw (le-ltb p lo l)) (less p lo)

  pub after-alike : (lo hi : ℕ) (w : Walk) → lo < n → name_after b lo hi w ≡ name_after b' lo hi w
  unfolding name_after
  after-alike lo hi (Over p) h = refl
  after-alike lo hi (To p c) h = name-alike lo hi p h

  block-alike : (i : ℕ) → i < blocks_for n → block_in b n i ≡ block_in b' n i
  unfolding block_in first_in
  block-alike i h =
      let lo = 498 * i in
      let hi = lo + used_in n i in
      let w : walk b' lo 0 0 ≡ walk b lo 0 0 = walk-alike b b' lo 0 0 (λ k l. same k (omega arith)) in
      let f : name_after b lo hi (walk b lo 0 0) ≡ name_after b' lo hi (walk b' lo 0 0) = after-alike lo hi (walk b lo 0 0) (omega arith) ∙ ap (name_after b' lo hi) (sym w) in
      ap (λ (x : ℕ). block i x (bytes_from b lo (used_in n i))) f
      ∙ ap (block i (name_after b' lo hi (walk b' lo 0 0))) (bytes-alike b b' lo lo (used_in n i) (λ j l. same (lo + j) (omega (arith, within b n i h))))

  pub cut-alike : (k : ℕ) → k ≤ blocks_for n → cut b n k ≡ cut b' n k
  unfolding cut
  cut-alike zero h = refl
  cut-alike (suc k) h = rw (cut-alike k (omega arith), block-alike k (omega arith))

-- (b)
-- what an accepted file's stream is
pub record Accepted (f : List ℕ) (n c : ℕ) (S : List ℕ) : Type 0 where
  pub long : length S ≡ n
  pub sound : fault (byte_at S) (length S) ≡ Sound c
  pub file : file_of (byte_at S) (length S) ≡ f
  pub size : 512 * blocks_for (length S) ≡ length f
  pub fits : blocks_for (length S) ≤ length f / 512
  pub numbered : blocks_for (length S) ≤ 4294967296

pub accepted : (f : List ℕ) (n c : ℕ) → Octets f → scan f ≡ Whole n c → Accepted f n c (bytes_from (byte_of f) 0 n)
unfolding scan fault judged
accepted f n c o e =
    let S = bytes_from (byte_of f) 0 n in
    let l : length S ≡ n = bytes-long (byte_of f) 0 n in
    let r = scanned f n c (blocks f) 0 0 0 e in
    let w = whole-file f o n c r in
    let same : (k : ℕ) → k < n → byte_of f k ≡ byte_at S k = λ k h.
    let z : 0 + k ≡ k = omega arith in sym (byte-of (byte_of f) 0 n k h ∙ ap (byte_of f) z) in
    let s : fault (byte_at S) (length S) ≡ Sound c =
    ap (fault (byte_at S)) l ∙ ap (judged n) (walk-alike (byte_of f) (byte_at S) n 0 0 same ∙ w.walked) ∙ simp (eq-eqb n n refl) in
    let m : blocks_for (length S) ≡ blocks_for n = ap blocks_for l in
    let F : file_of (byte_at S) (length S) ≡ f = ap (file_of (byte_at S)) l ∙ sym (cut-alike (byte_of f) (byte_at S) n same (blocks_for n) (omega arith)) ∙ sym w.file in
    let z : 512 * blocks_for (length S) ≡ length f = omega (arith, ap length w.file, cut-long (byte_of f) n (blocks_for n)) in
    record { long = l; sound = s; file = F; size = z; fits = omega (arith, w.blocks); numbered = omega (arith, w.numbered) }

accepted-written : (f : List ℕ) (n c : ℕ) → Octets f → scan f ≡ Whole n c → shelf_write (bytes_from (byte_of f) 0 n) (length f) ≡ gives c n (length f) f
accepted-written f n c o e =
    let S = bytes_from (byte_of f) 0 n in
    let a = accepted f n c o e in
    sound-written S (length f) c a.sound a.fits a.numbered
    ∙ ap (λ (x : List ℕ). gives c (length S) (512 * blocks_for (length S)) x) a.file
    ∙ ap (λ (x : ℕ). gives c x (512 * blocks_for (length S)) f) a.long ∙ ap (λ (x : ℕ). gives c n x f) a.size

empty-whole : (f : List ℕ) → length f ≡ 0 → scan f ≡ Whole 0 0
unfolding scan scan_by
empty-whole f e = let z : blocks f ≡ 0 = omega arith in rw z (simp (eq-eqb (length f % 512) 0 (omega arith)))

pub read-scan : (f s : List ℕ) (room c n : ℕ) → shelf_read f room ≡ gives c n (length f) s → (scan f ≡ Whole n c) × (bytes_from (byte_of f) 0 n ≡ s)
unfolding shelf_read read_scanned
read-scan f s room c n e = by (scan f) refl e
  where
    fits : (t d : ℕ) (b : Bool) → scan f ≡ Whole t d → cond b (refuses 21 0) (gives d t (length f) (bytes_from (byte_of f) 0 t)) ≡ gives c n (length f) s
        → (scan f ≡ Whole n c) × (bytes_from (byte_of f) 0 n ≡ s)
    fits t d true g h = let z : ◌≡◌ {A = ℕ} 21 0 = ap (λ (x : Outcome). x.answer.number) h in absurd (omega arith)
    fits t d false g h =
        let a : d ≡ c = ap (λ (x : Outcome). x.answer.records) h in
        let b : t ≡ n = ap (λ (x : Outcome). x.answer.stream) h in
        (g ∙ ap (λ (x : ℕ). Whole x d) b ∙ ap (Whole n) a, ap (bytes_from (byte_of f) 0) (sym b) ∙ ap (λ (x : Outcome). x.content) h)

    by : (w : Scan) → scan f ≡ w → read_scanned f room w ≡ gives c n (length f) s → (scan f ≡ Whole n c) × (bytes_from (byte_of f) 0 n ≡ s)
    by (Refused k i) g h =
        let z : 0 ≡ length f = ap (λ (x : Outcome). x.answer.file) h in
        let q : Refused k i ≡ Whole 0 0 = sym g ∙ empty-whole f (sym z) in
        let x : ◌≡◌ {A = ℕ} 0 1 = cc in absurd (omega arith)
    by (Whole t d) g h = fits t d (ltb room t) g h

pub read-write : ReadWrite
read-write f s room c n o e =
    let r = read-scan f s room c n e in ap (λ (x : List ℕ). shelf_write x (length f)) (sym r.1) ∙ accepted-written f n c o r.0

-- records that are written alike are the same
entry : (name type : ℕ) (payload : List ℕ) → Entry
entry name type payload = record { name = name; type = type; payload = payload }

pub one_list : OneList
unfolding stream_of entry
one_list [] [] e = refl
one_list [] (t ∷ ts) e = let z : ◌≡◌ {A = ℕ} 0 (length (entry_bytes t ++ stream_of ts)) = ap length e in absurd (omega (arith, z, length-append t.payload (stream_of ts)))
one_list (r ∷ rs) [] e = let z : ◌≡◌ {A = ℕ} (length (entry_bytes r ++ stream_of rs)) 0 = ap length e in absurd (omega (arith, z, length-append r.payload (stream_of rs)))
one_list (r ∷ rs) (t ∷ ts) e =
    let n = length r.payload in
    let k = length t.payload in
    let a₀ : n / 256 ≡ k / 256 = ap (λ (x : List ℕ). get_or x 0 0) e in
    let a₁ : n % 256 ≡ k % 256 = ap (λ (x : List ℕ). get_or x 1 0) e in
    let a₂ : r.name / 256 ≡ t.name / 256 = ap (λ (x : List ℕ). get_or x 2 0) e in
    let a₃ : r.name % 256 ≡ t.name % 256 = ap (λ (x : List ℕ). get_or x 3 0) e in
    let a₄ : r.type / 256 ≡ t.type / 256 = ap (λ (x : List ℕ). get_or x 4 0) e in
    let a₅ : r.type % 256 ≡ t.type % 256 = ap (λ (x : List ℕ). get_or x 5 0) e in
    let long : k ≡ n = omega arith in
    let name : r.name ≡ t.name = omega arith in
    let type : r.type ≡ t.type = omega arith in
    let rest : r.payload ++ stream_of rs ≡ t.payload ++ stream_of ts = ap (drop 6) e in
    let payload : r.payload ≡ t.payload = sym (take_at r.payload (stream_of rs) n refl) ∙ ap (take n) rest ∙ take_at t.payload (stream_of ts) n long in
    let more : stream_of rs ≡ stream_of ts = sym (drop_at r.payload (stream_of rs) n refl) ∙ ap (drop n) rest ∙ drop_at t.payload (stream_of ts) n long in
    ap (λ (x : ℕ). entry x r.type r.payload ∷ rs) name
    ∙ ap (λ (x : ℕ). entry t.name x r.payload ∷ rs) type
    ∙ ap (λ (x : List ℕ). entry t.name t.type x ∷ rs) payload
    ∙ ap (λ (x : List Entry). t ∷ x) (one_list rs ts more)
