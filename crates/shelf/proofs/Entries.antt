-- What writing and reading come to, way by way.
use Rattle.std.proofs.Common.{◌≡◌, ℕ, ◌-◌, ◌*◌, ◌/◌, ◌<◌, ◌≤◌, List, [], ◌++◌, length, take, drop, replicate, sym, refl, ap, ◌∙◌, append-nil, arith, length-append, length-drop, take_at, le-ltb, lt-ltb}
use lib.Seq.{drop-length}
use borrow.Rule.Slice.PartMut.{put_mid, mid_of, Post-is, mid_len}
use Rattle.std.specs.Prelude.{Result, Ok, Err}
use Rattle.numbers.specs.Refused.{number_of}
use Rattle.numbers.specs.declared.refusal.Fault.{Fault}
use Rattle.shelf.specs.declared.answers.Reached.{Reached}
use Rattle.shelf.specs.Answers.{Soundness, Sound, Faulty, soundness_of, scan_of, Answer, answer_of}
use Rattle.shelf.specs.Stream.{byte_at, fault}
use Rattle.shelf.specs.Block.{bytes_from, cut, blocks_for}
use Rattle.shelf.specs.Judge.{byte_of}
use Rattle.shelf.specs.Shelf.{Outcome, refuses, gives, lacking, filled, Done, write_sound, shelf_write, scan, read_scanned, shelf_read}
use Rattle.shelf.proofs.Bytes.{bytes-long}
use Rattle.shelf.proofs.Cutting.{cut-long, cut-kept}

-- a buffer whose front holds the content, and is cleared behind it
pub tail-cleared : (l l₀ b b' z : List ℕ) (k : ℕ) → length l ≡ k → k ≤ length l₀ → b ≡ l ++ drop k l₀ → b' ≡ put_mid k (length b - k) b z → z ≡ replicate (length (mid_of k (length b - k) b)) 0
    → b' ≡ filled (length l₀) l
tail-cleared l l₀ b b' z k n h e g q =
    let m : length b ≡ length l₀ = ap length e ∙ simp (length-append, length-drop) (omega arith) in
    let o : length (mid_of k (length b - k) b) ≡ length b - k = mid_len k (length b) b (omega arith) in
    let w : length b - k ≡ length l₀ - length l = omega arith in
    g
    ∙ ap (λ (x : List ℕ). take k b ++ (z ++ x)) (Post-is k (length b) b (omega arith) ∙ drop-length b)
    ∙ ap (λ (x : List ℕ). take k b ++ x) (append-nil z ∙ q ∙ ap (λ (x : ℕ). replicate x 0) (o ∙ w))
    ∙ ap (λ (x : List ℕ). take k x ++ replicate (length l₀ - length l) 0) e
    ∙ ap (λ (x : List ℕ). x ++ replicate (length l₀ - length l) 0) (take_at l (drop k l₀) k n)

-- refused
pub zero-filled : (room : ℕ) → replicate room 0 ≡ filled room []
zero-filled room = let e : room - 0 ≡ room = omega arith in rw e

all-zero : (o : Outcome) (room number place : ℕ) (r : Answer) (b : List ℕ) → refuses number place ≡ o → r ≡ (refuses number place).answer → b ≡ replicate room 0 → Done o room r b
all-zero o room number place r b e g h =
    record { answer = g ∙ ap (λ (x : Outcome). x.answer) e; content = h ∙ zero-filled room ∙ ap (λ (x : Outcome). filled room x.content) e }

given_so : (o : Outcome) (room records stream file : ℕ) (l b : List ℕ) → gives records stream file l ≡ o → b ≡ filled room l → Done o room (gives records stream file l).answer b
given_so o room records stream file l b e h =
    record { answer = ap (λ (x : Outcome). x.answer) e; content = h ∙ ap (λ (x : Outcome). filled room x.content) e }

module _ (s : List ℕ) (room : ℕ) {m : ℕ} {r : Answer} {b : List ℕ} (k : m ≡ blocks_for (length s)) (a : r ≡ lacking (fault (byte_at s) (length s))) (h : b ≡ replicate room 0) where
  lacks : ((c : ℕ) → write_sound s room (Sound c) ≡ refuses 21 0) → Done (shelf_write s room) room r b
  unfolding shelf_write write_sound lacking
  lacks small = by (fault (byte_at s) (length s)) refl
    where
      by : (v : Soundness) → fault (byte_at s) (length s) ≡ v → Done (shelf_write s room) room r b
      by (Faulty i) q = all-zero (shelf_write s room) room 33 i r b (sym (ap (write_sound s room) q)) (a ∙ ap lacking q) h
      by (Sound c) q = all-zero (shelf_write s room) room 21 0 r b (sym (ap (write_sound s room) q ∙ small c)) (a ∙ ap lacking q) h

  pub write-small : room / 512 < m → Done (shelf_write s room) room r b
  unfolding write_sound
  write-small l = lacks (λ c. simp (lt-ltb (room / 512) (blocks_for (length s)) (omega arith)))

  pub write-many : m ≤ room / 512 → 4294967296 < m → Done (shelf_write s room) room r b
  unfolding write_sound
  write-many o l = lacks (λ c. simp (le-ltb (room / 512) (blocks_for (length s)) (omega arith), lt-ltb 4294967296 (blocks_for (length s)) (omega arith)))

module _ (s : List ℕ) {w : Result ℕ ℕ} (e : soundness_of w ≡ fault (byte_at s) (length s)) where
  -- what was made is cleared
  pub write-undone : {i m : ℕ} {r : Answer} (b₀ b z : List ℕ) → w ≡ Err i → m ≤ length b₀ / 512 → b ≡ cut (byte_at s) (length s) m ++ drop (512 * m) b₀ → r ≡ (refuses 33 i).answer
      → z ≡ replicate (length b) 0 → Done (shelf_write s (length b₀)) (length b₀) r z
  unfolding shelf_write write_sound
  write-undone {i} {m} {r} b₀ b z g l k a h =
      let o : length b ≡ length b₀ = cut-kept (byte_at s) (length s) m b b₀ (omega arith) k in
      all-zero (shelf_write s (length b₀)) (length b₀) 33 i r z (sym (ap (write_sound s (length b₀)) (sym e ∙ ap soundness_of g))) a (h ∙ ap (λ (x : ℕ). replicate x 0) o)

  module _ (room : ℕ) {c m : ℕ} (g : w ≡ Ok c) (k : m ≡ blocks_for (length s)) where
    pub write_done : (b₀ b b' z : List ℕ) → length b₀ ≡ room → m ≤ room / 512 → m ≤ 4294967296 → b ≡ cut (byte_at s) (length s) m ++ drop (512 * m) b₀
        → b' ≡ put_mid (512 * m) (length b - 512 * m) b z → z ≡ replicate (length (mid_of (512 * m) (length b - 512 * m) b)) 0
        → Done (shelf_write s room) room (gives c (length s) (512 * m) []).answer b'
    unfolding shelf_write write_sound
    write_done b₀ b b' z n o l p q t =
        let C = cut (byte_at s) (length s) m in
        given_so (shelf_write s room) room c (length s) (512 * m) C b'
        (sym
        (ap (write_sound s room) (sym e ∙ ap soundness_of g)
        ∙ simp (le-ltb (room / 512) (blocks_for (length s)) (omega arith), le-ltb 4294967296 (blocks_for (length s)) (omega arith), ← k)))
        (tail-cleared C b₀ b b' z (512 * m) (cut-long (byte_at s) (length s) m) (omega arith) p q t ∙ ap (λ (x : ℕ). filled x C) n)

module _ (f : List ℕ) (room : ℕ) {w : Result Reached (Fault ℕ)} (e : scan_of w ≡ scan f) where
  pub read-refused : {x : Fault ℕ} {b : List ℕ} → w ≡ Err x → b ≡ replicate room 0 → Done (shelf_read f room) room (answer_of (Err x)) b
  unfolding shelf_read read_scanned
  read-refused {x} {b} g h = all-zero (shelf_read f room) room (number_of x.why) x.at (answer_of (Err x)) b (sym (ap (read_scanned f room) (sym e ∙ ap scan_of g))) refl h

  module _ {r : Reached} (g : w ≡ Ok r) where
    abbrev n : ℕ
    n = r.place

    pub read_small : {a : Answer} {b : List ℕ} → room < n → a ≡ (refuses 21 0).answer → b ≡ replicate room 0 → Done (shelf_read f room) room a b
    unfolding shelf_read read_scanned
    read_small {a = x} {b} l a h =
        all-zero (shelf_read f room) room 21 0 x b (sym (ap (read_scanned f room) (sym e ∙ ap scan_of g) ∙ simp (lt-ltb room n l))) a h

    pub read_done : (b₀ b b' z : List ℕ) → length b₀ ≡ room → n ≤ room → b ≡ bytes_from (byte_of f) 0 n ++ drop n b₀ → b' ≡ put_mid n (length b - n) b z
        → z ≡ replicate (length (mid_of n (length b - n) b)) 0 → Done (shelf_read f room) room (gives r.count n (length f) []).answer b'
    unfolding shelf_read read_scanned
    read_done b₀ b b' z l o p q t =
        let C = bytes_from (byte_of f) 0 n in
        given_so (shelf_read f room) room r.count n (length f) C b' (sym (ap (read_scanned f room) (sym e ∙ ap scan_of g) ∙ simp (le-ltb room n o)))
        (tail-cleared C b₀ b b' z n (bytes-long (byte_of f) 0 n) (omega arith) p q t ∙ ap (λ (x : ℕ). filled x C) l)
