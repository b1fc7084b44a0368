-- What is kept, read from its beginning: the whole records of each stretch, one after another; and so the new file reads back.
use Rattle.std.proofs.Common.{◌≡◌, ℕ, zero, suc, ◌+◌, ◌-◌, ◌*◌, ◌/◌, ◌<◌, ◌≤◌, Bool, true, false, cond, ltb, List, [], ◌∷◌, ◌++◌, length, get_or, sym, refl, ap, ◌∙◌, ⊎_elim, append_assoc, append-nil, arith, length-append, get_or-append-add, eq-eqb, ne_eqb}
use lib.ListN.{get_or-append}
use Rattle.shelf.specs.Answers.{To, Sound}
use Rattle.shelf.specs.Stream.{byte_at, walk, judged, fault}
use Rattle.shelf.specs.Block.{bytes_from, blocks_for}
use Rattle.shelf.specs.Judge.{place_of, byte_of, used_at, first_at, end_at}
use Rattle.shelf.specs.Shelf.{gives, shelf_read}
use Rattle.shelf.specs.Salvage.{Stretch, Salvaged, no_room, salvaged, ending, stretches, kept_of, count_of, entries_of, salvage}
use Rattle.shelf.specs.Saved.{Each, ReadsBack, records_in, joined, data_by, data_of, whole_by, whole_of, whole_records, AllWhole}
use Rattle.shelf.proofs.Sides.{less}
use Rattle.shelf.proofs.Walks.{walk-stop}
use Rattle.shelf.proofs.Bytes.{bytes-long, byte-of}
use Rattle.shelf.proofs.Cutting.{cut-long}
use Rattle.shelf.proofs.Theorems.{sound-read}
use Rattle.shelf.proofs.Keeping.{Keeps, over-them, keeps-bytes, moved-records, records-stop}
use Rattle.shelf.proofs.Laid.{Run, TakesUp, Laid, run-full, run-used, ending-most, ending-least, ending-some, all_laid}

-- D of a stretch: how many bytes, and which
module _ (f : List ℕ) (first last : ℕ) (run : Run f first last) where
  data-long : (k i : ℕ) → first ≤ i → i + k ≡ last → length (data_by k f i) ≡ ending f first last - 498 * i
  unfolding data_by
  data-long zero i h e = omega (arith, ending-most run)
  data-long (suc k) i h e =
      let A = bytes_from (byte_at f) (512 * i + 8) (used_at f i) in
      let r = data-long k (i + 1) (omega arith) (omega arith) in
      let n = length-append A (data_by k f (i + 1)) in
      let a = bytes-long (byte_at f) (512 * i + 8) (used_at f i) in
      let x = ending-some f first last (omega arith) in
      ⊎_elim (λ (l : i + 1 < last). omega (arith, run-full run i h l))
      (λ (l : last ≤ i + 1).
      let z : last - 1 ≡ i = omega arith in
      let y : ending f first last ≡ end_at f i = rw z at x in
      let u = (run-used run i h (omega arith)).most in
      omega arith)
      (less (i + 1) last)

  data-byte : (k i : ℕ) → first ≤ i → i + k ≡ last → (j : ℕ) → j < length (data_by k f i) → byte_at (data_by k f i) j ≡ byte_of f (498 * i + j)
  unfolding data_by
  data-byte zero i h e j g = absurd (omega arith)
  data-byte (suc k) i h e j g =
      let A = bytes_from (byte_at f) (512 * i + 8) (used_at f i) in
      let R = data_by k f (i + 1) in
      let a = bytes-long (byte_at f) (512 * i + 8) (used_at f i) in
      let u = (run-used run i h (omega arith)).most in
      let n = length-append A R in
      ⊎_elim
      (λ (l : j < used_at f i).
      let p : 512 * i + 8 + j ≡ place_of (498 * i + j) = omega arith in
      get_or-append A R 0 j (omega arith) ∙ byte-of (byte_at f) (512 * i + 8) (used_at f i) j l ∙ ap (byte_at f) p)
      (λ (l : used_at f i ≤ j).
      let r = data-long k (i + 1) (omega arith) (omega arith) in
      ⊎_elim
      (λ (m : i + 1 < last).
      let v = run-full run i h m in
      let p : j ≡ length A + (j - 498) = omega arith in
      let q : 498 * (i + 1) + (j - 498) ≡ 498 * i + j = omega arith in
      ap (byte_at (A ++ R)) p ∙ get_or-append-add A R (j - 498) 0 ∙ data-byte k (i + 1) (omega arith) (omega arith) (j - 498) (omega arith) ∙ ap (byte_of f) q)
      (λ (m : last ≤ i + 1). absurd (omega (arith, ending-most run)))
      (less (i + 1) last))
      (less j (used_at f i))

  -- the first start that is named
  whole-none : (k i : ℕ) (d : List ℕ) (at : ℕ) → first ≤ i → i + k ≡ last → ((j : ℕ) → first ≤ j → j < last → first_at f j ≡ 65535) → whole_by k f i d at ≡ []
  unfolding whole_by
  whole-none zero i d at h e u = refl
  whole-none (suc k) i d at h e u =
      simp (eq-eqb (first_at f i) 65535 (u i h (omega arith))) (whole-none k (i + 1) d (at + used_at f i) (omega arith) (omega arith) u)

  whole-named : (k i : ℕ) (d : List ℕ) (at x : ℕ) → first ≤ i → i + k ≡ last → at + 498 * first ≡ 498 * i → i ≤ x → x < last → ((j : ℕ) → first ≤ j → j < x → first_at f j ≡ 65535) → (first_at f x ≡ 65535 → ⊥)
      → whole_by k f i d at ≡ records_in d (498 * x + first_at f x - 498 * first)
  unfolding whole_by
  whole-named zero i d at x h e a b g u n = absurd (omega arith)
  whole-named (suc k) i d at x h e a b g u n =
      ⊎_elim
      (λ (l : i < x).
      let v = run-full run i h (omega arith) in
      simp (eq-eqb (first_at f i) 65535 (u i h l)) (whole-named k (i + 1) d (at + used_at f i) x (omega arith) (omega arith) (omega arith) (omega arith) g u n))
      (λ (l : x ≤ i).
      let z : x ≡ i = omega arith in
      let n' : first_at f i ≡ 65535 → ⊥ = λ y. n (ap (first_at f) z ∙ y) in
      let p : at + first_at f i ≡ 498 * i + first_at f i - 498 * first = omega arith in
      simp (ne_eqb (first_at f i) 65535 n') (ap (records_in d) p ∙ ap (λ (y : ℕ). records_in d (498 * y + first_at f y - 498 * first)) (sym z)))
      (less i x)

-- a stretch that takes up nowhere keeps nothing
nothing : {b : ℕ → ℕ} {end p q : ℕ} {rs : List (List ℕ)} → Keeps b end p q rs → p ≡ end → rs ≡ []
nothing (Keeps.stops h) e = refl
nothing (Keeps.goes h n l r) e = absurd (omega arith)

whole_is : (f : List ℕ) (s : Stretch) (l : Laid f s) → whole_of f s ≡ l.records
whole_is f s l = by l.takes
  where
    k : ℕ
    k = s.last - s.first

    by : TakesUp f s.first s.last s.start → whole_of f s ≡ l.records
    by (TakesUp.nowhere u e) =
        let o = l.run.ordered in
        whole-none f s.first s.last l.run (s.last - s.first) s.first (data_of f s) 0 (omega arith) (omega arith) u ∙ sym (nothing l.keeps e)
    by (TakesUp.named at a b u n e) =
        let o = l.run.ordered in
        let long = data-long f s.first s.last l.run (s.last - s.first) s.first (omega arith) (omega arith) in
        let least = ending-least l.run in
        whole-named f s.first s.last l.run (s.last - s.first) s.first (data_of f s) 0 at (omega arith) (omega arith) (omega arith) a b u n
        ∙ ap (λ (x : ℕ). records_in (data_of f s) (x - 498 * s.first)) (sym e)
        ∙ moved-records l.keeps (data_of f s) (498 * s.first) l.low (omega arith)
        (λ j h. data-byte f s.first s.last l.run (s.last - s.first) s.first (omega arith) (omega arith) j h)

-- the kept stream from a place on
record Read-through (f S : List ℕ) (at : ℕ) (ss : List Stretch) : Type 0 where
  pub records : records_in S at ≡ whole_records f ss
  pub walks : (c : ℕ) → walk (byte_at S) (length S) at c ≡ To (length S) (c + count_of ss)
  pub count : count_of ss ≡ length (whole_records f ss)
  pub bytes : kept_of f ss ≡ joined (whole_records f ss)

joined-append : (a b : List (List ℕ)) → joined (a ++ b) ≡ joined a ++ joined b
unfolding joined
joined-append [] b = refl
joined-append (r ∷ a) b = ap (λ (x : List ℕ). r ++ x) (joined-append a b) ∙ sym (append_assoc r (joined a) (joined b))

read_through : (f S before : List ℕ) {ss : List Stretch} → Each Stretch (Laid f) ss → S ≡ before ++ kept_of f ss → Read-through f S (length before) ss
unfolding kept_of count_of whole_records joined
read_through f S before Each.none e =
    let l : length S ≡ length before = ap length (e ∙ append-nil before) in
    record {
      records = records-stop (byte_at S) (length S) (length before) (omega arith);
      walks = λ c.
          let z : c + 0 ≡ c = omega arith in
          walk-stop (byte_at S) (length S) (length before) c (omega arith) ∙ rw (l, z);
      count = refl;
      bytes = refl;
    }
read_through f S before (Each.one {x = s} {xs = ss} l ls) e =
    let n = s.stop - s.start in
    let A = bytes_from (byte_of f) s.start n in
    let K = kept_of f ss in
    let a : length A ≡ n = bytes-long (byte_of f) s.start n in
    let all : length S ≡ length before + (length A + length K) = ap length e ∙ length-append before (A ++ K) ∙ ap (λ (x : ℕ). length before + x) (length-append A K) in
    let far : length (before ++ A) ≡ length before + n = length-append before A ∙ ap (λ (x : ℕ). length before + x) a in
    let r = read_through f S (before ++ A) ls (e ∙ sym (append_assoc before A K)) in
    let v = over-them l.keeps S (length before) (omega arith)
    (λ j h. ap (λ (x : List ℕ). get_or x (length before + j) 0) e ∙ get_or-append-add before (A ++ K) j 0 ∙ get_or-append A K 0 j (omega arith) ∙ byte-of (byte_of f) s.start n j h) in
    let w = whole_is f s l in
    record {
      records = v.records ∙ ap (λ (x : ℕ). l.records ++ records_in S x) (sym far) ∙ ap (λ (x : List (List ℕ)). l.records ++ x) r.records ∙ ap (λ (x : List (List ℕ)). x ++ whole_records f ss) (sym w);
      walks = λ c.
          let z : c + length l.records + count_of ss ≡ c + (s.count + count_of ss) = omega (arith, l.count) in
          v.walks c ∙ ap (λ (x : ℕ). walk (byte_at S) (length S) x (c + length l.records)) (sym far) ∙ r.walks (c + length l.records) ∙ ap (To (length S)) z;
      count = omega (arith, l.count, r.count, ap length w, length-append (whole_of f s) (whole_records f ss));
      bytes =
          ap (λ (x : List ℕ). x ++ K) (keeps-bytes l.keeps ∙ ap joined (sym w)) ∙ ap (λ (x : List ℕ). joined (whole_of f s) ++ x) r.bytes
          ∙ sym (joined-append (whole_of f s) (whole_records f ss));
    }

through : (f : List ℕ) → Read-through f (kept_of f (stretches f)) 0 (stretches f)
through f = read_through f (kept_of f (stretches f)) [] (all_laid f) refl

-- (b)
pub all_whole : AllWhole
all_whole f = ((through f).bytes, (through f).records, (through f).count)

-- (f)
pub kept-sound : (f : List ℕ) → fault (byte_at (kept_of f (stretches f))) (length (kept_of f (stretches f))) ≡ Sound (count_of (stretches f))
unfolding fault judged
kept-sound f =
    let S = kept_of f (stretches f) in
    let z : 0 + count_of (stretches f) ≡ count_of (stretches f) = omega arith in
    ap (judged (length S)) ((through f).walks 0 ∙ ap (To (length S)) z) ∙ simp (eq-eqb (length S) (length S) refl)

module _ (f : List ℕ) (back : ℕ) (h : length (kept_of f (stretches f)) ≤ back) where
  abbrev K : List ℕ
  K = kept_of f (stretches f)

  abbrev made : Salvaged
  made = salvaged (count_of (stretches f)) (length K) K (entries_of f (stretches f))

  reads-if : (a b c : Bool) → (cond a no_room (cond b no_room (cond c no_room made))).answer.number ≡ 0
      → shelf_read (cond a no_room (cond b no_room (cond c no_room made))).file back
      ≡ gives (cond a no_room (cond b no_room (cond c no_room made))).answer.records (cond a no_room (cond b no_room (cond c no_room made))).answer.stream (cond a no_room (cond b no_room (cond c no_room made))).answer.file K
  reads-if true b c e = absurd (omega arith)
  reads-if false true c e = absurd (omega arith)
  reads-if false false true e = absurd (omega arith)
  reads-if false false false e =
      sound-read K back (count_of (stretches f)) (kept-sound f) h
      ∙ ap (λ (x : ℕ). gives (count_of (stretches f)) (length K) x K) (cut-long (byte_at K) (length K) (blocks_for (length K)))

pub reads-back : ReadsBack
unfolding salvage
reads-back f room list back e h =
    let S = kept_of f (stretches f) in
    reads-if f back h (ltb (room / 512) (blocks_for (length S))) (ltb 4294967296 (blocks_for (length S))) (ltb (list / 12) (length (entries_of f (stretches f)))) e
