-- Stretches one after another: what ends one, one block more, and what all of them come to.
use Rattle.std.proofs.Common.{◌≡◌, ℕ, zero, suc, ◌+◌, ◌-◌, ◌*◌, ◌<◌, ◌≤◌, List, [], ◌∷◌, ◌++◌, length, sym, refl, ap, ◌∙◌, ⊎_elim, append_assoc, append-nil, arith, length-append, get_or-append-add, le-ltb, lt-ltb}
use lib.ListN.{get_or-append}
use Rattle.std.specs.Prelude.{Option, None, Result, Ok, Err}
use Rattle.numbers.specs.Refused.{number_of}
use Rattle.numbers.specs.declared.refusal.Refusal.{Refusal}
use Rattle.shelf.specs.declared.answers.Trail.{Trail}
use Rattle.shelf.specs.declared.answers.Kept.{Kept}
use Rattle.shelf.specs.declared.answers.Listed.{Listed}
use Rattle.shelf.specs.declared.answers.Tally.{Tally}
use Rattle.shelf.specs.declared.answers.Stand.{Stand}
use Rattle.shelf.specs.Stream.{byte_at}
use Rattle.shelf.specs.Block.{bytes_from}
use Rattle.shelf.specs.Judge.{place_of, byte_of, blocks, number_at, end_at}
use Rattle.shelf.specs.Salvage.{Turn, Known, lost, from, Judged, Stretch, Entry, dropped_in, judge, onward, stretch, stretches_by, stretches, kept_of, count_of, good_entry, bad_entry, good_entries, entries_of}
use Rattle.shelf.specs.Rescue.{known_of, judged_of, turn_at, laid, Listing, told, listing, Gathered, held, entries_in, good_in, gather_one, gathered, nothing, to_come, left_over, Keeps, Within, Stands}
use Rattle.shelf.proofs.Sides.{less}
use Rattle.shelf.proofs.Bytes.{bytes-long, byte-of}
use Rattle.shelf.proofs.Takes.{lost-ready, is-good, good-ready, good-most}
use Rattle.shelf.proofs.Lays.{laid-long, laid-before, laid-there}
use Rattle.shelf.proofs.Lists.{listing-append}

-- A STRETCH ENDS
stretch-is : (f : List ℕ) (first last reason : ℕ) (k : Known)
    → stretch f first last k reason
    ≡ record { first = first; last = last; start = (stretch f first last k 0).start; stop = (stretch f first last k 0).stop; count = (stretch f first last k 0).count; reason = reason }
unfolding stretch
stretch-is f first last reason lost = refl
stretch-is f first last reason (from s p c) = refl

good-same : (k : ℕ) (f : List ℕ) (s s' : Stretch) (i : ℕ) → s.start ≡ s'.start → s.stop ≡ s'.stop → good_entries k f s i ≡ good_entries k f s' i
unfolding good_entries
good-same zero f s s' i e g = refl
good-same (suc k) f s s' i e g =
    ap (λ (x : ℕ). good_entry i (dropped_in (498 * i) (end_at f i) x s.stop) ++ good_entries k f s (i + 1)) e
    ∙ ap (λ (x : ℕ). good_entry i (dropped_in (498 * i) (end_at f i) s'.start x) ++ good_entries k f s (i + 1)) g
    ∙ ap (λ (x : List Entry). good_entry i (dropped_in (498 * i) (end_at f i) s'.start s'.stop) ++ x) (good-same k f s s' (i + 1) e g)

abbrev put-together : (records stream : ℕ) → List ℕ → Listing → Gathered
put-together records stream fresh l = record { records = records; stream = stream; fresh = fresh; listing = l }

module _ (f : List ℕ) (first last reason : ℕ) (known : Known) (t : Tally) (fresh list : List ℕ) {kept : Kept} (k : Keeps f first last known kept) where
  pub ended : {good all : Listed} {fresh' list₁ list₂ list' : List ℕ} → list' ≡ list₂ → fresh' ≡ laid fresh t.stream (byte_of f) kept.start (kept.stop - kept.start)
      → told good list₁ ≡ listing (told t.listed list) (good_in f first last kept.start kept.stop) → told all list₂ ≡ listing (told good list₁) (bad_entry last reason)
      → held (record { records = t.records + kept.count; stream = t.stream + (kept.stop - kept.start); listed = all }) fresh' list'
      ≡ gather_one f (held t fresh list) (stretch f first last known reason)
  unfolding gather_one entries_in good_in
  ended {good} {all} {fresh'} {list₁} {list₂} {list'} same e g h =
      let S = stretch f first last known 0 in
      let T : Stretch = record { first = first; last = last; start = S.start; stop = S.stop; count = S.count; reason = reason } in
      let X = told t.listed list in
      let B = bad_entry last reason in
      let E = good_entries (last - first) f T first in
      ap (λ (x : List ℕ). put-together (t.records + kept.count) (t.stream + (kept.stop - kept.start)) fresh' (told all x)) same
      ∙ ap (λ (x : List ℕ). put-together (t.records + kept.count) (t.stream + (kept.stop - kept.start)) x (told all list₂)) e
      ∙ ap (put-together (t.records + kept.count) (t.stream + (kept.stop - kept.start)) (laid fresh t.stream (byte_of f) kept.start (kept.stop - kept.start)))
      (h ∙ ap (λ (x : Listing). listing x B) g)
      ∙ ap
      (λ (z : Kept).
      put-together (t.records + z.count) (t.stream + (z.stop - z.start)) (laid fresh t.stream (byte_of f) z.start (z.stop - z.start))
      (listing (listing X (good_in f first last z.start z.stop)) B))
      k.kept
      ∙ ap
      (λ (x : List Entry).
      put-together (t.records + S.count) (t.stream + (S.stop - S.start)) (laid fresh t.stream (byte_of f) S.start (S.stop - S.start)) (listing (listing X x) B))
      (good-same (last - first) f (record { first = 0; last = 0; start = S.start; stop = S.stop; count = 0; reason = 0 }) T first refl refl)
      ∙ ap (put-together (t.records + S.count) (t.stream + (S.stop - S.start)) (laid fresh t.stream (byte_of f) S.start (S.stop - S.start)))
      (sym (listing-append X E B))
      ∙ sym (ap (gather_one f (held t fresh list)) (stretch-is f first last reason known))

-- ONE BLOCK MORE
module _ (f : List ℕ) (first i : ℕ) (known : Known) (h : i < blocks f) (j : Result (Option Trail) Refusal) (e : judged_of j ≡ judge f i (turn_at f first i) known) where
  opened : to_come f i first known ≡ onward f first i known (judged_of j) (stretches_by (blocks f - (i + 1)) f (i + 1))
  unfolding to_come stretches_by
  opened =
      let left : blocks f - i ≡ suc (blocks f - (i + 1)) = omega arith in
      rw left (ap (λ (x : Judged). onward f first i known x (stretches_by (blocks f - (i + 1)) f (i + 1))) (sym e))

  come-bad : (r : Refusal) → j ≡ Err r → to_come f i first known ≡ stretch f first i known (number_of r) ∷ to_come f (i + 1) (i + 1) lost
  unfolding to_come onward turn_at
  come-bad r g =
      let t : turn_at f (i + 1) (i + 1) ≡ Turn.any = rw (le-ltb (i + 1) (i + 1) (omega arith)) in
      opened ∙ ap (λ (x : Result (Option Trail) Refusal). onward f first i known (judged_of x) (stretches_by (blocks f - (i + 1)) f (i + 1))) g
      ∙ ap (λ (x : Turn). stretch f first i known (number_of r) ∷ stretches_by (blocks f - (i + 1)) f (i + 1) (i + 1) x lost) (sym t)

  come-good : (now : Option Trail) → first ≤ i → j ≡ Ok now → to_come f i first known ≡ to_come f (i + 1) first (known_of now)
  unfolding to_come onward turn_at
  come-good now l g =
      let back : i + 1 - 1 ≡ i = omega arith in
      let t : turn_at f first (i + 1) ≡ Turn.only (number_at f i + 1) = rw (lt-ltb first (i + 1) (omega arith), back) in
      opened ∙ ap (λ (x : Result (Option Trail) Refusal). onward f first i known (judged_of x) (stretches_by (blocks f - (i + 1)) f (i + 1))) g
      ∙ ap (λ (x : Turn). stretches_by (blocks f - (i + 1)) f (i + 1) first x (known_of now)) (sym t)

  pub passed-bad : {r : Refusal} (t after : Tally) (fresh list fresh' list' : List ℕ) → j ≡ Err r → held after fresh' list' ≡ gather_one f (held t fresh list) (stretch f first i known (number_of r))
      → gathered f (held after fresh' list') (to_come f (i + 1) (i + 1) lost) ≡ gathered f (held t fresh list) (to_come f i first known)
  unfolding gathered
  passed-bad {r} t after fresh list fresh' list' g k =
      ap (λ (x : Gathered). gathered f x (to_come f (i + 1) (i + 1) lost)) k ∙ sym (ap (gathered f (held t fresh list)) (come-bad r g))

  pub passed-good : {now : Option Trail} (t : Tally) (fresh list : List ℕ) → first ≤ i → j ≡ Ok now
      → gathered f (held t fresh list) (to_come f (i + 1) first (known_of now)) ≡ gathered f (held t fresh list) (to_come f i first known)
  passed-good {now} t fresh list l g = ap (gathered f (held t fresh list)) (sym (come-good now l g))

pub stands-first : (f : List ℕ) (i : ℕ) {t : Tally} → Within i t → Stands f i (record { first = i; known = None; tally = t })
stands-first f i w =
    record { begun = omega arith; goods = record { most = λ j a b. absurd (omega arith) }; ready = lost-ready f i i; tally = w }

pub stands_good : (f : List ℕ) (i : ℕ) (s : Stand) {j : Result (Option Trail) Refusal} {now : Option Trail} → i < blocks f → Stands f i s → judged_of j ≡ judge f i (turn_at f s.first i) (known_of s.known) → j ≡ Ok now
    → Stands f (i + 1) (record { first = s.first; known = now; tally = s.tally })
stands_good f i s {j} {now} h w e g =
    let good = is-good f s.first i (known_of s.known) (known_of now) (sym (ap judged_of g) ∙ e) in
    record {
      begun = omega (arith, w.begun);
      goods =
          record {
            most =
                λ k a b. ⊎_elim (λ (l : k < i). w.goods.most k a l) (λ (l : i ≤ k). let z : i ≡ k = omega arith in rw z at (good-most f i good)) (less k i);
          };
      ready = good-ready f s.first i (known_of s.known) (known_of now) h w.begun w.ready good;
      tally = w.tally;
    }

-- from the first block to the last
pub stands-start : (f : List ℕ) → Stands f 0 (record { first = 0; known = None; tally = nothing })
stands-start f = stands-first f 0 (record { records = omega arith; stream = omega arith; listed = record { entries = omega arith; dropped = omega arith } })

pub come-start : (f : List ℕ) (g : Gathered) → gathered f g (stretches f) ≡ gathered f g (to_come f 0 0 lost)
unfolding stretches to_come turn_at
come-start f g = let e : blocks f - 0 ≡ blocks f = omega arith in rw e

pub come-end : (f : List ℕ) (i : ℕ) (s : Stand) (A g : Gathered) {x : ℕ} {G : Gathered} → A ≡ gathered f g (to_come f i s.first (known_of s.known)) → i ≤ blocks f → blocks f ≤ i → x ≡ left_over f
    → G ≡ gather_one f g (stretch f s.first (blocks f) (known_of s.known) x) → G ≡ A
unfolding gathered to_come stretches_by left_over
come-end f i s A g {x} {G} e h l m k =
    let z : blocks f - i ≡ 0 = omega arith in
    let q : blocks f ≡ i = omega arith in
    k ∙ ap (λ (y : ℕ). gather_one f g (stretch f s.first y (known_of s.known) x)) q
    ∙ ap (λ (y : ℕ). gather_one f g (stretch f s.first i (known_of s.known) y)) m ∙ sym (e ∙ rw z)

pub come-on : {A X Y : Gathered} → A ≡ X → Y ≡ X → A ≡ Y
come-on e g = e ∙ sym g

pub stands-end : (f : List ℕ) (i m : ℕ) (s : Stand) → Stands f i s → i ≤ m → m ≤ i → Stands f m s
stands-end f i m s w h l = let z : i ≡ m = omega arith in rw z at w

-- ALL OF THEM
pub all-records : (f : List ℕ) (g : Gathered) (ss : List Stretch) → (gathered f g ss).records ≡ g.records + count_of ss
unfolding gathered count_of gather_one
all-records f g [] = omega arith
all-records f g (s ∷ ss) = let h = all-records f (gather_one f g s) ss in omega arith

pub all-stream : (f : List ℕ) (g : Gathered) (ss : List Stretch) → (gathered f g ss).stream ≡ g.stream + length (kept_of f ss)
unfolding gathered kept_of gather_one
all-stream f g [] = omega arith
all-stream f g (s ∷ ss) =
    let B = bytes_from (byte_of f) s.start (s.stop - s.start) in
    let h = all-stream f (gather_one f g s) ss in
    omega (arith, length-append B (kept_of f ss), bytes-long (byte_of f) s.start (s.stop - s.start))

pub all_listed : (f : List ℕ) (g : Gathered) (ss : List Stretch) → (gathered f g ss).listing ≡ listing g.listing (entries_of f ss)
unfolding gathered entries_of gather_one entries_in listing
all_listed f g [] = refl
all_listed f g (s ∷ ss) = all_listed f (gather_one f g s) ss ∙ sym (listing-append g.listing (entries_in f s) (entries_of f ss))

pub all-long : (f : List ℕ) (g : Gathered) (ss : List Stretch) → length (gathered f g ss).fresh ≡ length g.fresh
unfolding gathered gather_one
all-long f g [] = refl
all-long f g (s ∷ ss) = all-long f (gather_one f g s) ss ∙ laid-long g.fresh g.stream (byte_of f) s.start (s.stop - s.start)

-- the stream of the new file: what was laid before, and then what is kept
module _ (f : List ℕ) (g : Gathered) (s : Stretch) (P : List ℕ) (e : g.stream ≡ length P) where
  abbrev B : List ℕ
  B = bytes_from (byte_of f) s.start (s.stop - s.start)

  long : length (P ++ B) ≡ length P + (s.stop - s.start)
  long = length-append P B ∙ omega (arith, bytes-long (byte_of f) s.start (s.stop - s.start))

  stream-is : (gather_one f g s).stream ≡ length (P ++ B)
  unfolding gather_one
  stream-is = omega (arith, long)

  fresh-long : length (gather_one f g s).fresh ≡ length g.fresh
  unfolding gather_one
  fresh-long = laid-long g.fresh g.stream (byte_of f) s.start (s.stop - s.start)

  bytes-are : ((j : ℕ) → j < length P → byte_of g.fresh j ≡ byte_at P j) → ((j : ℕ) → j < length (P ++ B) → place_of j < length g.fresh) → (i : ℕ) → i < length (P ++ B)
      → byte_of (gather_one f g s).fresh i ≡ byte_at (P ++ B) i
  unfolding gather_one
  bytes-are h r i m =
      ⊎_elim
      (λ (a : i < length P).
      laid-before g.fresh g.stream (byte_of f) s.start (s.stop - s.start) i (omega arith) ∙ h i a ∙ sym (get_or-append P B 0 i a))
      (λ (a : length P ≤ i).
      let o = i - length P in
      let q : i ≡ g.stream + o = omega arith in
      let q' : i ≡ length P + o = omega arith in
      let u : o < s.stop - s.start = omega (arith, long) in
      let y : place_of i < length g.fresh = r i m in
      ap (byte_of (laid g.fresh g.stream (byte_of f) s.start (s.stop - s.start))) q
      ∙ laid-there g.fresh g.stream (byte_of f) s.start (s.stop - s.start) o u (rw q at y)
      ∙ sym (ap (byte_at (P ++ B)) q' ∙ get_or-append-add P B o 0 ∙ byte-of (byte_of f) s.start (s.stop - s.start) o u))
      (less i (length P))

pub all_laid : (f : List ℕ) (g : Gathered) (ss : List Stretch) (P : List ℕ) → g.stream ≡ length P → ((j : ℕ) → j < length P → byte_of g.fresh j ≡ byte_at P j)
    → ((j : ℕ) → j < length (P ++ kept_of f ss) → place_of j < length g.fresh) → (j : ℕ) → j < length (P ++ kept_of f ss) → byte_of (gathered f g ss).fresh j ≡ byte_at (P ++ kept_of f ss) j
unfolding gathered kept_of
all_laid f g [] P e h r j l = let z = append-nil P in rw z (h j (rw z at l))
all_laid f g (s ∷ ss) P e h r j l =
    let C = B f g s P e in
    let K = kept_of f ss in
    let z : P ++ C ++ K ≡ P ++ (C ++ K) = append_assoc P C K in
    let r₁ : (i : ℕ) → i < length (P ++ C) → place_of i < length g.fresh = λ i m.
    let y : i < length (P ++ C ++ K) = rw (length-append (P ++ C) K) (omega arith) in
    r i (rw z at y) in
    let r₂ : (i : ℕ) → i < length (P ++ C ++ K) → place_of i < length (gather_one f g s).fresh = λ i m. rw (fresh-long f g s P e) (r i (rw z at m)) in
    rw z at (all_laid f (gather_one f g s) ss (P ++ C) (stream-is f g s P e) (bytes-are f g s P e h r₁) r₂ j (rw (sym z) at l))
