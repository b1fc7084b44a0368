-- A writer's file of which some blocks are replaced by bytes whose sum is wrong: every other block is good, and what is kept are the untouched records.
use Rattle.std.proofs.Common.{◌≡◌, ℕ, zero, suc, ◌+◌, ◌-◌, ◌*◌, ◌/◌, ◌%◌, ◌<◌, ◌≤◌, min, Bool, true, false, cond, eqb, ◌⊎◌, List, [], ◌∷◌, ◌++◌, length, sym, refl, ap, ◌∙◌, inl, inr, ⊎_elim, append_assoc, append-nil, arith, length-append, le-ltb, lt-ltb, eq-eqb, ne_eqb}
use Rattle.shelf.specs.Answers.{To, On}
use Rattle.shelf.specs.Stream.{byte_at, length_at, next, walk, named, first_from}
use Rattle.shelf.specs.Block.{bytes_from, sum_to, used_in, blocks_for, file_of}
use Rattle.shelf.specs.Judge.{byte_of, blocks, number_at, first_at, sum_at, end_at, reason, walked, in_step}
use Rattle.shelf.specs.Theorems.{entry_bytes, stream_of, AllRight}
use Rattle.shelf.specs.Salvage.{Turn, Known, Judged, Stretch, wanted, stepped, taken, judge, kept_by, ending, stretch, onward, stretches_by, stretches, kept_of, count_of}
use Rattle.shelf.specs.Saved.{Record, Damaged, untouched, Untouched}
use Rattle.shelf.proofs.Sides.{less}
use Rattle.shelf.proofs.Walks.{walked-so, reached, longer-to, walk-alike-from}
use Rattle.shelf.proofs.Bytes.{bytes-alike}
use Rattle.shelf.proofs.Cutting.{used-within, cut-long}
use Rattle.shelf.proofs.Scanning.{fine}
use Rattle.shelf.proofs.Parts.{part_of}
use Rattle.shelf.proofs.Forth.{used-at, first-at, no-reason, open-before, closed-last, before_last, at_last, stream-is, within}
use Rattle.shelf.proofs.Theorems.{followed}
use Rattle.shelf.proofs.Keeping.{Keeps, stop_at, kept-is}
use Rattle.shelf.proofs.Laid.{ending-some}
use Rattle.shelf.proofs.Starting.{size, Suffix, head_of, suffix-end, Starts, first-from, starts-past, starts-suffix, starts-then, named-so, Ends, ended, ends_on, ends-within, ends-bytes, kept_then, kept-last}
use Rattle.shelf.proofs.Alike.{used-alike, first_alike, byte-alike, reason-alike, closes-alike}

module _ (rs : List Record) (g : List ℕ) (replaced : ℕ → Bool) (right : AllRight rs) (damaged : Damaged (file_of (byte_at (stream_of rs)) (length (stream_of rs))) g replaced) where
  abbrev S : List ℕ
  S = stream_of rs

  abbrev b : ℕ → ℕ
  b = byte_at S

  abbrev n : ℕ
  n = length S

  abbrev m : ℕ
  m = blocks_for n

  abbrev F : List ℕ
  F = file_of b n

  -- where block i's bytes begin, or the stream ends
  abbrev lim : ℕ → ℕ
  lim i = min (498 * i) n

  all : Suffix S 0 rs
  all = record { before = []; split = refl; long = refl; right = right }

  long-F : length F ≡ 512 * m
  long-F = cut-long b n m

  blocks-F : blocks F ≡ m
  blocks-F = omega (arith, long-F)

  blocks-g : blocks g ≡ m
  blocks-g = omega (arith, long-F, damaged.size)

  lim-next : (i : ℕ) → i < m → 498 * i + used_in n i ≡ lim (i + 1)
  lim-next i h =
      ⊎_elim (λ (l : i + 1 < m). omega (arith, before_last b n i l)) (λ (l : m ≤ i + 1). omega (arith, at_last b n i (omega arith))) (less (i + 1) m)

  -- a block that is not replaced
  module _ (i : ℕ) (h : i < m) (k : replaced i ≡ false) where
    part_same : part_of g i ≡ part_of F i
    part_same = damaged.same i (omega (arith, blocks-F)) k

    below : 498 * i ≤ n
    below = omega arith

    named-at : {q : ℕ} {rest : List Record} → Starts (498 * i) 0 rs q rest → first_at g i ≡ named (498 * i) (498 * i + used_in n i) q
    named-at s =
        let w = named-so S 0 s all in
        first_alike F g i part_same damaged.size ∙ first-at b n i w.place w.count h w.walks ∙ w.names (498 * i + used_in n i)

    no-reason-at : reason g i i ≡ 0
    no-reason-at =
        let s = first-from S (498 * i) 0 rs all below in
        let w = named-so S 0 s.starts all in
        reason-alike F g i part_same damaged.size i ∙ no-reason b n i w.place w.count h w.walks

    number-at : number_at g i ≡ i
    number-at = (fine g i i no-reason-at).number

    end-at : end_at g i ≡ 498 * i + used_in n i
    end-at = ap (λ (x : ℕ). 498 * i + x) (used-alike F g i part_same damaged.size ∙ used-at b n i h)

  agree : (k : ℕ) → k < n → replaced (k / 498) ≡ false → byte_of g k ≡ b k
  agree k h e =
      let l : k / 498 < m = omega arith in
      byte-alike F g (k / 498) (part_same (k / 498) l e) damaged.size k refl ∙ stream-is b n k h

  -- THE NEXT BLOCK of a run of them
  record Onward (i q : ℕ) : Type 0 where
    pub place : ℕ
    pub count : ℕ
    pub walks : walk b (498 * i + used_in n i) q 0 ≡ To place count
    pub closing : i + 1 ≡ m → place ≡ n

  onto : (i : ℕ) → i < m → (q : ℕ) (rest : List Record) → Suffix S q rest → Onward i q
  onto i h q rest x =
      ⊎_elim
      (λ (l : i + 1 < m).
      let f = first-from S (498 * i + used_in n i) q rest x (within b n i h) in
      let w = named-so S 0 f.starts x in
      record { place = w.place; count = w.count; walks = w.walks; closing = λ e. absurd (omega arith) })
      (λ (l : m ≤ i + 1).
      let e : 498 * i + used_in n i ≡ n = at_last b n i (omega arith) in
      record {
        place = n;
        count = 0 + length rest;
        walks =
            ap (λ (y : ℕ). walk b y q 0) e ∙ ap (λ (y : ℕ). walk b n y 0) x.long ∙ followed S x.before rest 0 x.right x.split;
        closing = λ y. refl;
      })
      (less (i + 1) m)

  module _ (first i : ℕ) (o : first ≤ i) (h : i < m) (u : (j : ℕ) → first ≤ j → j < i + 1 → replaced j ≡ false) where
    abbrev lo : ℕ
    lo = 498 * i

    abbrev hi : ℕ
    hi = 498 * i + used_in n i

    here : replaced i ≡ false
    here = u i o (omega arith)

    agree-in : (k : ℕ) → 498 * first ≤ k → k < hi → b k ≡ byte_of g k
    agree-in k a l =
        let x = within b n i h in
        let y = used-within n i in
        sym (agree k (omega arith) (u (k / 498) (omega arith) (omega arith)))

    walk_at : (x c p d : ℕ) → 498 * first ≤ x → walk b hi x c ≡ To p d → (i + 1 ≡ m → p ≡ n) → walked g i (walk (byte_of g) (end_at g i) x c) ≡ On p d
    unfolding walked
    walk_at x c p d a w e =
        let v : walk (byte_of g) (end_at g i) x c ≡ To p d =
        ap (λ (y : ℕ). walk (byte_of g) y x c) (end-at i h here) ∙ walk-alike-from b (byte_of g) hi x c (498 * first) a agree-in ∙ w in
        let c' = closes-alike F g i (part_same i h here) damaged.size in
        ap (walked g i) v
        ∙ ⊎_elim (λ (l : i + 1 < m). simp (c' ∙ open-before b n i l))
        (λ (l : m ≤ i + 1).
        let z : p ≡ end_at g i = e (omega arith) ∙ sym (end-at i h here ∙ at_last b n i (omega arith)) in
        simp (c' ∙ closed-last b n i (omega arith), eq-eqb p (end_at g i) z))
        (less (i + 1) m)

    first-alike-at : (p : ℕ) → 498 * first ≤ p → lo ≤ p + 1 → first_from (byte_of g) lo hi p ≡ first_from b lo hi p
    unfolding first_from
    first-alike-at p a l =
        ⊎_elim
        (λ (y : p < lo).
        let s : 0 < used_in n i = omega (arith, lim-next i h) in
        rw (lt-ltb p lo y) (ap (λ (x : ℕ). named lo hi (p + 6 + x)) (rw (agree-in p a (omega arith), agree-in (p + 1) (omega arith) (omega arith)))))
        (λ (y : lo ≤ p). rw (le-ltb p lo y)) (less p lo)

    module _ (q : ℕ) (rest : List Record) (s : Starts (498 * first) 0 rs q rest) where
      after : Suffix S q rest
      after = starts-suffix s all

      past : 498 * first ≤ q
      past = starts-past s

      -- in step
      in-step-at : (p c : ℕ) → walk b lo q 0 ≡ To p c → in_step g i p c ≡ On (onto i h q rest after).place (onto i h q rest after).count
      unfolding in_step
      in-step-at p c w =
          let t = first-from S lo q rest after (below i h here) in
          let v = named-so S 0 t.starts after in
          let e : To p c ≡ To v.place v.count = sym w ∙ v.walks in
          let y : p ≡ v.place = cc in
          let r = reached (walked-so w) in
          let low : 498 * first ≤ p = omega (arith, past, r.on) in
          let f : first_at g i ≡ first_from (byte_of g) lo (end_at g i) p =
          named-at i h here (starts-then lo (omega arith) s t.starts)
          ∙ sym (v.names hi) ∙ ap (first_from b lo hi) (sym y) ∙ sym (first-alike-at p low r.past)
          ∙ ap (λ (x : ℕ). first_from (byte_of g) lo x p) (sym (end-at i h here)) in
          let N = onto i h q rest after in
          simp (eq-eqb (first_at g i) (first_from (byte_of g) lo (end_at g i) p) f)
          (walk_at p c N.place N.count low (sym (longer-to b lo hi q 0 p c (omega arith) w) ∙ N.walks) N.closing)

      -- lost, and a record begins in this block, or none does
      taken-first : lo ≤ q → q < hi → taken g i Known.lost ≡ Judged.good (Known.from q (onto i h q rest after).place (onto i h q rest after).count)
      unfolding taken stepped
      taken-first a l =
          let y = used-within n i in
          let f : first_at g i ≡ q - lo = named-at i h here (starts-then lo (omega arith) s (Starts.here a)) ∙ simp (lt-ltb q hi l) in
          let z : first_at g i ≡ 65535 → ⊥ = λ x. omega arith in
          let t : 498 * i + first_at g i ≡ q = omega arith in
          let N = onto i h q rest after in
          simp (ne_eqb (first_at g i) 65535 z)
          (ap (λ (x : ℕ). stepped x (walked g i (walk (byte_of g) (end_at g i) x 0))) t ∙ ap (stepped q) (walk_at q 0 N.place N.count past N.walks N.closing))

      taken_none : lo ≤ q → hi ≤ q → taken g i Known.lost ≡ Judged.good Known.lost
      unfolding taken
      taken_none a l =
          let f : first_at g i ≡ 65535 = named-at i h here (starts-then lo (omega arith) s (Starts.here a)) ∙ simp (le-ltb q hi l) in
          simp (eq-eqb (first_at g i) 65535 f)

  -- what is known before block i: no record begins from q on before it, or those from q on were followed
  data Knows (first i q : ℕ) : Known → Type 0 where
    lost : lim i ≤ q → Knows first i q Known.lost
    from : {p c : ℕ} → first < i → walk b (lim i) q 0 ≡ To p c → Knows first i q (Known.from q p c)

  data Awaits (i : ℕ) : Turn → Type 0 where
    any : Awaits i Turn.any
    only : Awaits i (Turn.only i)

  record Takes (first i q : ℕ) (turn : Turn) (known : Known) : Type 0 where
    pub now : Known
    pub good : judge g i turn known ≡ Judged.good now
    pub knows : Knows first (i + 1) q now

  no-reason-turn : (i : ℕ) (turn : Turn) → i < m → replaced i ≡ false → Awaits i turn → reason g i (wanted g i turn) ≡ 0
  unfolding wanted
  no-reason-turn i turn h k Awaits.any = ap (reason g i) (number-at i h k) ∙ no-reason-at i h k
  no-reason-turn i turn h k Awaits.only = no-reason-at i h k

  judged-good : (i : ℕ) (turn : Turn) (known now : Known) → reason g i (wanted g i turn) ≡ 0 → taken g i known ≡ Judged.good now → judge g i turn known ≡ Judged.good now
  unfolding judge
  judged-good i turn known now e t = simp (eq-eqb (reason g i (wanted g i turn)) 0 e) t

  takes : (first i : ℕ) → first ≤ i → i < m → ((j : ℕ) → first ≤ j → j < i + 1 → replaced j ≡ false) → (q : ℕ) (rest : List Record) → Starts (498 * first) 0 rs q rest
      → (turn : Turn) (known : Known) → Awaits i turn → Knows first i q known → Takes first i q turn known
  unfolding taken stepped
  takes first i o h u q rest s turn known a (Knows.from {p = p} {c = c} f w) =
      let e : lim i ≡ 498 * i = omega arith in
      let N = onto i h q rest (after first i o h u q rest s) in
      let r = no-reason-turn i turn h (here first i o h u) a in
      let k = in-step-at first i o h u q rest s p c (rw e at w) in
      record {
        now = Known.from q N.place N.count;
        good = judged-good i turn (Known.from q p c) (Known.from q N.place N.count) r (ap (stepped q) k);
        knows = Knows.from (omega arith) (ap (λ (x : ℕ). walk b x q 0) (sym (lim-next i h)) ∙ N.walks);
      }
  takes first i o h u q rest s turn known a (Knows.lost l) =
      let N = onto i h q rest (after first i o h u q rest s) in
      let r = no-reason-turn i turn h (here first i o h u) a in
      ⊎_elim
      (λ (x : q < 498 * i + used_in n i).
      record {
        now = Known.from q N.place N.count;
        good = judged-good i turn Known.lost (Known.from q N.place N.count) r (taken-first first i o h u q rest s (omega arith) x);
        knows = Knows.from (omega arith) (ap (λ (x : ℕ). walk b x q 0) (sym (lim-next i h)) ∙ N.walks);
      })
      (λ (x : 498 * i + used_in n i ≤ q).
      record {
        now = Known.lost;
        good = judged-good i turn Known.lost Known.lost r (taken_none first i o h u q rest s (omega arith) x);
        knows = Knows.lost (omega (arith, lim-next i h));
      })
      (less q (498 * i + used_in n i))

  -- a replaced block
  judged-bad : (i : ℕ) (turn : Turn) (known : Known) → i < m → replaced i ≡ true → judge g i turn known ≡ Judged.bad 31
  unfolding judge reason
  judged-bad i turn known h k =
      simp (ne_eqb (sum_to g (512 * i) 127) (sum_at g i) (damaged.wrong i (omega (arith, blocks-F)) k))

  -- WHAT A STRETCH KEEPS
  record Kept-records (E p q : ℕ) (kept : List Record) : Type 0 where
    pub records : List (List ℕ)
    pub keeps : Keeps (byte_of g) E p q records
    pub count : length records ≡ length kept

  ends-keeps : {E p q : ℕ} {ts kept over : List Record} (low : ℕ) → low ≤ p → E ≤ n → ((k : ℕ) → low ≤ k → k < E → b k ≡ byte_of g k) → Ends E p ts q kept over → Suffix S p ts → Kept-records E p q kept
  ends-keeps {E} {p} low a l agree Ends.none x =
      record { records = []; keeps = Keeps.stops (λ (h : p + 1 < E). absurd (omega (arith, suffix-end S p x))); count = refl }
  ends-keeps {E} {p} low a l agree (Ends.over {r = r} {rs = ts} y) x =
      let d = head_of S p r ts x in
      record {
        records = [];
        keeps = Keeps.stops (λ (h : p + 1 < E).
            let z : length_at b p ≡ length_at (byte_of g) p = rw (agree p a (omega arith), agree (p + 1) (omega arith) h) in
            omega (arith, d.length-is, d.size_is_lem));
        count = refl;
      }
  ends-keeps {E} {p} {q} low a l agree (Ends.more {r = r} {rs = ts} {kept = kept} y e) x =
      let d = head_of S p r ts x in
      let h : p + 1 < E = omega (arith, d.size_is_lem) in
      let z : length_at b p ≡ length_at (byte_of g) p = rw (agree p a (omega arith), agree (p + 1) (omega arith) h) in
      let f : next (byte_of g) p ≡ p + size r = omega (arith, d.length-is, d.size_is_lem) in
      let k = ends-keeps low (omega arith) l agree e d.rest in
      let far : next (byte_of g) p ≤ E = omega arith in
      let short : length_at (byte_of g) p ≤ 8192 = omega (arith, d.length-is, d.short) in
      record {
        records = bytes_from (byte_of g) p (6 + length_at (byte_of g) p) ∷ k.records;
        keeps = Keeps.goes {q = q} {rs = k.records} h far short (rw f k.keeps);
        count = ap suc k.count;
      }

  ends-bound : {E p q : ℕ} {ts kept over : List Record} → Ends E p ts q kept over → p < q → q ≤ E
  ends-bound Ends.none h = absurd (omega arith)
  ends-bound (Ends.over y) h = absurd (omega arith)
  ends-bound (Ends.more y e) h = ends-within e y

  -- an end told otherwise
  ends_at : {E E' p q : ℕ} {ts kept over : List Record} → E ≡ E' → Ends E p ts q kept over → Ends E' p ts q kept over
  ends_at z e = rw z at e

  no-ends : {E p q : ℕ} {ts kept over : List Record} → Ends E p ts q kept over → E ≤ p → kept ≡ []
  no-ends Ends.none h = refl
  no-ends (Ends.over y) h = refl
  no-ends (Ends.more y e) h = absurd (omega arith)

  record Emits (ss more : List Stretch) (kept : List Record) : Type 0 where
    pub stream : kept_of g more ≡ stream_of kept ++ kept_of g ss
    pub count : count_of more ≡ length kept + count_of ss

  ending_at : (first i : ℕ) → first < i → i ≤ m → replaced (i - 1) ≡ false → ending g first i ≡ lim i
  ending_at first i h l u =
      let k : i - 1 < m = omega arith in
      let z : i - 1 + 1 ≡ i = omega arith in
      ending-some g first i h ∙ end-at (i - 1) k u ∙ lim-next (i - 1) k ∙ ap lim z

  emits : (first i r q : ℕ) (rest : List Record) (known : Known) (ss : List Stretch) → first ≤ i → i ≤ m → ((j : ℕ) → first ≤ j → j < i → replaced j ≡ false) → Suffix S q rest → 498 * first ≤ q ⊎ (i ≤ first)
      → Knows first i q known → {q' : ℕ} {kept over : List Record} → Ends (lim i) q rest q' kept over → Emits ss (stretch g first i known r ∷ ss) kept
  unfolding stretch kept_of count_of stream_of bytes_from
  emits first i r q rest known ss o l u x low (Knows.lost a) e =
      let z : ending g first i - ending g first i ≡ 0 = omega arith in
      rw (no-ends e a) record { stream = rw z; count = refl }
  emits first i r q rest known ss o l u x low (Knows.from f w) {q'} {kept} e =
      let E = ending_at first i f l (u (i - 1) (omega arith) (omega arith)) in
      let p : 498 * first ≤ q = ⊎_elim (λ (y : 498 * first ≤ q). y) (λ (y : i ≤ first). absurd (omega arith)) low in
      let ag : (k : ℕ) → 498 * first ≤ k → k < lim i → b k ≡ byte_of g k = λ k a c. sym (agree k (omega arith) (u (k / 498) (omega arith) (omega arith))) in
      let k = ends-keeps (498 * first) p (omega arith) ag e x in
      let on = ends_on e in
      let stops : kept_by (ending g first i) (byte_of g) (ending g first i) q 0 ≡ stop_at q' (0 + length k.records) =
      ap (λ (t : ℕ). kept_by t (byte_of g) t q 0) E ∙ kept-is k.keeps (lim i) 0 (omega arith) in
      let bytes : bytes_from (byte_of g) q (q' - q) ≡ stream_of kept =
      bytes-alike (byte_of g) b q q (q' - q) (λ j c. sym (ag (q + j) (omega arith) (omega (arith, ends-bound e (omega arith))))) ∙ ends-bytes S e x in
      record {
        stream = rw stops (ap (λ (t : List ℕ). t ++ kept_of g ss) bytes);
        count = rw stops (omega (arith, k.count));
      }

  stream-append : (ts us : List Record) → stream_of (ts ++ us) ≡ stream_of ts ++ stream_of us
  unfolding stream_of
  stream-append [] us = refl
  stream-append (t ∷ ts) us = ap (λ (x : List ℕ). entry_bytes t ++ x) (stream-append ts us) ∙ sym (append_assoc (entry_bytes t) (stream_of ts) (stream_of us))

  -- BLOCK BY BLOCK
  record Spared (ss : List Stretch) (kept : List Record) : Type 0 where
    pub stream : kept_of g ss ≡ stream_of kept
    pub count : count_of ss ≡ length kept

  spared-after : (ss more : List Stretch) (kept then : List Record) → Emits ss more kept → Spared ss then → Spared more (kept ++ then)
  spared-after ss more kept then e s =
      record {
        stream = e.stream ∙ ap (λ (x : List ℕ). stream_of kept ++ x) s.stream ∙ sym (stream-append kept then);
        count = omega (arith, e.count, s.count, length-append kept then);
      }

  spared-none : Spared [] []
  unfolding kept_of count_of stream_of
  spared-none = record { stream = refl; count = refl }

  kept-at-end : (first q : ℕ) (rest : List Record) → first ≤ m → ((j : ℕ) → first ≤ j → j < m → replaced j ≡ false) → Suffix S q rest → lim first ≤ q → {q' : ℕ} {kept over : List Record} → Ends (lim m) q rest q' kept over
      → untouched replaced q rest ≡ kept
  unfolding untouched
  kept-at-end first q rest o u x l e =
      let z : lim m ≡ n = omega arith in
      ⊎_elim (λ (h : first < m). kept-last replaced first m u S (omega arith) (omega arith) (ends_at z e) x)
      (λ (h : m ≤ first). none (omega arith) rest x e) (less first m)
    where
      none : n ≤ q → (rest : List Record) → Suffix S q rest → {q' : ℕ} {kept over : List Record} → Ends (lim m) q rest q' kept over → untouched replaced q rest ≡ kept
      none l [] x Ends.none = refl
      none l (r ∷ rest) x e = let d = head_of S q r rest x in absurd (omega (arith, d.inside, d.size_is_lem))

  spared-from : (k i first : ℕ) (turn : Turn) (known : Known) → i + k ≡ m → first ≤ i → Awaits i turn → ((j : ℕ) → first ≤ j → j < i → replaced j ≡ false) → (q : ℕ) (rest : List Record)
      → Starts (lim first) 0 rs q rest → Knows first i q known → Spared (stretches_by k g i first turn known) (untouched replaced q rest)
  unfolding stretches_by onward
  spared-from zero i first turn known e o a u q rest s w =
      let x = starts-suffix s all in
      let z : i ≡ m = omega arith in
      let E = ended (lim i) q rest in
      let r : ℕ = cond (eqb (length g % 512) 0) 0 33 in
      let low : (498 * first ≤ q) ⊎ (i ≤ first) =
      ⊎_elim (λ (h : first < i). inl (omega (arith, starts-past s))) (λ (h : i ≤ first). inr h) (less first i) in
      let t = emits first i r q rest known [] o (omega arith) u x low w E.ends in
      let k : untouched replaced q rest ≡ E.kept = kept-at-end first q rest (omega arith) (λ j y v. u j y (omega arith)) x (starts-past s) (ends_at (ap lim z) E.ends) in
      rw k (rw (append-nil E.kept) at (spared-after [] (stretch g first i known r ∷ []) E.kept [] t spared-none))
  spared-from (suc k) i first turn known e o a u q rest s w =
      by
      (λ q' rest' s' l. spared-from k (i + 1) (i + 1) Turn.any Known.lost (omega arith) (omega arith) Awaits.any (λ j y v. absurd (omega arith)) q' rest' s' (Knows.lost l))
      (λ known' u' w'. spared-from k (i + 1) first (Turn.only (i + 1)) known' (omega arith) (omega arith) Awaits.only u' q rest s w') (replaced i) refl
    where
      h : i < m
      h = omega arith

      x : Suffix S q rest
      x = starts-suffix s all

      by : ((q : ℕ) (rest : List Record) → Starts (lim (i + 1)) 0 rs q rest → lim (i + 1) ≤ q → Spared (stretches_by k g (i + 1) (i + 1) Turn.any Known.lost) (untouched replaced q rest))
          → ((known : Known) → ((j : ℕ) → first ≤ j → j < i + 1 → replaced j ≡ false) → Knows first (i + 1) q known → Spared (stretches_by k g (i + 1) first (Turn.only (i + 1)) known) (untouched replaced q rest))
          → (t : Bool) → replaced i ≡ t → Spared (onward g first i known (judge g i turn known) (stretches_by k g (i + 1))) (untouched replaced q rest)
      by anew on true d =
          let f = first-from S (lim (i + 1)) q rest x (omega arith) in
          let E = ended (lim i) q rest in
          let ss = stretches_by k g (i + 1) (i + 1) Turn.any Known.lost in
          let z : lim i ≡ 498 * i = omega arith in
          let low : 498 * first ≤ q = omega (arith, starts-past s) in
          let t = emits first i 31 q rest known ss o (omega arith) u x (inl low) w E.ends in
          let r = anew f.place f.rest (starts-then (lim (i + 1)) (omega arith) s f.starts) (starts-past f.starts) in
          let same : untouched replaced q rest ≡ E.kept ++ untouched replaced f.place f.rest = kept_then replaced first i (lim (i + 1)) u d (omega arith) (omega arith) low (ends_at z E.ends) f.starts in
          simp (judged-bad i turn known h d) (rw same (spared-after ss (stretch g first i known 31 ∷ ss) E.kept (untouched replaced f.place f.rest) t r))
      by anew on false d =
          let u' : (j : ℕ) → first ≤ j → j < i + 1 → replaced j ≡ false = λ j y v.
          ⊎_elim (λ (l : j < i). u j y l) (λ (l : i ≤ j). let z : j ≡ i = omega arith in ap replaced z ∙ d) (less j i) in
          let z : lim first ≡ 498 * first = omega arith in
          let t = takes first i o h u' q rest (rw z at s) turn known a w in
          let c : number_at g i + 1 ≡ i + 1 = ap (λ (y : ℕ). y + 1) (number-at i h d) in
          simp t.good (rw c (on t.now u' t.knows))

-- (c)
pub untouched-stay : Untouched
unfolding stretches
untouched-stay rs g replaced right damaged =
    let M = blocks-g rs g replaced right damaged in
    let r = spared-from rs g replaced right damaged (blocks_for (length (stream_of rs))) 0 0 Turn.any Known.lost (omega arith) (omega arith) Awaits.any (λ j y v. absurd (omega arith)) 0 rs
    (Starts.here (omega arith)) (Knows.lost (omega arith)) in
    rw M (r.stream, r.count)
