-- What a salvage comes to: the list, the new file, the answer; and the call.
use Rattle.std.proofs.Common.{◌≡◌, ℕ, suc, ◌+◌, ◌-◌, ◌*◌, ◌/◌, ◌<◌, ◌≤◌, Bool, true, false, List, [], ◌∷◌, ◌++◌, length, take, drop, replicate, sym, refl, ap, ◌∙◌, ⊎_elim, append_assoc, append-nil, arith, length-append, length-drop, take-append-drop, length-take-le, drop-drop, take_at, drop_at, le-ltb, lt-ltb, eq-eqb, ne_eqb, le-leb, leb-true}
use mathlib.Core.Bool.{false≢true}
use lib.Seq.{sets-eq}
use borrow.Rule.Slice.PartMut.{put_mid, mid_of}
use Rattle.buffers.specs.Bytes.{spelled, bytes_of}
use Rattle.shelf.specs.Answers.{Answer, Rescued}
use Rattle.shelf.specs.declared.answers.Tally.{Tally}
use Rattle.shelf.specs.Stream.{byte_at}
use Rattle.shelf.specs.Block.{cut, blocks_for, file_of}
use Rattle.shelf.specs.Judge.{byte_of}
use Rattle.shelf.specs.Shelf.{refuses, filled}
use Rattle.shelf.specs.Salvage.{Entry, stretches, kept_of, count_of, entries_of, bytes_dropped, entry_words, no_room, salvaged, salvage}
use Rattle.shelf.specs.Rescue.{Listing, told, entered, listing, Gathered, held, gathered, nothing, has_room, Saved}
use Rattle.shelf.specs.Calls.{back, area_of, salvage_call}
use Rattle.shelf.proofs.Sides.{less}
use Rattle.shelf.proofs.Cutting.{cut-long}
use Rattle.shelf.proofs.Entries.{tail-cleared, zero-filled}
use Rattle.shelf.proofs.Lists.{listing-entries, listing-dropped, listing-long}
use Rattle.shelf.proofs.Gathers.{all-records, all-stream, all_listed, all-long, all_laid}
use Rattle.shelf.proofs.Theorems.{cut-alike}

-- THE LIST
words_long : (es : List Entry) → length (bytes_of (entry_words es)) ≡ 12 * length es
unfolding entry_words spelled
words_long [] = refl
words_long (e ∷ es) = let h = words_long es in omega arith

one_more : (e : Entry) (es : List Entry) → bytes_of (entry_words (e ∷ es)) ≡ bytes_of (entry_words (e ∷ [])) ++ bytes_of (entry_words es)
unfolding entry_words spelled
one_more e es = refl

entered-is : (list : List ℕ) (k : ℕ) (e : Entry) → 12 * k + 12 ≤ length list → entered list k e ≡ take (12 * k) list ++ bytes_of (entry_words (e ∷ [])) ++ drop (12 * k + 12) list
unfolding entered
entered-is list k e h =
    let E = bytes_of (entry_words (e ∷ [])) in
    let l = words_long (e ∷ []) in
    let z : 12 * k + length E ≡ 12 * k + 12 = omega arith in
    rw (lt-ltb k (length list / 12) (omega arith)) (sets-eq E list (12 * k) (omega arith) ∙ ap (λ (x : ℕ). take (12 * k) list ++ E ++ drop x list) z)

list-is : (x : Listing) (es : List Entry) → 12 * (x.entries + length es) ≤ length x.list
    → (listing x es).list ≡ take (12 * x.entries) x.list ++ bytes_of (entry_words es) ++ drop (12 * (x.entries + length es)) x.list
unfolding listing entry_words spelled
list-is x [] h =
    let e : x.entries + 0 ≡ x.entries = omega arith in
    rw (e, append-nil (take (12 * x.entries) x.list)) (sym (take-append-drop (12 * x.entries) x.list))
list-is x (e ∷ es) h =
    let k = x.entries in
    let l = x.list in
    let E = bytes_of (entry_words (e ∷ [])) in
    let W = bytes_of (entry_words es) in
    let D = drop (12 * k + 12) l in
    let A = take (12 * k) l ++ E in
    let n = length es in
    let made = entered-is l k e (omega arith) in
    let long : length A ≡ 12 * (k + 1) = length-append (take (12 * k) l) E ∙ omega (arith, words_long (e ∷ []), length-take-le (12 * k) l (omega arith)) in
    let whole : length (A ++ D) ≡ length l = length-append A D ∙ simp length-drop (omega arith) in
    let a : 12 * (k + 1 + n) ≡ 12 * (k + 1) + 12 * n = omega arith in
    let b : 12 * (k + suc n) ≡ 12 * k + 12 + 12 * n = omega arith in
    let next : Listing = record { entries = k + 1; dropped = x.dropped + e.bytes; list = entered l k e } in
    list-is next es (omega (arith, ap length made, whole))
    ∙ ap (λ (y : List ℕ). take (12 * (k + 1)) y ++ W ++ drop (12 * (k + 1 + n)) y) made
    ∙ ap (λ (y : List ℕ). y ++ W ++ drop (12 * (k + 1 + n)) (A ++ D)) (take_at A D (12 * (k + 1)) long)
    ∙ ap (λ (y : List ℕ). A ++ W ++ y)
    (ap (λ (y : ℕ). drop y (A ++ D)) a ∙ sym (drop-drop (12 * n) (12 * (k + 1)) (A ++ D)) ∙ ap (drop (12 * n)) (drop_at A D (12 * (k + 1)) long) ∙ drop-drop (12 * n) (12 * k + 12) l
    ∙ ap (λ (y : ℕ). drop y l) (sym b))
    ∙ ap (λ (y : List ℕ). y ++ drop (12 * (k + suc n)) l) (append_assoc (take (12 * k) l) E W)

-- WHAT WAS COLLECTED
pub record Collected (f fresh₀ list₀ : List ℕ) (t : Tally) (fresh list : List ℕ) : Type 0 where
  pub records : t.records ≡ count_of (stretches f)
  pub stream : t.stream ≡ length (kept_of f (stretches f))
  pub entries : t.listed.entries ≡ length (entries_of f (stretches f))
  pub dropped : t.listed.dropped ≡ bytes_dropped (entries_of f (stretches f))
  pub bytes : 512 * blocks_for (length (kept_of f (stretches f))) ≤ length fresh₀ → (j : ℕ) → j < length (kept_of f (stretches f)) → byte_of fresh j ≡ byte_at (kept_of f (stretches f)) j
  pub rows : 12 * length (entries_of f (stretches f)) ≤ length list₀ → list ≡ bytes_of (entry_words (entries_of f (stretches f))) ++ drop (12 * length (entries_of f (stretches f))) list₀

pub collected : (f fresh₀ list₀ : List ℕ) {t : Tally} {fresh list : List ℕ} → held t fresh list ≡ gathered f (held nothing fresh₀ list₀) (stretches f) → Collected f fresh₀ list₀ t fresh list
collected f fresh₀ list₀ {t} {fresh} {list} e =
    let g = held nothing fresh₀ list₀ in
    let ss = stretches f in
    let S = kept_of f ss in
    let es = entries_of f ss in
    let x : Listing = record { entries = 0; dropped = 0; list = list₀ } in
    let told_is : told t.listed list ≡ listing x es = ap (λ (y : Gathered). y.listing) e ∙ all_listed f g ss in
    record {
      records = ap (λ (y : Gathered). y.records) e ∙ all-records f g ss ∙ omega arith;
      stream = ap (λ (y : Gathered). y.stream) e ∙ all-stream f g ss ∙ omega arith;
      entries = ap (λ (y : Listing). y.entries) told_is ∙ listing-entries x es ∙ omega arith;
      dropped = ap (λ (y : Listing). y.dropped) told_is ∙ listing-dropped x es ∙ omega arith;
      bytes =
          λ h j l.
          ap (λ (y : Gathered). byte_of y.fresh j) e ∙ all_laid f g ss [] refl (λ i a. absurd (omega arith)) (λ i a. omega arith) j l;
      rows =
          λ h.
          let z : 0 + length es ≡ length es = omega arith in
          ap (λ (y : Listing). y.list) told_is ∙ list-is x es (omega arith) ∙ ap (λ (y : ℕ). bytes_of (entry_words es) ++ drop (12 * y) list₀) z;
    }

-- ROOM
module _ (f : List ℕ) (room rows : ℕ) where
  abbrev M : ℕ
  M = blocks_for (length (kept_of f (stretches f)))

  abbrev N : ℕ
  N = length (entries_of f (stretches f))

  salvage-none : has_room room rows M N ≡ false → salvage f room rows ≡ no_room
  unfolding salvage has_room
  salvage-none e =
      ⊎_elim (λ (h : room / 512 < M). rw (lt-ltb (room / 512) M h))
      (λ (h : M ≤ room / 512).
      ⊎_elim (λ (g : 4294967296 < M). rw (le-ltb (room / 512) M h, lt-ltb 4294967296 M g))
      (λ (g : M ≤ 4294967296).
      ⊎_elim (λ (k : rows / 12 < N). rw (le-ltb (room / 512) M h, le-ltb 4294967296 M g, lt-ltb (rows / 12) N k))
      (λ (k : N ≤ rows / 12). absurd (false≢true (sym e ∙ rw (le-ltb (room / 512) M h, le-ltb 4294967296 M g, le-leb N (rows / 12) k)))) (less (rows / 12) N))
      (less 4294967296 M))
      (less (room / 512) M)

  pub record Roomy : Type 0 where
    pub blocks : M ≤ room / 512
    pub numbered : M ≤ 4294967296
    pub entries : N ≤ rows / 12
    pub salvaged : salvage f room rows ≡ salvaged (count_of (stretches f)) (length (kept_of f (stretches f))) (kept_of f (stretches f)) (entries_of f (stretches f))

  salvage-some : has_room room rows M N ≡ true → Roomy
  unfolding salvage has_room
  salvage-some e =
      ⊎_elim (λ (h : room / 512 < M). absurd (false≢true (rw (lt-ltb (room / 512) M h) at e)))
      (λ (h : M ≤ room / 512).
      ⊎_elim (λ (g : 4294967296 < M). absurd (false≢true (rw (le-ltb (room / 512) M h, lt-ltb 4294967296 M g) at e)))
      (λ (g : M ≤ 4294967296).
      let k : N ≤ rows / 12 = leb-true N (rows / 12) (rw (le-ltb (room / 512) M h, le-ltb 4294967296 M g) at e) in
      record { blocks = h; numbered = g; entries = k; salvaged = rw (le-ltb (room / 512) M h, le-ltb 4294967296 M g, le-ltb (rows / 12) N k) })
      (less 4294967296 M))
      (less (room / 512) M)

-- THE ANSWER
module _ (f fresh₀ list₀ : List ℕ) {t : Tally} {fresh list : List ℕ} (q : held t fresh list ≡ gathered f (held nothing fresh₀ list₀) (stretches f))
    {m : ℕ} (e : m ≡ blocks_for t.stream) {b : Bool} (g : b ≡ has_room (length fresh) (length list) m t.listed.entries) where
  abbrev c : Collected f fresh₀ list₀ t fresh list
  c = collected f fresh₀ list₀ q

  l₁ : length fresh ≡ length fresh₀
  l₁ = ap (λ (y : Gathered). length y.fresh) q ∙ all-long f (held nothing fresh₀ list₀) (stretches f)

  l₂ : length list ≡ length list₀
  l₂ =
      ap (λ (y : Gathered). length y.listing.list) q ∙ ap (λ (y : Listing). length y.list) (all_listed f (held nothing fresh₀ list₀) (stretches f))
      ∙ listing-long (record { entries = 0; dropped = 0; list = list₀ }) (entries_of f (stretches f))

  abbrev S : List ℕ
  S = kept_of f (stretches f)

  blocks-are : m ≡ blocks_for (length S)
  blocks-are = e ∙ ap blocks_for c.stream

  room-is : b ≡ has_room (length fresh₀) (length list₀) (blocks_for (length S)) (length (entries_of f (stretches f)))
  room-is =
      g ∙ ap (λ (x : ℕ). has_room x (length list) m t.listed.entries) l₁ ∙ ap (λ (x : ℕ). has_room (length fresh₀) x m t.listed.entries) l₂
      ∙ ap (λ (x : ℕ). has_room (length fresh₀) (length list₀) x t.listed.entries) blocks-are
      ∙ ap (has_room (length fresh₀) (length list₀) (blocks_for (length S))) c.entries

  pub saved-none : b ≡ false → {fresh' list' : List ℕ} {a : Answer} → a ≡ (refuses 21 0).answer → fresh' ≡ replicate (length fresh) 0 → list' ≡ replicate (length list) 0
      → Saved (salvage f (length fresh₀) (length list₀)) (length fresh₀) (length list₀) (record { answer = a; entries = 0; dropped = 0 }) fresh' list'
  saved-none h k x y =
      let o = salvage-none f (length fresh₀) (length list₀) (sym room-is ∙ h) in
      rw o (record { answer = k; entries = refl; dropped = refl; file = x ∙ ap (λ (n : ℕ). replicate n 0) l₁ ∙ zero-filled (length fresh₀); list = y ∙ ap (λ (n : ℕ). replicate n 0) l₂ ∙ zero-filled (length list₀) })

  module _ (h : b ≡ true) where
    abbrev roomy : Roomy f (length fresh₀) (length list₀)
    roomy = salvage-some f (length fresh₀) (length list₀) (sym room-is ∙ h)

    pub saved-fits : 512 * m ≤ length fresh
    saved-fits = omega (arith, blocks-are, roomy.blocks, l₁)

    pub saved-numbered : m ≤ 4294967296
    saved-numbered = omega (arith, blocks-are, roomy.numbered)

    pub saved-bytes : 512 * m < 18446744073709551616
    saved-bytes = let z = saved-numbered in omega arith

    pub saved-within : (made : List ℕ) → made ≡ cut (byte_of fresh) t.stream m ++ drop (512 * m) fresh → 512 * m ≤ length made
    saved-within made k = rw (ap length k) (simp (length-append, length-drop) (omega (arith, cut-long (byte_of fresh) t.stream m)))

    pub saved_rows : 12 * t.listed.entries ≤ length list
    saved_rows = omega (arith, c.entries, roomy.entries, l₂)

    pub saved-list : length list₀ < 18446744073709551616 → 12 * t.listed.entries < 18446744073709551616
    saved-list k = let z = saved_rows in let y = l₂ in omega arith

    pub saved-done : (made made' z list' y : List ℕ) → made ≡ cut (byte_of fresh) t.stream m ++ drop (512 * m) fresh
        → made' ≡ put_mid (512 * m) (length made - 512 * m) made z → z ≡ replicate (length (mid_of (512 * m) (length made - 512 * m) made)) 0
        → list' ≡ put_mid (12 * t.listed.entries) (length list - 12 * t.listed.entries) list y → y ≡ replicate (length (mid_of (12 * t.listed.entries) (length list - 12 * t.listed.entries) list)) 0
        → Saved (salvage f (length fresh₀) (length list₀)) (length fresh₀) (length list₀)
        (record {
          answer = record { number = 0; place = 0; records = t.records; stream = t.stream; file = 512 * m };
          entries = t.listed.entries;
          dropped = t.listed.dropped;
        })
        made' list'
    saved-done made made' z list' y p o r u v =
        let n = t.stream in
        let es = entries_of f (stretches f) in
        let W = bytes_of (entry_words es) in
        let C = cut (byte_of fresh) n m in
        let count = 12 * t.listed.entries in
        let long : length W ≡ count = words_long es ∙ omega (arith, c.entries) in
        let same : C ≡ file_of (byte_at S) (length S) =
        ap (λ (x : ℕ). cut (byte_of fresh) n x) blocks-are ∙ ap (λ (x : ℕ). cut (byte_of fresh) x (blocks_for (length S))) c.stream
        ∙ cut-alike (byte_of fresh) (byte_at S) (length S) (λ j i. c.bytes (omega (arith, roomy.blocks)) j i) (blocks_for (length S)) (omega arith) in
        let file-is : made' ≡ filled (length fresh₀) (file_of (byte_at S) (length S)) =
        tail-cleared C fresh made made' z (512 * m) (cut-long (byte_of fresh) n m) saved-fits p o r ∙ ap (λ (x : ℕ). filled x C) l₁
        ∙ ap (filled (length fresh₀)) same in
        let front : list ≡ W ++ drop count list₀ =
        c.rows (omega (arith, c.entries, saved_rows, l₂)) ∙ ap (λ (x : ℕ). W ++ drop (12 * x) list₀) (sym c.entries) in
        let list-is' : list' ≡ filled (length list₀) W = tail-cleared W list₀ list list' y count long (omega (arith, saved_rows, l₂)) front u v in
        rw roomy.salvaged
        (record {
          answer =
              ap (λ (x : ℕ). record { number = 0; place = 0; records = x; stream = n; file = 512 * m }) c.records
              ∙ ap (λ (x : ℕ). record { number = 0; place = 0; records = count_of (stretches f); stream = x; file = 512 * m }) c.stream
              ∙ ap (λ (x : ℕ). record { number = 0; place = 0; records = count_of (stretches f); stream = length S; file = 512 * x }) blocks-are;
          entries = c.entries;
          dropped = c.dropped;
          file = file-is;
          list = list-is';
        })

-- THE CALL
module _ (f : List ℕ) (room rows area : ℕ) where
  pub salvage-other : (b c d : List ℕ) → (area ≡ 44 → ⊥) → b ≡ replicate area 0 → c ≡ replicate room 0 → d ≡ replicate rows 0 → back 24 b (c ∷ d ∷ []) ≡ salvage_call f room rows area
  unfolding salvage_call
  salvage-other b c d n e g h = rw (ne_eqb area 44 n) (rw (e, g, h))

  pub salvage-told : (number : ℕ) (r : Rescued) (b c d : List ℕ) → area ≡ 44 → Saved (salvage f room rows) room rows r c d → number ≡ r.answer.number → b ≡ area_of r.answer r.entries r.dropped
      → back number b (c ∷ d ∷ []) ≡ salvage_call f room rows area
  unfolding salvage_call
  salvage-told number r b c d n s e g =
      let o = salvage f room rows in
      let tail = c ∷ d ∷ [] in
      rw (eq-eqb area 44 n)
      (ap (λ (x : ℕ). back x b tail) e
      ∙ ap (λ (x : List ℕ). back r.answer.number x tail) g
      ∙ ap (λ (x : Answer). back x.number (area_of x r.entries r.dropped) tail) s.answer
      ∙ ap (λ (x : ℕ). back o.answer.number (area_of o.answer x r.dropped) tail) s.entries
      ∙ ap (λ (x : ℕ). back o.answer.number (area_of o.answer o.entries x) tail) s.dropped
      ∙ ap (λ (x : List ℕ). back o.answer.number (area_of o.answer o.entries o.lost) (x ∷ d ∷ [])) s.file
      ∙ ap (λ (x : List ℕ). back o.answer.number (area_of o.answer o.entries o.lost) (filled room o.file ∷ x ∷ [])) s.list)
