-- DEMAND 2 of the calls: `bim_read` shows the reading of its payload; what `bim_write` makes reads back; what was read
-- without a Blank is written back.
use Prim.Native.Nat.{ℕ, zero, suc, ◌+◌, ◌*◌, ◌/◌, ◌%◌, ◌≤◌, min}
use mathlib.Core.Path.{◌≡◌, refl, sym, ap, ap₂, ◌∙◌}
use mathlib.Core.Bool.{Bool, true, false, cond}
use mathlib.Core.List.{List, [], ◌∷◌, ◌++◌, map}
use native.Mathlib.Omega.{arith}
use borrow.Author.Tests.{eqb-true, eq-eqb}
use lib.Dec.{eqb}
use lib.ListN.{length, take, length-map}
use lib.Seq.{take_at}
use Rattle.numbers.specs.Limit.{most_payload}
use Rattle.numbers.specs.Limit as limit
use Rattle.table.specs.First.{Verdict}
use Rattle.table.specs.First.Verdict.{right, wrong}
use Rattle.buffers.specs.Bytes.{words_of, spelled, bytes_of, word_from}
use Rattle.buffers.proofs.BytesLaws.{words-length, words-bytes, bytes-length}
use Rattle.value.specs.Simple.{AllBytes}
use Rattle.model.specs.Model.{Event, Nodes, events, texts}
use Rattle.model.specs.Items.{Lengths, Mode}
use Rattle.model.specs.Write.{bare}
use Rattle.model.specs.Plain.{NoBlank}
use Rattle.model.proofs.Entries.{words-length as events-words}
use Rattle.model.proofs.PackLaws.{pack-length}
use Rattle.model.specs.Whole.{lengths_number, mode_number, Reply, accepted, outcome, accepts, filled, event_words, texts_left, after_verdict, reading, Made, made, unmade, outcome_made, payload_left, writing, verdict_made}
use Rattle.theorems.proofs.Reader.{reading-sound, reading-complete, list-follows, blanks-exact, bits-add-up}
use Rattle.theorems.proofs.NamedReading.{zero-accepts}
use Rattle.theorems.proofs.NamedWriting.{zero-makes}
use Rattle.theorems.specs.Shortest.{flag_bits}
use Rattle.theorems.specs.Demand2.{Valid, payload_of, bytes_for}
use Rattle.theorems.proofs.Demand2.{valid-written, valid-read, written-valid, read-write, read-rewritten}
use Rattle.call_parts.specs.Area.{area_of, area_bytes, mode_at, events_at, text_at, bits_at}
use Rattle.call_parts.specs.Calls.{Back, back, lent, table_verdict, read_bytes, events_back, read_call, write_list, unlisted, write_bytes, write_call}
use Rattle.writes.proofs.WriteLaws.{Unlisted, unlisted-is, one_word}
use Rattle.demands.specs.Demands.{shown, wrote, Reading, Same, Reads, Writes, NoBlankIn, events_in, flag_bit, ShortestIn, Rewrites}
use Rattle.demands.proofs.WholeTables.{right-whole, whole-right}
use Rattle.demands.proofs.AreaBack.{area-fetches, word-past}

-- what a call tells of a reply
abbrev pub tells : ℕ → ℕ → Reply → Back
tells e x r = back (outcome r).number (area_of (outcome r)) (events_back e r ∷ texts_left x r ∷ [])

pub tells-shown : (e x : ℕ) (mode : Mode) (tree : Nodes) (used : ℕ)
    → tells e x (accepted mode tree used) ≡ shown e x mode tree used
unfolding outcome events_back texts_left
tells-shown e x mode tree used = refl

module _ (t : List ℕ) (party name type : ℕ) where
  module _ (s : List ℕ) (e x : ℕ) where
    abbrev R : Reply
    R = reading (words_of t) party name type s (e / 4) x

    pub call-tells : table_verdict t ≡ right → read_call t party name type s e x area_bytes ≡ tells e x R
    unfolding read_call read_bytes lent after_verdict
    call-tells v = rw v

    pub is-accepted : {mode : Mode} {tree : Nodes} {used : ℕ} → Reading t party name type s e x mode tree used
        → R ≡ accepted mode tree used
    is-accepted h = reading-complete (words_of t) party name type s (e / 4) x _ _ _ h.is

    pub accepts_all : (mode : Mode) (tree : Nodes) (used : ℕ) → Reading t party name type s e x mode tree used
        → read_call t party name type s e x area_bytes ≡ shown e x mode tree used
    accepts_all mode tree used h =
        call-tells (whole-right t h.whole h.is.enters.table_right) ∙ ap (tells e x) (is-accepted h)
        ∙ tells-shown e x mode tree used

  -- a reading stays one where there is more room, so there is only one
  wider : (s : List ℕ) (e x e' x' : ℕ) {mode : Mode} {tree : Nodes} {used : ℕ} → e ≤ e' → x ≤ x'
      → Reading t party name type s e x mode tree used → Reading t party name type s e' x' mode tree used
  wider s e x e' x' h k r =
      let i = r.is.is in
      let f = i.found in
      let a = f.slots in
      let b = f.bytes in
      record {
        whole = r.whole;
        is = record {
          enters = r.is.enters;
          is = record {
            mode-byte = i.mode-byte;
            found = record {
              bits = f.bits;
              is = f.is;
              stands = f.stands;
              within = f.within;
              slots = omega arith;
              bytes = omega arith;
            };
            pads = i.pads;
          };
        };
      }

  same-reading : (s : List ℕ) (e x e' x' : ℕ) (mode mode' : Mode) (tree tree' : Nodes) (used used' : ℕ)
      → Reading t party name type s e x mode tree used → Reading t party name type s e' x' mode' tree' used'
      → Same mode mode' tree tree' used used'
  same-reading s e x e' x' mode mode' tree tree' used used' h k =
      let r = is-accepted s (e + e') (x + x') (wider s e x (e + e') (x + x') (omega arith) (omega arith) h) in
      let r' = is-accepted s (e + e') (x + x') (wider s e' x' (e + e') (x + x') (omega arith) (omega arith) k) in
      let z : accepted mode tree used ≡ accepted mode' tree' used' = sym r ∙ r' in
      record { modes = cc; trees = cc; bits = cc }

  pub accepts_only : (s : List ℕ) (e x : ℕ) → (read_call t party name type s e x area_bytes).number ≡ 0 → Reads t party name type s e x
  unfolding read_call read_bytes lent after_verdict outcome
  accepts_only s e x c = by-table (table_verdict t) refl c
    where
      by-table : (v : Verdict) → table_verdict t ≡ v → (outcome (after_verdict v (R s e x))).number ≡ 0
          → Reads t party name type s e x
      by-table (wrong i) v c = absurd (omega arith)
      by-table right v c =
          let a = zero-accepts (words_of t) party name type s (e / 4) x c in
          let r : Reading t party name type s e x a.mode a.list a.bits = record {
            whole = (right-whole t v).0;
            is = reading-sound (words_of t) party name type s (e / 4) x a.mode a.list a.bits a.is;
          } in
          record {
            mode = a.mode;
            tree = a.list;
            used = a.bits;
            reading = r;
            only = λ e' x' mode' tree' used' k. same-reading s e x e' x' a.mode mode' a.list tree' a.bits used' r k;
            shows = accepts_all s e x a.mode a.list a.bits r;
            follows = list-follows (words_of t) party name type s (e / 4) x a.mode a.list a.bits a.is;
            blanks = blanks-exact (words_of t) party name type s (e / 4) x a.mode a.list a.bits a.is;
            counts = bits-add-up (words_of t) party name type s (e / 4) x a.mode a.list a.bits a.is;
          }

  -- a payload made of whole events, as the call tells it
  made_tells : (n : ℕ) (E X : List ℕ) (room : ℕ) (payload : List ℕ) (used : ℕ) → table_verdict t ≡ right
      → length E % limit.event ≡ 0
      → writing (words_of t) party name type n (words_of E) X room ≡ made payload used
      → write_call t party name type n E X room area_bytes ≡ wrote room n (length E / limit.event) (length X) used payload
  unfolding write_call write_bytes write_list lent verdict_made payload_left outcome_made
  made_tells n E X room payload used v h m = rw (v, eq-eqb (length E % limit.event) 0 h, m)

  pub writes_all : (mode : Mode) (E X : List ℕ) (room : ℕ) (h : Valid (words_of t) party name type mode (words_of E) X)
      → length t % 4 ≡ 0 → length E % limit.event ≡ 0 → bytes_for h.bits ≤ min room most_payload
      → write_call t party name type (mode_number mode) E X room area_bytes
      ≡ wrote room (mode_number mode) (length E / limit.event) (length X) (8 + length h.bits) (payload_of mode h.bits)
  writes_all mode E X room h w k f =
      made_tells (mode_number mode) E X room _ _ (whole-right t w h.enters.table_right) k
      (valid-written (words_of t) party name type mode (words_of E) X room h f)

  module _ (n : ℕ) (E X : List ℕ) (room : ℕ) where
    abbrev told : Made → ℕ
    told m = (outcome_made n (length E / limit.event) (length X) m).number

    -- a list that is no whole one is refused as one of one word is, but for the place
    not_listed : told (unlisted (words_of t) party name type n (length E / limit.event)) ≡ 0 → ⊥
    unfolding outcome_made
    not_listed z = go (unlisted-is (words_of t) party name type n)
      where
        go : Unlisted (words_of t) party name type n → ⊥
        go (Unlisted.late f) = let w = rw (f (length E / limit.event)) at z in omega arith
        go (Unlisted.early k p h f) =
            let same : writing (words_of t) party name type n (0 ∷ []) X room ≡ unmade k p =
            one_word (words_of t) party name type n 0 X room ∙ f 0 in
            let none : k ≡ 0 = rw (f (length E / limit.event)) at z in
            let m = zero-makes (words_of t) party name type n (0 ∷ []) X room 0 0 (rw same none) in
            let w : made m.payload m.bits ≡ unmade k p = sym m.is ∙ same in
            let y : ◌≡◌ {A = ℕ} 0 1 = cc in
            omega arith

    abbrev listed : Bool → Made
    listed b = cond b (writing (words_of t) party name type n (words_of E) X room) (unlisted (words_of t) party name type n (length E / limit.event))

    pub writes_only : (write_call t party name type n E X room area_bytes).number ≡ 0 → Writes t party name type n E X room
    unfolding write_call write_bytes write_list lent verdict_made outcome_made
    writes_only c = go (table_verdict t) refl (eqb (length E % limit.event) 0) refl c
      where
        go : (v : Verdict) → table_verdict t ≡ v → (b : Bool) → eqb (length E % limit.event) 0 ≡ b
            → told (verdict_made v (listed b)) ≡ 0 → Writes t party name type n E X room
        go (wrong i) v b y c = absurd (omega arith)
        go right v false y c = absurd (not_listed c)
        go right v true y c =
            let m = zero-makes (words_of t) party name type n (words_of E) X room (length E / limit.event) (length X) c in
            let f = written-valid (words_of t) party name type n (words_of E) X room m.payload m.bits m.is in
            let h = f.valid in
            let w = h.bits in
            let size : length m.payload ≡ 1 + (length w + 7) / 8 = ap length f.bytes ∙ omega (arith, pack-length w) in
            let fits = f.fits in
            let used = f.bits-used in
            let small : bytes_for w ≤ most_payload = omega arith in
            let whole = (right-whole t v).0 in
            let words = words-length E in
            let P = payload_of f.mode w in
            let read : (e x : ℕ) → length E ≤ e → length X ≤ x → R P e x ≡ accepted f.mode h.tree (8 + length w) =
            λ e x a d. valid-read (words_of t) party name type f.mode (words_of E) X h small (e / 4) x (omega arith) d in
            let sum = bits-add-up (words_of t) party name type P (length E / 4) (length X) f.mode h.tree (8 + length w)
            (read (length E) (length X) (omega arith) (omega arith)) in
            record {
              mode = f.mode;
              mode_is_lem = f.mode_is_lem;
              valid = h;
              payload = m.payload;
              used = m.bits;
              size = omega arith;
              fits = omega arith;
              wrote_it = made_tells n E X room m.payload m.bits v (eqb-true (length E % limit.event) 0 y) m.is;
              counts = omega arith;
              reads = λ e x a d.
                  ap (λ (y : List ℕ). read_call t party name type y e x area_bytes) f.bytes ∙ call-tells P e x v
                  ∙ ap (tells e x) (read e x a d) ∙ tells-shown e x f.mode h.tree (8 + length w)
                  ∙ ap (shown e x f.mode h.tree) (sym used);
            }

-- no Blank among the kinds
no-blank : (L : List Event) (z : List ℕ) → NoBlankIn (bytes_of (event_words L) ++ z) (length L) → NoBlank L
unfolding spelled event_words
no-blank [] z h = tt
no-blank (a ∷ L) z h = (λ k. h 0 (omega arith) (omega (arith, k)), no-blank L z (λ i l k. h (suc i) (omega arith) (next i ∙ k)))
  where
    next : (i : ℕ) → word_from (bytes_of (event_words (a ∷ L)) ++ z) (limit.event * suc i) ≡ word_from (bytes_of (event_words L) ++ z) (limit.event * i)
    next i =
        let j : limit.event * suc i ≡ 16 + limit.event * i = omega arith in
        let first = bytes_of (a.kind ∷ a.p ∷ a.q ∷ a.bits ∷ []) in
        ap (λ (y : ℕ). word_from (bytes_of (event_words (a ∷ L)) ++ z) y) j
        ∙ word-past first (bytes_of (event_words L) ++ z) (limit.event * i)

pub two-buffers : {a b c d : List ℕ} → ◌≡◌ {A = List (List ℕ)} (a ∷ b ∷ []) (c ∷ d ∷ []) → (a ≡ c) × (b ≡ d)
two-buffers e = (cc, cc)

-- the events that stand in bytes: past the first event, and those of a list that was stored there
events-past : (a b : List ℕ) → length a ≡ limit.event → (i n : ℕ) → events_in (a ++ b) (i + 1) n ≡ events_in b i n
unfolding events_in
events-past a b l i zero = refl
events-past a b l i (suc n) =
    let past : (k j : ℕ) → k ≡ length a + j → word_from (a ++ b) k ≡ word_from b j
    = λ k j e. ap (λ (y : ℕ). word_from (a ++ b) y) e ∙ word-past a b j in
    let at = limit.event * i in
    let next = limit.event * (i + 1) in
    rw (past next at (omega arith), past (next + 4) (at + 4) (omega arith), past (next + 8) (at + 8) (omega arith), past (next + 12) (at + 12) (omega arith), events-past a b l (i + 1) n)

events-back : (L : List Event) (z : List ℕ) → events_in (bytes_of (event_words L) ++ z) 0 (length L) ≡ L
unfolding events_in spelled event_words
events-back [] z = refl
events-back (a ∷ L) z =
    ap₂ ◌∷◌ (λ i. record { kind = kind i; p = p i; q = q i; bits = bits i })
    (events-past (bytes_of (a.kind ∷ a.p ∷ a.q ∷ a.bits ∷ [])) (bytes_of (event_words L) ++ z) refl 0 (length L) ∙ events-back L z)
  where
    E : List ℕ
    E = bytes_of (event_words (a ∷ L)) ++ z

    kind : word_from E 0 ≡ a.kind
    kind = omega arith

    p : word_from E 4 ≡ a.p
    p = omega arith

    q : word_from E 8 ≡ a.q
    q = omega arith

    bits : word_from E 12 ≡ a.bits
    bits = omega arith

stored_back : (e : ℕ) (L : List Event) → events_in (filled e (bytes_of (event_words L))) 0 (length L) ≡ L
unfolding filled
stored_back e L = events-back L _

-- the flag's bits by the mode's number
pub flag-bit : (mode : Mode) → flag_bit (mode_number mode) ≡ flag_bits mode.lengths
unfolding flag_bit mode_number lengths_number
flag-bit mode = go mode.lengths mode.casting
  where
    go : (h : Lengths) (c : Bool) → flag_bit (mode_number (record { lengths = h; casting = c })) ≡ flag_bits h
    go Lengths.never true = refl
    go Lengths.never false = refl
    go Lengths.optional true = refl
    go Lengths.optional false = refl
    go Lengths.always true = refl
    go Lengths.always false = refl

module _ (t : List ℕ) (party name type : ℕ) (s A E T : List ℕ) (e x : ℕ) where
  -- what a host has in hand that has read s: mode, events and texts of the reading, as the area counts them
  pub record Handed : Type 0 where
    pub reads : Reads t party name type s e x
    pub mode_is_lem : word_from A mode_at ≡ mode_number reads.mode
    pub count : word_from A events_at ≡ length (events reads.tree)
    pub octets : word_from A text_at ≡ length (texts reads.tree)
    pub used : word_from A bits_at ≡ reads.used
    pub list : take (limit.event * word_from A events_at) E ≡ bytes_of (event_words (events reads.tree))
    pub text : take (word_from A text_at) T ≡ texts reads.tree
    pub whole : T ≡ filled x (texts reads.tree)
    pub in_list : events_in E 0 (word_from A events_at) ≡ events reads.tree
    pub plain : NoBlankIn E (word_from A events_at) → NoBlank (events reads.tree)

  pub handed : back 0 A (E ∷ T ∷ []) ≡ read_call t party name type s e x area_bytes → Handed
  unfolding filled
  handed c =
      let r = accepts_only t party name type s e x (sym (ap (λ (b : Back). b.number) c)) in
      let L = events r.tree in
      let d = c ∙ r.shows in
      let area = ap (λ (b : Back). b.area) d in
      let buffers = two-buffers (ap (λ (b : Back). b.buffers) d) in
      let shows = accepts r.mode (length L) (length (texts r.tree)) r.used in
      let f = area-fetches shows in
      let fetch : (i n : ℕ) → word_from (area_of shows) i ≡ n → word_from A i ≡ n
      = λ i n y. ap (λ (B : List ℕ). word_from B i) area ∙ y in
      let count = fetch events_at (length L) f.events in
      let octets = fetch text_at (length (texts r.tree)) f.text in
      let size : length (bytes_of (event_words L)) ≡ limit.event * word_from A events_at =
      omega (arith, bytes-length (event_words L), events-words L, count) in
      record {
        reads = r;
        mode_is_lem = fetch mode_at (mode_number r.mode) f.mode;
        count = count;
        octets = octets;
        used = fetch bits_at r.used f.bits;
        list = ap (take (limit.event * word_from A events_at)) buffers.0 ∙ take_at (bytes_of (event_words L)) _ (limit.event * word_from A events_at) size;
        text = ap (take (word_from A text_at)) buffers.1 ∙ take_at (texts r.tree) _ (word_from A text_at) (sym octets);
        whole = buffers.1;
        in_list = ap₂ (λ (B : List ℕ) (n : ℕ). events_in B 0 n) buffers.0 count ∙ events-back L _;
        plain = λ p. no-blank L _ (rw (buffers.0, count) at p);
      }

  -- a payload made of it, as the call tells that
  hand-written : (h : Handed) (room : ℕ) (payload : List ℕ) (used : ℕ)
      → writing (words_of t) party name type (mode_number h.reads.mode) (event_words (events h.reads.tree)) (texts h.reads.tree) room ≡ made payload used
      → write_call t party name type (word_from A mode_at) (take (limit.event * word_from A events_at) E) (take (word_from A text_at) T) room area_bytes
      ≡ wrote room (word_from A mode_at) (word_from A events_at) (word_from A text_at) used payload
  hand-written h room payload used w =
      let r = h.reads in
      let tree = r.tree in
      let L = event_words (events tree) in
      let a = bytes-length L in
      let b = events-words (events tree) in
      let i : length (bytes_of L) % limit.event ≡ 0 = omega arith in
      let j : length (bytes_of L) / limit.event ≡ length (events tree) = omega arith in
      let v = whole-right t r.reading.whole r.reading.is.enters.table_right in
      rw (h.list, h.text, h.mode_is_lem, h.count, h.octets)
      (made_tells t party name type (mode_number r.mode) (bytes_of L) (texts tree) room payload used v i (rw (words-bytes L) w)
      ∙ ap (λ (c : ℕ). wrote room (mode_number r.mode) c (length (texts tree)) used payload) j)

pub writes-back : (t : List ℕ) (party name type : ℕ) (s A E T : List ℕ) (e x room : ℕ)
    → back 0 A (E ∷ T ∷ []) ≡ read_call t party name type s e x area_bytes → AllBytes s → NoBlankIn E (word_from A events_at)
    → ShortestIn (word_from A mode_at) E (word_from A events_at) → length s ≤ room
    → write_call t party name type (word_from A mode_at) (take (limit.event * word_from A events_at) E) (take (word_from A text_at) T) room area_bytes
    ≡ wrote room (word_from A mode_at) (word_from A events_at) (word_from A text_at) (word_from A bits_at) s
writes-back t party name type s A E T e x room c o p short k =
    let h = handed t party name type s A E T e x c in
    let r = h.reads in
    let flag = ap flag_bit h.mode_is_lem ∙ flag-bit r.mode in
    let z = rw (h.in_list, flag) at short in
    let w = read-write (words_of t) party name type s (e / 4) x room r.mode r.tree r.used o (is-accepted t party name type s e x r.reading) (h.plain p) z k in
    hand-written t party name type s A E T e x h room s r.used w ∙ ap (λ (u : ℕ). wrote room (word_from A mode_at) (word_from A events_at) (word_from A text_at) u s) (sym h.used)

pub rewrites : (t : List ℕ) (party name type : ℕ) (s A E T : List ℕ) (e x room : ℕ)
    → back 0 A (E ∷ T ∷ []) ≡ read_call t party name type s e x area_bytes → NoBlankIn E (word_from A events_at) → length s ≤ room
    → Rewrites t party name type s A E T e x room
rewrites t party name type s A E T e x room c p k =
    let h = handed t party name type s A E T e x c in
    let r = h.reads in
    let w = read-rewritten (words_of t) party name type s (e / 4) x room r.mode r.tree r.used (is-accepted t party name type s e x r.reading) (h.plain p) k in
    let v = whole-right t r.reading.whole r.reading.is.enters.table_right in
    let L = events w.tree in
    let count : length L ≡ length (events r.tree) = sym (length-map L bare) ∙ ap length w.list ∙ length-map (events r.tree) bare in
    let same_count : word_from A events_at ≡ length L = h.count ∙ sym count in
    let f = area-fetches (accepts r.mode (length L) (length (texts w.tree)) w.bits) in
    record {
      payload = w.payload;
      used = w.bits;
      size = w.size;
      shorter = w.shorter;
      fewer = rw h.used w.fewer;
      wrote_it = hand-written t party name type s A E T e x h room w.payload w.bits w.writes;
      area = area_of (accepts r.mode (length L) (length (texts w.tree)) w.bits);
      list = filled e (bytes_of (event_words L));
      reads =
          call-tells t party name type w.payload e x v ∙ ap (tells e x) w.reads ∙ tells-shown e x r.mode w.tree w.bits
          ∙ ap (λ (X : List ℕ). back 0 (area_of (accepts r.mode (length L) (length (texts w.tree)) w.bits)) (filled e (bytes_of (event_words L)) ∷ X ∷ []))
          (ap (filled x) w.text ∙ sym h.whole);
      mode = f.mode ∙ sym h.mode_is_lem;
      count = f.events ∙ sym same_count;
      text = f.text ∙ ap length w.text ∙ sym h.octets;
      bits = f.bits;
      same =
          ap (λ (n : ℕ). map bare (events_in (filled e (bytes_of (event_words L))) 0 n)) same_count ∙ ap (map bare) (stored_back e L) ∙ w.list
          ∙ sym (ap (map bare) h.in_list);
    }
