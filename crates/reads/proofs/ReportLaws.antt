-- A report that a payload's reading is added to: what the reader's answer and list are to it.
use Prim.Native.Nat.{ℕ, zero, suc, ◌+◌, ◌*◌, ◌/◌, ◌≤◌}
use mathlib.Core.Path.{◌≡◌, refl, sym, ap, ◌∙◌}
use mathlib.Core.List.{List, [], ◌∷◌, ◌++◌, append_assoc}
use native.Mathlib.Omega.{arith}
use lib.ListN.{length, get_or, take, drop, length-append}
use lib.Seq.{get_or-append-add, get_or-take, length-take-le}
use Rattle.numbers.specs.Limit.{most_events, most_event_words, most_payload}
use Rattle.model.specs.Model.{Event, events}
use Rattle.model.specs.Whole.{Reply, Outcome, reading, outcome, event_words, events_left, filled}
use Rattle.model.specs.Whole.Reply.{accepted, declined}
use Rattle.reader.specs.Answers.{Answer, answer_is, Replies}
use Rattle.theorems.proofs.Reader.{reading-sound, list-fits}
use Rattle.theorems.proofs.NamedReading.{zero-accepts}
use Rattle.buffers.specs.Bytes.{words_of}
use Rattle.report.specs.Eights.{bytes_of}
use Rattle.report.specs.Report.{adds, added}
use Rattle.report.specs.Sums.{numbers_in, events_in, event_in}
use Rattle.call_parts.specs.TableRoom.{Lends}
use Rattle.reads.specs.Reports.{read_for_report, AddedBy, ReadLent}
use Rattle.reads.proofs.ReadLaws.{lent_same}
use Rattle.call_parts.proofs.TableLaws.{Told, seen, lent-tell}

-- the words of events are those events
events-from : (p : List ℕ) (L : List Event) (z : List ℕ) (i : ℕ) → length p ≡ 4 * i → events_in (p ++ (event_words L ++ z)) i (length L) ≡ L
unfolding events_in event_words
events-from p [] z i h = refl
events-from p (e ∷ L) z i h =
    let w = p ++ (e.kind ∷ e.p ∷ e.q ∷ e.bits ∷ (event_words L ++ z)) in
    let a = get_or-append-add p (e.kind ∷ e.p ∷ e.q ∷ e.bits ∷ (event_words L ++ z)) in
    let k₀ : get_or w (4 * i) 0 ≡ e.kind = ap (λ (j : ℕ). get_or w j 0) (omega arith) ∙ a 0 0 in
    let k₁ : get_or w (4 * i + 1) 0 ≡ e.p = ap (λ (j : ℕ). get_or w j 0) (omega arith) ∙ a 1 0 in
    let k₂ : get_or w (4 * i + 2) 0 ≡ e.q = ap (λ (j : ℕ). get_or w j 0) (omega arith) ∙ a 2 0 in
    let k₃ : get_or w (4 * i + 3) 0 ≡ e.bits = ap (λ (j : ℕ). get_or w j 0) (omega arith) ∙ a 3 0 in
    let one : event_in w i ≡ e = λ j. record { kind = k₀ j; p = k₁ j; q = k₂ j; bits = k₃ j } in
    let q = p ++ (e.kind ∷ e.p ∷ e.q ∷ e.bits ∷ []) in
    let m : w ≡ q ++ (event_words L ++ z) = simp append_assoc in
    let n : length q ≡ 4 * (i + 1) = simp length-append (omega arith) in
    let rest : events_in w (i + 1) (length L) ≡ L = ap (λ (x : List ℕ). events_in x (i + 1) (length L)) m ∙ events-from q L z (i + 1) n in
    ap (λ (x : Event). x ∷ events_in w (i + 1) (length L)) one ∙ ap (λ (x : List Event). e ∷ x) rest

-- the events of the words that are cut off
events-cut : (w : List ℕ) (i n m : ℕ) → i + n ≤ m → events_in (take (4 * m) w) i n ≡ events_in w i n
unfolding events_in
events-cut w i zero m h = refl
events-cut w i (suc n) m h =
    let a = get_or-take (4 * m) w (4 * i) 0 (omega arith) in
    let b = get_or-take (4 * m) w (4 * i + 1) 0 (omega arith) in
    let c = get_or-take (4 * m) w (4 * i + 2) 0 (omega arith) in
    let d = get_or-take (4 * m) w (4 * i + 3) 0 (omega arith) in
    rw (a, b, c, d, events-cut w (i + 1) n m (omega arith))

pub cut-count : (w : List ℕ) (n : ℕ) → 4 * n ≤ length w → length (take (4 * n) w) / 4 ≡ n
cut-count w n h = let e = length-take-le (4 * n) w h in omega arith

pub cut-events : (w : List ℕ) (n : ℕ) → 4 * n ≤ length w → events_in (take (4 * n) w) 0 (length (take (4 * n) w) / 4) ≡ events_in w 0 n
cut-events w n h = ap (λ (k : ℕ). events_in (take (4 * n) w) 0 k) (cut-count w n h) ∙ events-cut w 0 n n (omega arith)

-- what the reader answered is enough to be added
pub record Ready (s : List ℕ) (r : Answer) : Type 0 where
  pub whole : 4 * (answer_is r).events ≤ most_event_words
  pub few : (answer_is r).events ≤ most_events
  pub used : (answer_is r).bits ≤ 8 * length s
  pub most : (answer_is r).number ≡ 0 → length s ≤ most_payload

module _ (l : List ℕ) (party name type : ℕ) (s : List ℕ) (r : Answer) (E T : List ℕ) (h : Replies (reading l party name type s most_event_words most_payload) most_event_words most_payload r E T) where
  pub ready : Ready s r
  unfolding outcome
  ready = go (reading l party name type s most_event_words most_payload) refl h.answer
    where
      go : (R : Reply) → reading l party name type s most_event_words most_payload ≡ R → answer_is r ≡ outcome R → Ready s r
      go (accepted mode ns q) e a =
          let f = list-fits l party name type s most_event_words most_payload mode ns q e in
          let b : (answer_is r).events ≡ length (events ns) = ap (λ (o : Outcome). o.events) a in
          let c : (answer_is r).bits ≡ q = ap (λ (o : Outcome). o.bits) a in
          let w = f.words-suffice in let v = f.few in let u = f.payload-suffices in
          let t = (reading-sound l party name type s most_event_words most_payload mode ns q e).is.mode-byte.few in
          record { whole = omega arith; few = omega arith; used = omega arith; most = λ z. t }
      go (declined n p π) e a =
          let b : (answer_is r).events ≡ 0 = ap (λ (o : Outcome). o.events) a in
          let c : (answer_is r).bits ≡ 0 = ap (λ (o : Outcome). o.bits) a in
          record { whole = omega arith; few = omega arith; used = omega arith; most = λ z. absurd (numbered n p π e (sym z ∙ ap (λ (o : Outcome). o.number) a)) }
        where
          numbered : (n p : ℕ) (π : List ℕ) → reading l party name type s most_event_words most_payload ≡ declined n p π → 0 ≡ n → ⊥
          numbered n p π e z =
              let y = (zero-accepts l party name type s most_event_words most_payload (ap (λ (x : Reply). (outcome x).number) e ∙ sym z)).is in
              let x : ◌≡◌ {A = ℕ} 0 1 = cc in omega arith

  pub words-added : (B B' : List ℕ) (bits : ℕ) → bits ≡ (answer_is r).bits → B' ≡ bytes_of (adds (answer_is r).number (length s) bits (events_in E 0 (answer_is r).events) (numbers_in B))
      → AddedBy (reading l party name type s most_event_words most_payload) (length s) B (answer_is r).number B'
  unfolding outcome added events_left filled events_in
  words-added B B' bits k f =
      record { number = ap (λ (o : Outcome). o.number) h.answer; report = f ∙ ap bytes_of (ap (λ (x : ℕ). adds (answer_is r).number (length s) x (events_in E 0 (answer_is r).events) (numbers_in B)) k ∙ go (reading l party name type s most_event_words most_payload) h.answer h.events_left_lem) }
    where
      go : (R : Reply) → answer_is r ≡ outcome R → E ≡ events_left most_event_words R → adds (answer_is r).number (length s) (answer_is r).bits (events_in E 0 (answer_is r).events) (numbers_in B) ≡ added (length s) R (numbers_in B)
      go (accepted mode ns q) a b =
          let n : (answer_is r).number ≡ 0 = ap (λ (o : Outcome). o.number) a in
          let c : (answer_is r).events ≡ length (events ns) = ap (λ (o : Outcome). o.events) a in
          let d : (answer_is r).bits ≡ q = ap (λ (o : Outcome). o.bits) a in
          rw (n, c, d, b) (ap (λ (L : List Event). adds 0 (length s) q L (numbers_in B)) (events-from [] (events ns) _ 0 refl))
      go (declined m p π) a b =
          let n : (answer_is r).number ≡ m = ap (λ (o : Outcome). o.number) a in
          let c : (answer_is r).events ≡ 0 = ap (λ (o : Outcome). o.events) a in
          let d : (answer_is r).bits ≡ 0 = ap (λ (o : Outcome). o.bits) a in
          rw (n, c, d)

-- in rooms of that size
module _ (l : List ℕ) (party name type : ℕ) (s : List ℕ) (r : Answer) (E T : List ℕ) (W X : ℕ) (w : W ≡ most_event_words) (x : X ≡ most_payload)
    (h : Replies (reading l party name type s W X) W X r E T) where
  in-room : Replies (reading l party name type s most_event_words most_payload) most_event_words most_payload r E T
  in-room = rw (w, x) at h

  pub ready-in : Ready s r
  ready-in = ready l party name type s r E T in-room

  pub ready-whole : (n : ℕ) → n ≡ most_event_words → 4 * (answer_is r).events ≤ n
  ready-whole n e = let y = ready-in.whole in omega arith

  pub ready-few : (answer_is r).events ≤ most_events
  ready-few = ready-in.few

  pub ready-used : (bits : ℕ) → bits ≡ (answer_is r).bits → bits ≤ 8 * length s
  ready-used bits e = let y = ready-in.used in omega arith

  pub ready-most : (answer_is r).number ≡ 0 → length s ≤ most_payload
  ready-most = ready-in.most

  pub words-added-in : (B B' : List ℕ) (bits : ℕ) → bits ≡ (answer_is r).bits → B' ≡ bytes_of (adds (answer_is r).number (length s) bits (events_in E 0 (answer_is r).events) (numbers_in B))
      → AddedBy (reading l party name type s most_event_words most_payload) (length s) B (answer_is r).number B'
  words-added-in B B' bits k f = words-added l party name type s r E T in-room B B' bits k f

pub ruleset ready-ways = (ready-whole, ready-few, ready-used, ready-most)

-- by the table's bytes
pub bytes-added : (t : List ℕ) (party name type : ℕ) (s : List ℕ) (k : ℕ) (w B : List ℕ) (r : ℕ) (B' : List ℕ) → Told t k → w ≡ take k (words_of t)
    → AddedBy (reading w party name type s most_event_words most_payload) (length s) B r B' → AddedBy (read_for_report t party name type s) (length s) B r B'
unfolding outcome added
bytes-added t party name type s k w B r B' told e a =
    let a' = rw e at a in
    record {
      number = a'.number ∙ sym (lent_same t party name type s 32768 8192 k (λ (x : Reply). (outcome x).number) (λ i j. refl) told);
      report = a'.report ∙ ap bytes_of (sym (lent_same t party name type s 32768 8192 k (λ (x : Reply). added (length s) x (numbers_in B)) (λ i j. refl) told));
    }

-- n, bits and e are what was read, as it was added
pub lent-added : (t : List ℕ) (k room party name type : ℕ) (s : List ℕ) (r : Answer) (E T : List ℕ) (W X : ℕ) (w : W ≡ most_event_words) (x : X ≡ most_payload) (fit : length E ≡ most_event_words) (B B' : List ℕ) (n bits : ℕ) (e : List ℕ)
    → Lends k (length t) room → ReadLent t k party name type s W X r E T → n ≡ (answer_is r).number → bits ≡ (answer_is r).bits → e ≡ take (4 * (answer_is r).events) E
    → B' ≡ bytes_of (adds n (length s) bits (events_in e 0 (length e / 4)) (numbers_in B)) → AddedBy (read_for_report t party name type s) (length s) B n B'
lent-added t k room party name type s r E T W X w x fit B B' n bits e l h a b c f =
    let l' = take k (words_of t) in
    let g = cut-events E (answer_is r).events (ready-whole l' party name type s r E T W X w x h (length E) fit) in
    rw a (bytes-added t party name type s k l' B (answer_is r).number B' (lent-tell t k room l) refl (words-added-in l' party name type s r E T W X w x h B B' bits b (rw (a, c, g) at f)))

-- the words that were loaded are those of the table
pub words-read : (t room words : List ℕ) (party name type : ℕ) (s : List ℕ) (k W X : ℕ) (r : Answer) (E T : List ℕ) → Lends k (length t) (length room) → words ≡ take k (words_of t) ++ drop k room
    → Replies (reading (take k words) party name type s W X) W X r E T → ReadLent t k party name type s W X r E T
words-read t room words party name type s k W X r E T l e h = rw (seen t room words k l e).front at h
