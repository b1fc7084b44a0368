-- The ways through the entry: each answer that a reading can come to, as the code comes to it.
use Prim.Native.Nat.{ℕ, ◌-◌, ◌*◌, ◌/◌, ◌<◌, ◌≤◌, min}
use mathlib.Core.Path.{◌≡◌, refl, sym, ap, ◌∙◌, subst}
use mathlib.Core.List.{List, []}
use mathlib.Core.Bool.{Bool, true, false}
use native.Mathlib.Omega.{arith}
use lib.ListN.{length, replicate, length-replicate}
use lib.Seq.{sets}
use Rattle.std.specs.Prelude.{Ok, Err}
use Rattle.numbers.specs.Refusal as refusal
use Rattle.numbers.specs.Refusal.{payload_size, left_over}
use Rattle.numbers.specs.Refused.{number_of}
use Rattle.numbers.specs.declared.refusal.Refusal.{Refusal}
use Rattle.numbers.specs.declared.refusal.Fault.{Fault}
use Rattle.numbers.specs.Limit.{most_events, most_name, most_open, most_payload, most_text, parties}
use Rattle.wire.specs.Bits.{bit_at}
use Rattle.wire.proofs.BitLaws.{bit-lt}
use Rattle.wire.specs.Res.{got, Ensures}
use Rattle.wire.proofs.Res.{under}
use Rattle.wire.specs.declared.Bits.{Bits}
use Rattle.table.specs.First.Verdict.{right}
use Rattle.table.specs.Valid.{verdict}
use Rattle.table.specs.Words.{types_in}
use Rattle.table.specs.Rows.{table_of, held_of}
use Rattle.table.specs.Views.{Checked, verdict_is}
use Rattle.model.proofs.Join.{after-done}
use Rattle.table.specs.declared.answers.Flaw.{Flaw}
use Rattle.model.specs.Model.{Nodes, Answer, events, texts, tree_slots, tree_bytes}
use Rattle.model.specs.Model.Answer.{given}
use Rattle.model.specs.Read as model
use Rattle.model.proofs.Fit.{read_fits}
use Rattle.model.proofs.Trees.{slots_length, bytes-length}
use Rattle.model.specs.Whole as whole
use Rattle.model.specs.Whole.{mode_number, mode_of, padding, Reply, accepted, declined, declines, event_words, events_left, texts_left, reading}
use Rattle.model.specs.Entries.{Entered, plan_of}
use Rattle.model.proofs.Entries.{words-length}
use Rattle.model.proofs.EntryWays.{reading-table, reading-type, reading-name, reading-party, reading-mode, reading-refused, reading-left, reading-given}
use Rattle.model.proofs.Buffers.{filled-sets}
use Rattle.reader_parts.proofs.Bytes.{bytes-few}
use Rattle.model.specs.Items as items
use Rattle.model.specs.Model.{table_in}
use Rattle.model.specs.Modes.{lengths_is, mode_is, Choosing, no_row, row_choices}
use Rattle.model.specs.declared.Mode.{Mode}
use Rattle.model.proofs.ModeLaws.{types-only}
use Rattle.model.proofs.Steps.{root-element}
use Rattle.reader_parts.proofs.Laws.{Went, did-go, did-stop}
use Rattle.reader_parts.specs.Out.{room_of, outcome}
use Rattle.reader_parts.specs.Paths.{back, names_of}
use Rattle.reader_parts.specs.declared.Cursor.{Cursor}
use Rattle.reader_parts.specs.declared.Path.{Path}
use Rattle.reader.specs.Answers as reply
use Rattle.reader.specs.Answers.{path_is, answer_is, Replies, told}
use Rattle.reader.proofs.Answers.{path-outward, declined-replies}
use Rattle.reader.specs.Front.{Found, found_is, Chooses, Finds}
use Rattle.reader.specs.RefusalPath.{Walk, view}
use Rattle.reader.specs.declared.refusal_path.Halt.TheVariants.{Untold, Told}
use Rattle.reader.specs.Meaning.{ReadyFor, KnownRows, Walks, row_for, inside·, element·, row·, list·}
use Rattle.reader.specs.Cleared.{Zeros}

pub zeros-cleared : (l m : List ℕ) → m ≡ replicate (length l) 0 → Zeros m
zeros-cleared l m e = e ∙ ap (λ (n : ℕ). replicate n 0) (sym (length-replicate (length l) 0) ∙ sym (ap length e))

-- what the root asks
module _ (t s : List ℕ) (party name ty : ℕ) (mode : Mode) (h : Entered t party name ty) (k : Choosing t mode.choices) where
  pub root-ready : (path : Path) (wall : ℕ) → mode.party ≡ party → path.count ≡ 0 → wall ≡ 8 * length s → ReadyFor t s mode wall path.count most_open
  root-ready path wall p z e = record { valid = h.table_right; choosing = k; party_known = omega (arith, h.party_known); walls = omega arith; places = omega arith }

  -- the root's row
  pub root-known : KnownRows t name ty no_row 0 1
  unfolding table_of KnownRows row_for
  root-known = ((h.name-small, h.type_known, λ f. absurd (f refl)), (λ f. absurd (f refl)), omega arith, tt)

pub root-type : (t : List ℕ) (party name ty : ℕ) → Entered t party name ty → ty < types_in t
unfolding table_of
root-type t party name ty h = h.type_known

short : (n : ℕ) (s : List ℕ) → Ensures (mode_of n s) (λ m. length s ≤ most_payload)
unfolding mode_of
short n s = under payload_size λ h. under payload_size λ k. record { says = λ m e. k }

pub payload-short : (n : ℕ) (s : List ℕ) (mode : items.Mode) → mode_of n s ≡ got mode → length s ≤ most_payload
payload-short n s mode e = (short n s).says mode e

module _ (t s : List ℕ) (party name ty : ℕ) (mode : Mode) (h : Entered t party name ty) (own : mode.party ≡ party) (m : mode_of (table_of t).derivations s ≡ got (mode_is mode)) (E T : List ℕ) (z_e : Zeros E) (z_t : Zeros T)
    (c : Cursor) (c8 : c.at.0 ≡ 8) (c0 : c.count ≡ 0) (u0 : c.used ≡ 0) (path : Path) (z : path.count ≡ 0) (wall : ℕ) (x : wall ≡ 8 * length s)
    (w : Walk) (N E₁ T₁ : List ℕ) (k : Walks (list· t s mode name ty most_open no_row 0 1) wall c (names_of path) E T w N E₁ T₁) where
  abbrev room : model.Room
  room = whole.room_of (length E) (length T)

  abbrev R : Reply
  R = reading t party name ty s (length E) (length T)

  abbrev Ans : Answer
  Ans = model.read (bit_at s) (lengths_is mode.lengths) (held_of t party) (plan_of t name ty mode.choices.derived) room [] (8 * length s) 8

  -- the root has nothing to choose from
  root-read : list· t s mode name ty most_open no_row 0 1 room [] (8 * length s) 8 ≡ Ans
  unfolding list· row_for row· element· inside·
  root-read =
      after-done room _
      ∙ rw (types-only t (row_choices mode.choices no_row) refl refl ty no_row)
      (sym (root-element (bit_at s) (lengths_is mode.lengths) (held_of t mode.party) (table_in mode.choices.derived (table_of t)) room [] (8 * length s) 8 name ty))
      ∙ ap (λ (p : ℕ). model.read (bit_at s) (lengths_is mode.lengths) (held_of t p) (plan_of t name ty mode.choices.derived) room [] (8 * length s) 8) own

  no_names : names_of path ≡ []
  unfolding names_of back
  no_names = rw z

  room-is : room_of E T c ≡ room
  room-is =
      let a : min (length E / 4) most_events - c.count ≡ min (length E / 4) most_events = omega arith in
      let b : length T - c.used ≡ length T = omega arith in
      λ i. record { slots = a i; bytes = b i }

  root-says : view w [] N E₁ T₁ ≡ outcome Ans c [] E T
  root-says =
      (λ i. view w (sym no_names i) N E₁ T₁)
      ∙ k
      ∙ (λ i. outcome (list· t s mode name ty most_open no_row 0 1 (room-is i) (no_names i) (x i) (c8 i)) c (no_names i) E T)
      ∙ ap (λ (a : Answer). outcome a c [] E T) root-read

  went_on : (d : Cursor) → w ≡ Ok d → Went Ans c [] E T d [] E₁ T₁
  went_on d g = did-go (Ok d) [] E₁ T₁ Ans c [] E T (rw g at root-says) d refl

  fits : (ns : Nodes) (q : ℕ) → Ans ≡ given ns q → (tree_slots ns ≤ room.slots) × (tree_bytes ns ≤ room.bytes)
  fits ns q e = rw e at (read_fits (bit_at s) (lengths_is mode.lengths) (held_of t party) (plan_of t name ty mode.choices.derived) room [] (8 * length s) 8)

  few : (ns : Nodes) (q : ℕ) → Ans ≡ given ns q → tree_bytes ns ≤ most_text * tree_slots ns
  few ns q e = bytes-few (bit_at s) (bit-lt s) (lengths_is mode.lengths) (held_of t party) (plan_of t name ty mode.choices.derived) room [] (8 * length s) 8 ns q e

  -- the bytes used fit a word
  pub root-used : (d : Cursor) → w ≡ Ok d → d.used < 4294967296
  root-used d g =
      let v = went_on d g in
      let a = few v.nodes d.at.0 v.gave in
      let b = fits v.nodes d.at.0 v.gave in
      omega (arith, v.moved.used)

  -- accepted
  pub root-given : (d : Cursor) (ok : Bool) (r : reply.Answer) → w ≡ Ok d → ok ≡ padding s d.at.0 → ok ≡ true → answer_is r ≡ told mode d
      → Replies R (length E) (length T) r E₁ T₁
  unfolding whole.outcome events_left texts_left
  root-given d ok r g e f a =
      let v = went_on d g in
      let ns : Nodes = v.nodes in
      let is : R ≡ accepted (mode_is mode) ns d.at.0 =
      reading-given t party name ty s (length E) (length T) h (mode_is mode) m Ans refl ns d.at.0 v.gave (sym e ∙ f) in
      let b = fits ns d.at.0 v.gave in
      let counted : d.count ≡ length (events ns) = omega (arith, v.moved.count, slots_length ns) in
      let used : d.used ≡ length (texts ns) = omega (arith, v.moved.used, bytes-length ns) in
      let first : 4 * c.count ≡ 0 = omega arith in
      rw is
      (record {
        answer = a ∙ (λ i. record { number = 0; place = 0; mode = mode_number (mode_is mode); events = counted i; text = used i; bits = d.at.0; path = [] });
        events_left_lem =
            v.events_are ∙ (λ i. sets (z_e i) (first i) (event_words (events ns))) ∙ filled-sets (length E) (event_words (events ns)) (omega (arith, words-length (events ns), slots_length ns));
        texts_left_lem = v.texts_are ∙ (λ i. sets (z_t i) (u0 i) (texts ns)) ∙ filled-sets (length T) (texts ns) (omega (arith, bytes-length ns));
      })

  -- refused, and both buffers cleared again
  module _ (same-E : length E₁ ≡ length E) (same-T : length T₁ ≡ length T) (E₂ T₂ : List ℕ) (y : E₂ ≡ replicate (length E₁) 0) (y' : T₂ ≡ replicate (length T₁) 0) where
    cleared : (r : reply.Answer) (n p : ℕ) (π : List ℕ) → R ≡ declined n p π → answer_is r ≡ declines n p π → Replies R (length E) (length T) r E₂ T₂
    cleared r n p π e a =
        declined-replies R (length E) (length T) n p π r E₂ T₂ e a (y ∙ ap (λ (i : ℕ). replicate i 0) same-E) (y' ∙ ap (λ (i : ℕ). replicate i 0) same-T)

    pub root-refused : (e : Fault Bits) (r : reply.Answer) → w ≡ Err (Untold e) → answer_is r ≡ declines (number_of e.why) e.at.0 [] → Replies R (length E) (length T) r E₂ T₂
    root-refused e r g a =
        cleared r (number_of e.why) e.at.0 []
        (reading-refused t party name ty s (length E) (length T) h (mode_is mode) m Ans refl (number_of e.why) e.at.0 [] (did-stop (Err e) [] E₁ T₁ Ans c [] E T (rw g at root-says) e refl))
        a

    pub root_told : (e : Fault Bits) (count : ℕ) → w ≡ Err (Told e count)
        → Replies R (length E) (length T) (Err record { fault = record { why = e.why; at = e.at.0 }; path = record { names = N; count = count } }) E₂ T₂
    unfolding names_of
    root_told e count g =
        let p : Path = record { names = N; count = count } in
        cleared _ (number_of e.why) e.at.0 (path_is p)
        (reading-refused t party name ty s (length E) (length T) h (mode_is mode) m Ans refl (number_of e.why) e.at.0 (back N count)
        (did-stop (Err e) (back N count) E₁ T₁ Ans c [] E T (rw g at root-says) e refl)
        ∙ ap (λ (π : List ℕ). declined (number_of e.why) e.at.0 π) (path-outward p)) refl

    pub root-left : (d : Cursor) (ok : Bool) (r : reply.Answer) → w ≡ Ok d → ok ≡ padding s d.at.0 → ok ≡ false → answer_is r ≡ declines left_over d.at.0 []
        → Replies R (length E) (length T) r E₂ T₂
    root-left d ok r g e f a =
        let v = went_on d g in
        cleared r left_over d.at.0 []
        (reading-left t party name ty s (length E) (length T) h (mode_is mode) m Ans refl v.nodes d.at.0 v.gave (sym e ∙ f))
        a

pub ruleset root-ways = (root-ready, root-known, root-type, payload-short, root-used, root-given, root-refused, root_told, root-left)

-- what is known where the table is right, and where the mode is found
pub verdict-right : (t : List ℕ) (v : Checked) (u : Unit) → verdict_is v ≡ verdict t → v ≡ Ok u → verdict t ≡ right
verdict-right t v u e f = sym e ∙ rw f

pub mode-found : (t : List ℕ) (party : ℕ) (s : List ℕ) (f : Found) (mode : Mode) → Finds t party s f → f ≡ Ok mode → mode_of (table_of t).derivations s ≡ got (mode_is mode)
unfolding found_is
mode-found t party s f mode e i = sym e.says ∙ rw i

pub mode-choosing : (t : List ℕ) (party : ℕ) (s : List ℕ) (f : Found) (mode : Mode) → Finds t party s f → f ≡ Ok mode → Choosing t mode.choices
mode-choosing t party s f mode e i = (subst (λ (x : Found). Chooses t party x) i e.choosing).0

pub mode-party : (t : List ℕ) (party : ℕ) (s : List ℕ) (f : Found) (mode : Mode) → Finds t party s f → f ≡ Ok mode → mode.party ≡ party
mode-party t party s f mode e i = (subst (λ (x : Found). Chooses t party x) i e.choosing).1

-- before the root: table, root, payload size and mode byte in this order, into buffers of zeros
module _ (t s : List ℕ) (party name ty : ℕ) (E T : List ℕ) where
  abbrev Answers : reply.Answer → List ℕ → List ℕ → Type 0
  Answers r E' T' = Replies (reading t party name ty s (length E) (length T)) (length E) (length T) r E' T'

  pub entry-table : (v : Checked) (f : Flaw) (r : reply.Answer) (E' T' : List ℕ) → verdict_is v ≡ verdict t → v ≡ Err f
      → answer_is r ≡ declines refusal.table f.0 [] → E' ≡ replicate (length E) 0 → T' ≡ replicate (length T) 0 → Answers r E' T'
  entry-table v f r E' T' e g a y y' =
      declined-replies _ (length E) (length T) refusal.table f.0 [] r E' T' (reading-table t party name ty s (length E) (length T) f.0 (sym e ∙ rw g)) a y y'

  pub entry-right : (r : reply.Answer) (E₁ T₁ E' T' : List ℕ) → E₁ ≡ replicate (length E) 0 → T₁ ≡ replicate (length T) 0
      → Replies (reading t party name ty s (length E₁) (length T₁)) (length E₁) (length T₁) r E' T' → Answers r E' T'
  entry-right r E₁ T₁ E' T' y y' h =
      let a : length E₁ ≡ length E = ap length y ∙ length-replicate (length E) 0 in
      let b : length T₁ ≡ length T = ap length y' ∙ length-replicate (length T) 0 in
      rw (a, b) at h

  pub entry_known : verdict t ≡ right → (types : ℕ) → types ≡ (table_of t).types → ty < types → name ≤ most_name → party < parties → Entered t party name ty
  entry_known k types q g l p = record { table_right = k; type_known = omega arith; name-small = l; party_known = p }

  module _ (k : verdict t ≡ right) (z_e : Zeros E) (z_t : Zeros T) (types : ℕ) (q : types ≡ (table_of t).types) (r : reply.Answer) where
    early : (n : ℕ) → answer_is r ≡ declines n 0 [] → reading t party name ty s (length E) (length T) ≡ declined n 0 [] → Answers r E T
    early n a e = declined-replies _ (length E) (length T) n 0 [] r E T e a z_e z_t

    pub entry-type : types ≤ ty → answer_is r ≡ declines refusal.root 0 [] → Answers r E T
    entry-type g a = early refusal.root a (reading-type t party name ty s (length E) (length T) k (omega arith))

    module _ (g : ty < types) where
      pub entry-name : most_name < name → answer_is r ≡ declines refusal.root 0 [] → Answers r E T
      entry-name l a = early refusal.root a (reading-name t party name ty s (length E) (length T) k (omega arith) l)

      module _ (l : name ≤ most_name) where
        pub entry-party : parties ≤ party → answer_is r ≡ declines refusal.party 0 [] → Answers r E T
        entry-party i a = early refusal.party a (reading-party t party name ty s (length E) (length T) k (omega arith) l (omega arith))

        module _ (p : party < parties) (f : Found) (e : Finds t party s f) where
          pub entry-mode : (n : Refusal) → f ≡ Err n → answer_is r ≡ declines (number_of n) 0 [] → Answers r E T
          unfolding found_is
          entry-mode n i a =
              early (number_of n) a (reading-mode t party name ty s (length E) (length T) (entry_known k types q g l p) (number_of n) (sym e.says ∙ rw i))

pub ruleset entry_ways = (zeros-cleared, entry-table, entry-right, entry-type, entry-name, entry-party, entry_known, entry-mode, verdict-right, mode-found, mode-choosing, mode-party)
