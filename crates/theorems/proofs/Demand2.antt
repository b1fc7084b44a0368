-- DEMAND 2, of the entries, over words and bytes. The writer turns a valid list into bytes which, given room, read back as that list with true
-- bit counts; bytes read without blanks are written back, where room allows: identically where every TheLength is shortest, else as no more bytes that
-- read as the same mode, texts and events but for their bits. What is valid the grammar says.
use Prim.Native.Nat.{ℕ, ◌+◌, ◌/◌, ◌<◌, ◌≤◌, ◌^◌, min}
use mathlib.Core.Path.{◌≡◌, refl, sym, ap, ◌∙◌}
use mathlib.Core.Bool.{true}
use mathlib.Core.List.{List, [], map}
use native.Mathlib.Omega.{arith}
use lib.ListN.{length, length-map}
use Rattle.table.specs.Rows.{table_of, held_of}
use Rattle.value.specs.Simple.{AllBytes}
use Rattle.model.specs.Model.{Nodes, events, texts, tree_slots, tree_bytes}
use Rattle.model.specs.Items.{Mode}
use Rattle.model.specs.Trees.{total}
use Rattle.model.proofs.Trees.{slots_length, bytes-length, bits-total}
use Rattle.model.specs.Grammar.{Is}
use Rattle.model.specs.Write.{bare, Out, write}
use Rattle.model.specs.Plain.{NoBlank}
use Rattle.model.proofs.Plain.{list-plain, plain-list}
use Rattle.theorems.specs.Shortest.{flag_bits, AllShortest}
use Rattle.theorems.proofs.Lists.{lists-all, spells-all, bare-none, none_bare}
use Rattle.model.proofs.Leaves.{is-leaves}
use Rattle.theorems.proofs.Shortest.{list-tight, tight-list}
use Rattle.theorems.proofs.Shorter.{shorten}
use Rattle.theorems.proofs.WriteSound.{write-is}
use Rattle.theorems.proofs.WriteComplete.{is-written}
use Rattle.theorems.proofs.Neat.{right-neat}
use Rattle.model.proofs.PackLaws.{pack-length}
use Rattle.theorems.proofs.Payload.{payload-found, payload-reads, payload-sum, payload-bytes, packed-is}
use Rattle.model.specs.Whole.{mode_number, accepted, room_of, reading, event_words, made, writing}
use Rattle.model.specs.Entries.{Entered, plan_of, Shaped, list_of}
use Rattle.model.proofs.Entries.{reading-entered, reading-found, mode-asked, asked-mode, written_then, writing-entered, writing-found, words-length, list_back, events-length}
use Rattle.theorems.specs.Payload.{PayloadIs}
use Rattle.theorems.specs.Demand2.{Valid, payload_of, bytes_for}

module _ (l : List ℕ) (party name type : ℕ) where
  -- a valid list is written, as the bits that it has by the grammar
  pub valid-bits : (mode : Mode) (L X : List ℕ) (h : Valid l party name type mode L X)
      → write mode.lengths (held_of l party) (plan_of l name type mode.casting) (list_of L) X ≡ Out.wrote h.bits [] []
  valid-bits mode L X h =
      let neat = right-neat h.enters mode.casting in
      let tight = list-tight (flag_bits mode.lengths) h.tree (is-leaves h.is) h.shortest in
      let w = is-written mode.lengths (held_of l party) h.is neat (list-plain h.tree h.no-blank) tight [] [] in
      rw (h.list, h.text) (rw (lists-all h.tree, spells-all h.tree) at w)

  pub valid-written : (mode : Mode) (L X : List ℕ) (room : ℕ) (h : Valid l party name type mode L X) → bytes_for h.bits ≤ min room 8192
      → writing l party name type (mode_number mode) L X room ≡ made (payload_of mode h.bits) (8 + length h.bits)
  valid-written mode L X room h k =
      writing-entered l party name type (mode_number mode) L X room mode h.enters (mode-asked (table_of l).derivations mode h.casts) h.shape
      ∙ written_then (held_of l party) (plan_of l name type mode.casting) mode (list_of L) X room _ _ (record {
        bits = h.bits;
        writes = valid-bits mode L X h;
        bytes = refl;
        used = refl;
        fits = k;
      })

  -- a list that has a tree without a Blank has the one whose lengths are shortest, of no more bits
  pub record Shortened (mode : Mode) (L X w : List ℕ) : Type 0 where
    pub valid : Valid l party name type mode L X
    pub few : length valid.bits ≤ length w

  pub any-valid : (mode : Mode) (L X : List ℕ) {tree : Nodes} {w : List ℕ} → Entered l party name type → Shaped L → (mode.casting ≡ true → 0 < (table_of l).derivations)
      → Is mode.lengths (held_of l party) (plan_of l name type mode.casting) 8 tree w → NoBlank (events tree) → list_of L ≡ map bare (events tree) → X ≡ texts tree
      → Shortened mode L X w
  any-valid mode L X {tree} enters shape casts is none list text =
      let r = shorten mode.lengths (held_of l party) is in
      let p = r.placed 8 in
      let events-same : map bare (events tree) ≡ map bare (events p.tree) = sym (sym (lists-all p.tree) ∙ p.list [] ∙ lists-all tree) in
      let texts-same : texts tree ≡ texts p.tree = sym (sym (spells-all p.tree) ∙ p.text [] ∙ spells-all tree) in
      record {
        valid = record {
          enters = enters;
          shape = shape;
          casts = casts;
          tree = p.tree;
          bits = r.bits;
          is = p.is;
          no-blank = none_bare (events p.tree) (rw events-same at (bare-none (events tree) none));
          shortest = tight-list (flag_bits mode.lengths) p.tree (is-leaves p.is) p.tight;
          list = list ∙ events-same;
          text = text ∙ texts-same;
        };
        few = r.few;
      }

  -- and that payload is read, where there is room, as the list with true bit counts
  pub valid-read : (mode : Mode) (L X : List ℕ) (h : Valid l party name type mode L X) → bytes_for h.bits ≤ 8192 → (words bytes : ℕ) → length L ≤ words → length X ≤ bytes
      → reading l party name type (payload_of mode h.bits) words bytes ≡ accepted mode h.tree (8 + length h.bits)
  valid-read mode L X h k words bytes m n =
      let a : tree_slots h.tree ≡ length L / 4 =
      slots_length h.tree ∙ sym (length-map (events h.tree) bare) ∙ sym (ap length h.list) ∙ events-length L 0 (length L / 4) in
      let b : tree_bytes h.tree ≡ length X = bytes-length h.tree ∙ sym (ap length h.text) in
      let c = h.shape.few in
      reading-entered l party name type (payload_of mode h.bits) words bytes h.enters
      ∙ payload-reads (held_of l party) (plan_of l name type) (table_of l).derivations _ (room_of words bytes) mode h.tree _
      (packed-is (held_of l party) (plan_of l name type) (table_of l).derivations mode h.bits h.tree (room_of words bytes) h.is k (omega arith) (omega arith) h.casts)

  -- only valid lists are written
  pub record Makes (n : ℕ) (L X : List ℕ) (room : ℕ) (s : List ℕ) (used : ℕ) : Type 0 where
    pub mode : Mode
    pub mode_is_lem : n ≡ mode_number mode
    pub valid : Valid l party name type mode L X
    pub bytes : s ≡ payload_of mode valid.bits
    pub bits-used : used ≡ 8 + length valid.bits
    pub fits : bytes_for valid.bits ≤ min room 8192

  pub written-valid : (n : ℕ) (L X : List ℕ) (room : ℕ) (s : List ℕ) (used : ℕ) → writing l party name type n L X room ≡ made s used → Makes n L X room s used
  written-valid n L X room s used e =
      let f = writing-found l party name type n L X room s used e in
      let g = f.writes in
      let known = (asked-mode (table_of l).derivations n).says f.way f.mode_is_lem in
      let short : length g.bits < 2 ^ 32 = omega (arith, g.fits) in
      let w = (write-is f.way.lengths (held_of l party) (plan_of l name type f.way.casting) (list_of L) X).says g.bits [] [] g.writes short 8 in
      let v = any-valid f.way L X f.enters f.shape known.casts w.is (plain-list w.tree w.plain) (w.list ∙ lists-all w.tree) (w.text ∙ spells-all w.tree) in
      let h = v.valid in
      let fits : bytes_for h.bits ≤ min room 8192 = omega (arith, g.fits, v.few) in
      let same : made s used ≡ made (payload_of f.way h.bits) (8 + length h.bits) =
      sym e ∙ ap (λ (m : ℕ). writing l party name type m L X room) known.is ∙ valid-written f.way L X room h fits in
      record { mode = f.way; mode_is_lem = known.is; valid = h; bytes = cc; bits-used = cc; fits = fits }

  -- FIRST HALF: what the writer makes reads back, given room, as the list and the texts, with true bit counts
  pub record ReadsBack (n : ℕ) (L X s : List ℕ) (used : ℕ) : Type 0 where
    pub mode : Mode
    pub mode_is_lem : n ≡ mode_number mode
    pub tree : Nodes
    pub list : map bare (events tree) ≡ list_of L
    pub text : texts tree ≡ X
    pub counts : 8 + total (events tree) ≡ used
    pub reads : (words bytes : ℕ) → length L ≤ words → length X ≤ bytes → reading l party name type s words bytes ≡ accepted mode tree used

  pub write_read : (n : ℕ) (L X : List ℕ) (room : ℕ) (s : List ℕ) (used : ℕ) → writing l party name type n L X room ≡ made s used → ReadsBack n L X s used
  write_read n L X room s used e =
      let f = written-valid n L X room s used e in
      let h = f.valid in
      let r = valid-read f.mode L X h (omega (arith, f.fits)) in
      let again : (words bytes : ℕ) → length L ≤ words → length X ≤ bytes → reading l party name type s words bytes ≡ accepted f.mode h.tree used
      = λ words bytes a b.
      ap (λ (x : List ℕ). reading l party name type x words bytes) f.bytes ∙ r words bytes a b ∙ ap (accepted f.mode h.tree) (sym f.bits-used) in
      let full = reading-found l party name type s (length L) (length X) f.mode h.tree used (again (length L) (length X) (omega arith) (omega arith)) in
      let sum = payload-sum (held_of l party) (plan_of l name type) (table_of l).derivations s (room_of (length L) (length X)) f.mode h.tree used (payload-found (held_of l party) (plan_of l name type) (table_of l).derivations s (room_of (length L) (length X)) f.mode h.tree used full.reads) in
      record {
        mode = f.mode;
        mode_is_lem = f.mode_is_lem;
        tree = h.tree;
        list = sym h.list;
        text = sym h.text;
        counts = omega (arith, sum, bits-total h.tree);
        reads = again;
      }

  -- what was read, as what can be written: its list's shape, its bits, and how long the payload is by them
  pub record Had (s : List ℕ) (words bytes : ℕ) (mode : Mode) (ns : Nodes) (used : ℕ) : Type 0 where
    pub enters : Entered l party name type
    pub payload : PayloadIs (held_of l party) (plan_of l name type) (table_of l).derivations s (room_of words bytes) mode ns used
    pub shape : Shaped (event_words (events ns))
    pub size : length s ≡ bytes_for payload.found.bits
    pub few : length s ≤ 8192
    pub bits-used : used ≡ 8 + length payload.found.bits
    pub words-fit : length (event_words (events ns)) ≤ words
    pub bytes_fit : length (texts ns) ≤ bytes

  pub had : (s : List ℕ) (words bytes : ℕ) (mode : Mode) (ns : Nodes) (used : ℕ) → reading l party name type s words bytes ≡ accepted mode ns used → Had s words bytes mode ns used
  had s words bytes mode ns used e =
      let f = reading-found l party name type s words bytes mode ns used e in
      let i = payload-found (held_of l party) (plan_of l name type) (table_of l).derivations s (room_of words bytes) mode ns used f.reads in
      let n = words-length (events ns) in
      let z = slots_length ns in
      let r = i.found.slots in
      let next = i.found.stands.next in
      let within = i.found.within in
      record {
        enters = f.enters;
        payload = i;
        shape = record { whole = omega arith; few = omega arith };
        size = omega (arith, i.pads.short);
        few = i.mode-byte.few;
        bits-used = next;
        words-fit = omega arith;
        bytes_fit = omega (arith, bytes-length ns, i.found.bytes);
      }

  -- SECOND HALF: bytes read without blanks, where every TheLength is shortest, are written back identically, where room allows
  pub read-write : (s : List ℕ) (words bytes room : ℕ) (mode : Mode) (ns : Nodes) (used : ℕ) → AllBytes s → reading l party name type s words bytes ≡ accepted mode ns used → NoBlank (events ns)
      → AllShortest (flag_bits mode.lengths) (events ns) → length s ≤ room
      → writing l party name type (mode_number mode) (event_words (events ns)) (texts ns) room ≡ made s used
  read-write s words bytes room mode ns used o e b short k =
      let r = had s words bytes mode ns used e in
      let i = r.payload in
      let h : Valid l party name type mode (event_words (events ns)) (texts ns) = record {
        enters = r.enters;
        shape = r.shape;
        casts = i.mode-byte.casts;
        tree = ns;
        bits = i.found.bits;
        is = i.found.is;
        no-blank = b;
        shortest = short;
        list = list_back (events ns);
        text = refl;
      } in
      let same = payload-bytes (held_of l party) (plan_of l name type) (table_of l).derivations s (room_of words bytes) mode ns used o i in
      valid-written mode (event_words (events ns)) (texts ns) room h (omega (arith, r.size, r.few)) ∙ rw (← same, ← r.bits-used)

  -- and whatever TheLength was padded: the payload made is no longer, and reads, in the same room, as the same mode, texts and events but for their bits
  pub record Rewritten (s : List ℕ) (words bytes room : ℕ) (mode : Mode) (ns : Nodes) (used : ℕ) : Type 0 where
    pub payload : List ℕ
    pub bits : ℕ
    pub writes : writing l party name type (mode_number mode) (event_words (events ns)) (texts ns) room ≡ made payload bits
    pub size : length payload ≡ (bits + 7) / 8
    pub shorter : length payload ≤ length s
    pub fewer : bits ≤ used
    pub tree : Nodes
    pub reads : reading l party name type payload words bytes ≡ accepted mode tree bits
    pub list : map bare (events tree) ≡ map bare (events ns)
    pub text : texts tree ≡ texts ns

  pub read-rewritten : (s : List ℕ) (words bytes room : ℕ) (mode : Mode) (ns : Nodes) (used : ℕ) → reading l party name type s words bytes ≡ accepted mode ns used → NoBlank (events ns) → length s ≤ room
      → Rewritten s words bytes room mode ns used
  read-rewritten s words bytes room mode ns used e b k =
      let r = had s words bytes mode ns used e in
      let i = r.payload in
      let L = event_words (events ns) in
      let v = any-valid mode L (texts ns) r.enters r.shape i.mode-byte.casts i.found.is b (list_back (events ns)) refl in
      let h = v.valid in
      let size = pack-length h.bits in
      let fits : bytes_for h.bits ≤ min (length s) 8192 = omega (arith, v.few, r.size, r.few) in
      record {
        payload = payload_of mode h.bits;
        bits = 8 + length h.bits;
        writes = valid-written mode L (texts ns) room h (omega arith);
        size = omega arith;
        shorter = omega arith;
        fewer = omega (arith, v.few, r.bits-used);
        tree = h.tree;
        reads = valid-read mode L (texts ns) h (omega arith) words bytes r.words-fit r.bytes_fit;
        list = sym h.list ∙ list_back (events ns);
        text = sym h.text;
      }

  -- the bits of all events plus 8 are the bits used
  pub sum-used : (s : List ℕ) (words bytes : ℕ) (mode : Mode) (ns : Nodes) (used : ℕ) → reading l party name type s words bytes ≡ accepted mode ns used → 8 + total (events ns) ≡ used
  sum-used s words bytes mode ns used e =
      let i = (had s words bytes mode ns used e).payload in
      omega (arith, payload-sum (held_of l party) (plan_of l name type) (table_of l).derivations s (room_of words bytes) mode ns used i, bits-total ns)
