-- HOW THE ENTRY ANSWERS, as a relation: the table, the root, the mode byte, the reading of the root, the padding. A law
-- of every reading of bytes has these six cases (`reading-replies`), and what goes so is the reading (`replies-reading`).
use Prim.Native.Nat.{ℕ, ◌*◌}
use mathlib.Core.Path.{◌≡◌, refl, ◌∙◌}
use mathlib.Core.Bool.{Bool, true, false}
use mathlib.Core.List.{List, [], reverse}
use lib.ListN.{length}
use Rattle.wire.specs.Res.{Res, got, fault}
use Rattle.wire.specs.Bits.{bit_at}
use Rattle.table.specs.First.{Verdict}
use Rattle.table.specs.First.Verdict.{right, wrong}
use Rattle.table.specs.Valid.{verdict}
use Rattle.table.specs.Rows.{table_of, held_of}
use Rattle.model.specs.Model.{Nodes, Path, Answer}
use Rattle.model.specs.Model.Answer.{given, refused}
use Rattle.model.specs.Items.{Mode}
use Rattle.model.specs.Read.{read}
use Rattle.model.proofs.Readings.{Reads, read-reads, reads-read}
use Rattle.model.specs.Whole.{mode_of, padding, Reply, accepted, declined, padded, replied, root_in, in_mode, payload, asked, room_of, after_asked, after_verdict, reading}
use Rattle.model.specs.Entries.{plan_of}

module _ (l : List ℕ) (party name type : ℕ) (s : List ℕ) where
  -- 1 to 4 do not apply
  pub record Begun (mode : Mode) : Type 0 where
    pub table : verdict l ≡ right
    pub root : asked (table_of l).types party name type ≡ got tt
    pub byte : mode_of (table_of l).derivations s ≡ got mode

  module _ (words bytes : ℕ) where
    -- the root's reading, from bit 8 on
    abbrev pub Root : Mode → Answer → Type 0
    Root mode o = Reads (bit_at s) mode.lengths (held_of l party) (plan_of l name type mode.casting) (room_of words bytes) [] (8 * length s) 8 o

    pub data Replies : Reply → Type 0 where
      no_table : {i : ℕ} → verdict l ≡ wrong i → Replies (declined 1 i [])
      no-root : {n : ℕ} → verdict l ≡ right → asked (table_of l).types party name type ≡ fault n → Replies (declined n 0 [])
      no_mode : {n : ℕ} → verdict l ≡ right → asked (table_of l).types party name type ≡ got tt → mode_of (table_of l).derivations s ≡ fault n
          → Replies (declined n 0 [])
      stopped : {mode : Mode} {n p : ℕ} {π : Path} → Begun mode → Root mode (refused n p π)
          → Replies (declined n p (reverse π))
      unpadded : {mode : Mode} {ns : Nodes} {q : ℕ} → Begun mode → Root mode (given ns q) → padding s q ≡ false
          → Replies (declined 17 q [])
      whole : {mode : Mode} {ns : Nodes} {q : ℕ} → Begun mode → Root mode (given ns q) → padding s q ≡ true
          → Replies (accepted mode ns q)

    pub reading-replies : Replies (reading l party name type s words bytes)
    unfolding reading after_verdict after_asked payload in_mode root_in replied padded
    reading-replies = go (verdict l) (asked (table_of l).types party name type) (mode_of (table_of l).derivations s) refl refl refl
      where
        pad : (mode : Mode) (ns : Nodes) (q : ℕ) (t : Bool) → Begun mode → Root mode (given ns q) → padding s q ≡ t
            → Replies (padded t mode ns q)
        pad mode ns q true i r e = whole i r e
        pad mode ns q false i r e = unpadded i r e

        root : (mode : Mode) (o : Answer) → Begun mode → Root mode o → Replies (replied (padding s) mode o)
        root mode (given ns q) i r = pad mode ns q (padding s q) i r refl
        root mode (refused n p π) i r = stopped i r

        go : (v : Verdict) (a : Res Unit) (m : Res Mode) → verdict l ≡ v → asked (table_of l).types party name type ≡ a
            → mode_of (table_of l).derivations s ≡ m
            → Replies (after_verdict v (after_asked a (in_mode m (root_in (held_of l party) (plan_of l name type) s (room_of words bytes)))))
        go right (got u) (got mode) v a m =
            root mode (read (bit_at s) mode.lengths (held_of l party) (plan_of l name type mode.casting) (room_of words bytes) [] (8 * length s) 8) (record { table = v; root = a; byte = m })
            (read-reads (bit_at s) mode.lengths (held_of l party) (plan_of l name type mode.casting) (room_of words bytes) [] (8 * length s) 8)
        go right (got u) (fault n) v a m = no_mode v a m
        go right (fault n) c v a m = no-root v a
        go (wrong i) b c v a m = no_table v

    root-read : (mode : Mode) (o : Answer) → Begun mode → Root mode o
        → reading l party name type s words bytes ≡ replied (padding s) mode o
    unfolding reading after_verdict after_asked payload in_mode root_in
    root-read mode o i r =
        rw (i.table, i.root, i.byte, reads-read (bit_at s) mode.lengths (held_of l party) (plan_of l name type mode.casting) (room_of words bytes) [] (8 * length s) 8 o r)

    pub replies-reading : {R : Reply} → Replies R → reading l party name type s words bytes ≡ R
    unfolding reading after_verdict after_asked payload in_mode replied padded
    replies-reading (no_table v) = rw v
    replies-reading (no-root v a) = rw (v, a)
    replies-reading (no_mode v a m) = rw (v, a, m)
    replies-reading (stopped {mode} i r) = root-read mode (refused _ _ _) i r
    replies-reading (unpadded {mode} i r e) = root-read mode (given _ _) i r ∙ rw e
    replies-reading (whole {mode} i r e) = root-read mode (given _ _) i r ∙ rw e
