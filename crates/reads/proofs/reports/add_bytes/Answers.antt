-- `add_bytes`: what the reader answered, added.
use mathlib.Core.Path.{refl, sym, ◌∙◌}
use native.Mathlib.Omega.{arith}
use Rattle.reads.proofs.ReportLaws.{ready-whole, ready-few, ready-used, ready-most, lent-added, cut-count}
use Rattle.reads.proofs.reports.add_bytes.Goals as goal

pub counted-read-requires : goal.counted-read-requires
counted-read-requires c = ready-whole _ _ _ _ _ c.read_words-a.result _ _ _ _ refl refl c.read_words-a.ensures _ c.read_words-a.auto.list

pub add-requires : goal.add-requires
add-requires c = let r = c.read_words-a.result in
    let h = c.read_words-a.ensures in
    let u = c.counted-read.ensures in
    let n = cut-count _ _ (ready-whole _ _ _ _ _ r _ _ _ _ refl refl h _ c.read_words-a.auto.list) in
    let f = ready-few _ _ _ _ _ r _ _ _ _ refl refl h in
    record {
      size = c.requires;
      few = rw u.words (omega arith);
      used = ready-used _ _ _ _ _ r _ _ _ _ refl refl h _ u.bits;
      most = λ z. ready-most _ _ _ _ _ r _ _ _ _ refl refl h (sym u.number ∙ z);
    }

pub returns-in-Ok : goal.returns-in-Ok
returns-in-Ok c = let e = c.in-Ok.ensures in
    lent-added _ _ _ _ _ _ _ c.read_words-a.result _ _ _ _ refl refl c.read_words-a.auto.list _ _ _ _ _ c.words_lent-n.ensures c.read_words-a.ensures e.number e.bits e.words (rw c.in-Ok.is at c.add.ensures)

pub returns-in-Err : goal.returns-in-Err
returns-in-Err c = let e = c.in-Err.ensures in
    rw c.number.ensures (lent-added _ _ _ _ _ _ _ c.read_words-a.result _ _ _ _ refl refl c.read_words-a.auto.list _ _ _ _ _ c.words_lent-n.ensures c.read_words-a.ensures e.number e.bits e.words (rw c.in-Err.is at c.add.ensures))
