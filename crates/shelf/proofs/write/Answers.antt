use Rattle.std.proofs.Common.{length, refl, arith, rules}
use Rattle.shelf.proofs.Entries.{write-undone, write-small, write-many, write_done}
use Rattle.shelf.proofs.write.Goals as goal

pub returns-then-file-m : goal.returns-then-file-m
returns-then-file-m c = search (rules, write-small)

pub returns-then-m-gt-MOST_BLOCKS : goal.returns-then-m-gt-MOST_BLOCKS
returns-then-m-gt-MOST_BLOCKS c = search (rules, write-many)

pub returns-in-Err : goal.returns-in-Err
returns-in-Err c = search (rules, write-undone)

pub returns-in-Ok : goal.returns-in-Ok
returns-in-Ok c = let a = c.args in
    write_done a.records.now c.judged.ensures (length a.file.now) c.in-Ok.is c.blocks_for-m.ensures a.file.now _ _ _ refl
    (omega arith) (omega arith) c.cut_blocks-w.ensures.made refl c.clear-in-Ok.ensures
