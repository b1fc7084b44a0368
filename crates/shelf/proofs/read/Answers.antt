use Rattle.std.proofs.Common.{length, refl, arith, rules}
use Rattle.shelf.proofs.Scans.{read-within}
use Rattle.shelf.proofs.Entries.{read-refused, read_small, read_done}
use Rattle.shelf.proofs.read.Goals as goal

pub returns-then-records-n : goal.returns-then-records-n
returns-then-records-n c = search (rules, read_small)

pub gather-requires : goal.gather-requires
gather-requires c = search (rules, read-within)

pub returns-in-Err : goal.returns-in-Err
returns-in-Err c = search (rules, read-refused)

pub returns-else-records-n : goal.returns-else-records-n
returns-else-records-n c = let a = c.args in
    read_done a.file.now (length a.records.now) c.scan.ensures c.in-Ok.is a.records.now _ _ _ refl (omega arith)
    c.gather.ensures refl c.clear-in-Ok.ensures
