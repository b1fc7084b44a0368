use Rattle.std.proofs.Common.{rules}
use Rattle.shelf.specs.Answers.{rescued_of}
use Rattle.shelf.proofs.Salvaging.{salvage-other, salvage-told}
use Rattle.shelf.proofs.calls.call_salvage.Goals as goal

pub returns-then-area-ne-SHELF_AREA : goal.returns-then-area-ne-SHELF_AREA
returns-then-area-ne-SHELF_AREA c = search (rules, salvage-other)

pub returns-in-Ok : goal.returns-in-Ok
returns-in-Ok c = let a = c.args in
    salvage-told a.file.now _ _ _ _ (rescued_of c.salvage.result) _ _ _ (search rules) c.salvage.ensures (rw c.in-Ok.is c.tell_answer.ensures.0) (rw c.in-Ok.is c.tell_answer.ensures.1)

pub returns-in-Err : goal.returns-in-Err
returns-in-Err c = let a = c.args in
    salvage-told a.file.now _ _ _ _ (rescued_of c.salvage.result) _ _ _ (search rules) c.salvage.ensures (rw c.in-Err.is c.tell_answer-in-Err.ensures.0) (rw c.in-Err.is c.tell_answer-in-Err.ensures.1)
