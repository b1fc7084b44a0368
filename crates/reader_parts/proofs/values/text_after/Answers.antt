-- The wall, what is wrong with the bytes, room for them, room for the event.
use Rattle.reader_parts.proofs.TextWays.{text-kept, after-ways}
use mathlib.Core.Path.{refl}
use borrow.Author.Rules.{rules}
use Rattle.reader_parts.proofs.values.text_after.Goals as goal

pub returns-then-e-from : goal.returns-then-e-from
returns-then-e-from c = search (rules, after-ways)

pub returns-then-e-from-2 : goal.returns-then-e-from-2
returns-then-e-from-2 c = search (rules, after-ways)

pub returns-in-Err : goal.returns-in-Err
returns-in-Err c = search (rules, after-ways)

pub returns-then-room-m : goal.returns-then-room-m
returns-then-room-m c = search (rules, after-ways)

pub returns : goal.returns
returns c = text-kept _ _ _ _ _ _ _ c.if-e-from.false c.if-e-from-2.false _ c.judged.ensures _ c.in_default.is _ (search rules) _ _ _ _ _
    c.if-room-m.false refl refl refl refl c.copy-fine.ensures c.store.ensures
