-- A text; or refused by its code, or stored as a number or a date.
use Rattle.reader_parts.proofs.ValueWays.{value-ways, value-number, value-dated, value-text}
use mathlib.Core.Path.{◌∙◌, ap}
use Rattle.std.specs.Prelude.{Ok}
use borrow.Author.Rules.{rules}
use Rattle.reader_parts.proofs.values.value.Goals as goal

pub returns-then-simple-eq-TEXT : goal.returns-then-simple-eq-TEXT
returns-then-simple-eq-TEXT c = search (rules, value-text)

pub returns-in-Err : goal.returns-in-Err
returns-in-Err c = search (rules, value-ways)

pub returns-in-Read : goal.returns-in-Read
returns-in-Read c = value-number _ _ _ _ _ _ _ _ _ c.of_kind.ensures _ _ _ (c.in-Ok.is ∙ ap Ok c.in-Read.is) _ _ c.if-simple-eq-TEXT.false c.store.ensures

pub returns-in-Dated : goal.returns-in-Dated
returns-in-Dated c = value-dated _ _ _ _ _ _ _ _ _ c.of_kind.ensures _ _ _ (c.in-Ok.is ∙ ap Ok c.in-Dated.is) _ _ c.store-in-Dated.ensures
