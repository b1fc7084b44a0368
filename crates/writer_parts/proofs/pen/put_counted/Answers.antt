-- The count, then the bytes.
use Rattle.writer_parts.proofs.PenWays.{counted_ways, counted-short}
use mathlib.Core.Path.{refl}
use borrow.Author.Rules.{rules}
use Rattle.writer_parts.proofs.pen.put_counted.Goals as goal

pub put_code-q-requires : goal.put_code-q-requires
put_code-q-requires c = (search (rules, counted_ways), counted-short _ _ _ c.coded5-count.ensures refl)

pub put_text-requires : goal.put_text-requires
put_text-requires c = search (rules, counted_ways)

pub returns : goal.returns
returns c = search (rules, counted_ways)
