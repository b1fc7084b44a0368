-- `type_pair`: two words, and their tests; the second asks for the entries too.
use mathlib.Core.Path.{refl}
use native.Mathlib.Omega.{arith}
use Rattle.table.proofs.CastRows.{start-over, count-over, type-once, type-twice, stamped-part, under_next}
use Rattle.table.proofs.cast_rows.type_pair.Goals as goal

pub returns-then-casts-start : goal.returns-then-casts-start
returns-then-casts-start c = record { verdict = start-over c.args.table.now _ _ _ _ _ _ _ _ c.pair_at-place.ensures refl c.word-start.ensures c.word-count.ensures c.if-casts-start.true; stamped = under_next _ _ c.requires.stamped }

pub returns-then-casts-start-2 : goal.returns-then-casts-start-2
returns-then-casts-start-2 c = record { verdict = count-over c.args.table.now _ _ _ _ _ _ _ _ c.pair_at-place.ensures refl c.word-start.ensures c.word-count.ensures c.if-casts-start.false c.if-casts-start-2.true; stamped = under_next _ _ c.requires.stamped }

pub each_once-requires : goal.each_once-requires
each_once-requires c = (omega arith, c.requires.known, stamped-part _ _ _ _ _ _ c.requires.entries c.if-casts-start.false c.if-casts-start-2.false c.entry_at.ensures, c.requires.stamped)

pub returns-then-each_once : goal.returns-then-each_once
returns-then-each_once c =
    let told = c.each_once.ensures in
    record {
      verdict = type-once c.args.table.now _ _ _ _ _ _ _ _ c.pair_at-place.ensures refl c.word-start.ensures c.word-count.ensures
          c.if-casts-start.false c.if-casts-start-2.false _ c.entry_at.ensures _ told.once c.if-each_once.true;
      stamped = told.stamped;
    }

pub returns : goal.returns
returns c =
    let told = c.each_once.ensures in
    record {
      verdict = type-twice c.args.table.now _ _ _ _ _ _ _ _ c.pair_at-place.ensures refl c.word-start.ensures c.word-count.ensures
          c.if-casts-start.false c.if-casts-start-2.false _ c.entry_at.ensures _ told.once c.if-each_once.false;
      stamped = told.stamped;
    }
