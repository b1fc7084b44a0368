-- `all_words`: the order of the words behind the rows.
use Rattle.table.proofs.FirstLaws.{told}
use Rattle.table.proofs.Order.{cast-ways, entries-wrong, swaps-wrong, pairs-wrong, pairs-last, entries-stamped}
use Rattle.table.proofs.cast_rows.all_words.Goals as goal

pub returns-then-casts-gt-MOST_DERIVATIONS : goal.returns-then-casts-gt-MOST_DERIVATIONS
returns-then-casts-gt-MOST_DERIVATIONS c = search cast-ways

pub returns-then-casts-gt-MOST_SUBSTITUTES : goal.returns-then-casts-gt-MOST_SUBSTITUTES
returns-then-casts-gt-MOST_SUBSTITUTES c = search cast-ways

pub returns-in_err-all_entries : goal.returns-in_err-all_entries
returns-in_err-all_entries c =
    told _ _ _ c.from_residual.ensures.1
    (entries-wrong c.args.table.now _ _ _ _ _ _ c.if-casts-gt-MOST_DERIVATIONS.false c.if-casts-gt-MOST_SUBSTITUTES.false
    _ c.all_entries.ensures _ c.in_err-all_entries.was)

pub returns-in_err-all_substitutes : goal.returns-in_err-all_substitutes
returns-in_err-all_substitutes c =
    told _ _ _ c.from_residual-in_err-all_substitutes.ensures.1
    (swaps-wrong c.args.table.now _ _ _ _ _ _ c.if-casts-gt-MOST_DERIVATIONS.false c.if-casts-gt-MOST_SUBSTITUTES.false
    _ c.all_entries.ensures c.in_ok-all_entries.was _ c.all_substitutes.ensures _ c.in_err-all_substitutes.was)

pub all_type_pairs-requires : goal.all_type_pairs-requires
all_type_pairs-requires c = (c.requires, entries-stamped _ _ _ _ _ c.requires c.all_entries.ensures c.in_ok-all_entries.was)

pub returns-in_err-all_type_pairs : goal.returns-in_err-all_type_pairs
returns-in_err-all_type_pairs c =
    told _ _ _ c.from_residual-in_err-all_type_pairs.ensures.1
    (pairs-wrong c.args.table.now _ _ _ _ _ _ c.if-casts-gt-MOST_DERIVATIONS.false c.if-casts-gt-MOST_SUBSTITUTES.false
    _ c.all_entries.ensures c.in_ok-all_entries.was _ c.all_substitutes.ensures c.in_ok-all_substitutes.was
    _ c.all_type_pairs.ensures _ c.in_err-all_type_pairs.was)

pub returns : goal.returns
returns c =
    pairs-last c.args.table.now _ _ _ _ _ _ c.if-casts-gt-MOST_DERIVATIONS.false c.if-casts-gt-MOST_SUBSTITUTES.false
    _ c.all_entries.ensures c.in_ok-all_entries.was _ c.all_substitutes.ensures c.in_ok-all_substitutes.was
    _ c.all_type_pairs.ensures c.in_ok-all_type_pairs.was _ c.all_row_pairs.ensures
