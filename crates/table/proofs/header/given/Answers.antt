-- `given`: the four header words, one after another.
use Rattle.table.specs.Valid.{header_words}
use Rattle.table.proofs.FirstLaws.{told}
use Rattle.table.proofs.Given.{word-wrong, word-right, word-last}
use Rattle.table.proofs.header.given.Goals as goal

pub returns-in_err-within : goal.returns-in_err-within
unfolding header_words
returns-in_err-within c = told _ _ _ c.from_residual.ensures.1 (word-wrong _ _ _ _ c.within.ensures _ c.in_err-within.was)

pub returns-in_err-within-2 : goal.returns-in_err-within-2
unfolding header_words
returns-in_err-within-2 c =
    told _ _ _ c.from_residual-in_err-within-2.ensures.1
    (word-right _ _ _ _ c.within.ensures _ c.in_ok-within.was (word-wrong _ _ _ _ c.within-2.ensures _ c.in_err-within-2.was))

pub returns-in_err-within-3 : goal.returns-in_err-within-3
unfolding header_words
returns-in_err-within-3 c =
    told _ _ _ c.from_residual-in_err-within-3.ensures.1
    (word-right _ _ _ _ c.within.ensures _ c.in_ok-within.was
    (word-right _ _ _ _ c.within-2.ensures _ c.in_ok-within-2.was (word-wrong _ _ _ _ c.within-3.ensures _ c.in_err-within-3.was)))

pub returns : goal.returns
unfolding header_words
returns c =
    word-right _ _ _ _ c.within.ensures _ c.in_ok-within.was
    (word-right _ _ _ _ c.within-2.ensures _ c.in_ok-within-2.was
    (word-right _ _ _ _ c.within-3.ensures _ c.in_ok-within-3.was (word-last _ _ _ c.within-4.ensures)))
