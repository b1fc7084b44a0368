-- `read_into`: the reader's words, then those of its events as bytes, and zeros behind them.
use native.Mathlib.Omega.{arith}
use lib.ListN.{length-take}
use Rattle.reads.proofs.Replies.{words-fit, words-read, names-fit}
use Rattle.reads.proofs.read_into.Goals as goal

pub slice_bounds-store-end : goal.slice_bounds-store-end
slice_bounds-store-end c = let r = c.read-a in
    let h = words-fit _ _ _ _ r.ensures.answer r.ensures.events_left_lem r.auto.events in
    omega (arith, c.words_stored-k.ensures)

pub slice_bounds-store-end-2 : goal.slice_bounds-store-end-2
slice_bounds-store-end-2 c = let r = c.read-a in
    let h = words-fit _ _ _ _ r.ensures.answer r.ensures.events_left_lem r.auto.events in
    simp length-take (omega (arith, c.words_stored-k.ensures))

pub store-requires : goal.store-requires
store-requires c = let r = c.read-a in
    let h = words-fit _ _ _ _ r.ensures.answer r.ensures.events_left_lem r.auto.events in
    simp length-take (omega (arith, c.words_stored-k.ensures, r.auto.events, c.requires.fits))

pub slice_bounds-clear-count : goal.slice_bounds-clear-count
slice_bounds-clear-count c = let r = c.read-a in
    let h = words-fit _ _ _ _ r.ensures.answer r.ensures.events_left_lem r.auto.events in
    omega (arith, c.words_stored-k.ensures, c.store.auto.s, r.auto.events, c.requires.fits)

pub slice_bounds-clear-start : goal.slice_bounds-clear-start
slice_bounds-clear-start c = let r = c.read-a in
    let h = words-fit _ _ _ _ r.ensures.answer r.ensures.events_left_lem r.auto.events in
    omega (arith, c.words_stored-k.ensures, c.store.auto.s, r.auto.events, c.requires.fits)

pub tell_answer-requires : goal.tell_answer-requires
tell_answer-requires c = let r = c.read-a in
    (c.requires.told, names-fit _ _ _ _ _ _ _ r.result r.ensures.answer)

pub returns : goal.returns
returns c = let r = c.read-a in
    words-read _ _ _ _ _ _ c.args.events.now _ _ _ _ _ c.words_stored-k.ensures r.ensures.answer r.ensures.events_left_lem r.ensures.texts_left_lem r.auto.events c.requires.fits
    c.store.ensures c.clear.ensures c.tell_answer.ensures
