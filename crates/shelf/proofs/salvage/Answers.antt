use Rattle.std.proofs.Common.{◌≡◌, true, refl, rules}
use Rattle.shelf.proofs.Salvaging.{saved-bytes, saved-within, saved-list, saved-fits, saved-numbered, saved_rows, saved-none, saved-done}
use Rattle.shelf.proofs.salvage.Goals as goal

pub seal_blocks-requires : goal.seal_blocks-requires
seal_blocks-requires c = (search rules, search (rules, saved-fits), search (rules, saved-numbered))

pub overflow_mul-bytes : goal.overflow_mul-bytes
overflow_mul-bytes c = search (rules, saved-bytes)

pub slice_bounds-clear-count : goal.slice_bounds-clear-count
slice_bounds-clear-count c = search (rules, saved-within)

pub slice_bounds-clear-start : goal.slice_bounds-clear-start
slice_bounds-clear-start c = search (rules, saved-within)

pub overflow_mul-end : goal.overflow_mul-end
overflow_mul-end c = search (rules, saved-list)

pub slice_bounds-clear-count-then-has_room : goal.slice_bounds-clear-count-then-has_room
slice_bounds-clear-count-then-has_room c = search (rules, saved_rows)

pub slice_bounds-clear-start-then-has_room : goal.slice_bounds-clear-start-then-has_room
slice_bounds-clear-start-then-has_room c = search (rules, saved_rows)

pub returns-then-has_room : goal.returns-then-has_room
returns-then-has_room c = let a = c.args in
    let k = c.collect-t in
    let r = c.has_room in
    let s = c.seal_blocks in
    let h : r.result ≡ true = search rules in
    saved-done a.file.now a.fresh.now a.list.now k.ensures c.blocks_for-m.ensures r.ensures h s.new.file _ c.clear.new.s _ c.clear-then-has_room.new.s s.ensures refl c.clear.ensures refl c.clear-then-has_room.ensures

pub returns : goal.returns
returns c = search (rules, saved-none)
