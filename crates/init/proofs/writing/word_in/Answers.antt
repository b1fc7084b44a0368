use Prim.Native.Nat.{◌+◌}
use mathlib.Core.Path.{sym, ◌∙◌}
use native.Mathlib.Omega.{arith}
use lib.ListN.{get_or-eq_default}
use Rattle.buffers.specs.Bytes.{words_of}
use Rattle.buffers.proofs.BytesLaws.{word_at, words-length}
use Rattle.init.specs.Write.{word_in}
use Rattle.init.proofs.writing.word_in.Goals as goal

pub returns-then-j-from : goal.returns-then-j-from
unfolding word_in
returns-then-j-from c = rw c.in-Codecs.is (c.word.ensures ∙ sym (word_at _ _ c.if-j-from.true))

pub returns-else-j-from : goal.returns-else-j-from
unfolding word_in
returns-else-j-from c = rw c.in-Codecs.is (sym (get_or-eq_default (words_of c.args.from.codecs.now) 0 {n = c.args.used + c.args.k} (omega (arith, words-length c.args.from.codecs.now))))
