-- None, or one bit more than how many.
use mathlib.Core.Path.{refl}
use Rattle.value.proofs.WriteWays.{size-some, size-more}
use Rattle.value.proofs.writing.some_size.Goals as goal

pub returns : goal.returns
returns c = (size-some _ _ c.if-v-eq0.false _ c.inner_size.ensures.0 _ _ c.in_ok-n.was refl, size-more _ c.inner_size.ensures.1 _ c.in_ok-n.was)
