-- The inner code, raised.
use Rattle.value.proofs.reading.shifted_number.Goals as goal

pub returns : goal.returns
returns c = c.raise.ensures.says _ _ _ _ c.inner.ensures
