-- What is lent to a reading stays the same two buffers, of the same sizes.
use Rattle.std.specs.Prelude.{◌≡◌, length}
use Rattle.init.specs.declared.lent.Lent.{Lent}

pub record Same (a b : Lent) : Type 0 where
  pub init : b.init.ghost_name ≡ a.init.ghost_name
  pub codecs : b.codecs.ghost_name ≡ a.codecs.ghost_name
  pub room : length b.codecs.now ≡ length a.codecs.now
