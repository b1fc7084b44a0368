-- Bytes written behind those of a page: it is the same buffer, with these bytes on it.
use Rattle.std.specs.Prelude.{ℕ, ◌≡◌, List}
use Rattle.init.specs.declared.page.Page.{Page}
use Rattle.init.specs.Writes.{page, inked}

pub record Inks (a : Page) (l : List ℕ) (b : Page) : Type 0 where
  pub same : b.message.ghost_name ≡ a.message.ghost_name
  pub inks : page b.message.now b.ink ≡ inked (page a.message.now a.ink) l
