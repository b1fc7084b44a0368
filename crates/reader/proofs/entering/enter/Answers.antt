-- Each answer is a way of proofs/EnterWays.
use mathlib.Core.Path.{refl}
use borrow.Author.Rules.{rules}
use Rattle.reader.proofs.Asked.{asked-ways, ready-end, element-effective}
use Rattle.reader.proofs.EnterWays.{enter-wrong, enter-refuse, enter-full, enter-blank, enter-in}
use Rattle.reader.proofs.entering.enter.Goals as goal

pub held-held-requires : goal.held-held-requires
held-held-requires c = search (rules, asked-ways)

pub open-o-requires : goal.open-o-requires
open-o-requires c = ((ready-end _ _ _ _ _ _ c.requires.0 _ _ _ _ _ _ c.head.ensures refl c.in-Ok.is c.extent_of-extent.ensures).walls, c.requires.0.choosing, c.held-held.ensures)

pub fill-requires : goal.fill-requires
fill-requires c = (ready-end _ _ _ _ _ _ c.requires.0 _ _ _ _ _ _ c.head.ensures refl c.in-Ok.is c.extent_of-extent.ensures, element-effective _ _ _ _ _ _ c.requires.0 _ _ _ _ _ _ _ _ _ _ _ c.requires.1 c.requires.2 c.open-o.ensures c.in-In.is)

pub returns-in-Err : goal.returns-in-Err
returns-in-Err c = enter-wrong _ _ _ _ _ _ _ _ _ _ c.head.ensures _ refl _ c.in-Err.is

pub returns-in-Refuse : goal.returns-in-Refuse
returns-in-Refuse c = enter-refuse _ _ _ _ _ _ _ _ _ _ c.head.ensures _ refl _ c.in-Ok.is _ c.extent_of-extent.ensures _ _ c.open-o.ensures _ c.in-Refuse.is

pub returns-in-Full : goal.returns-in-Full
returns-in-Full c = enter-full _ _ _ _ _ _ _ _ _ _ c.head.ensures _ refl _ c.in-Ok.is _ c.extent_of-extent.ensures _ _ c.open-o.ensures _ c.in-Full.is

pub returns-in-Blank : goal.returns-in-Blank
returns-in-Blank c = enter-blank _ _ _ _ _ _ _ _ _ _ c.head.ensures _ refl _ c.in-Ok.is _ c.extent_of-extent.ensures _ _ c.open-o.ensures _ c.in-Blank.is

pub returns-in-In : goal.returns-in-In
returns-in-In c = enter-in _ _ _ _ _ _ _ _ _ _ c.head.ensures _ refl _ c.in-Ok.is _ c.extent_of-extent.ensures _ _ c.open-o.ensures _ _ _ _ c.in-In.is c.fill.ensures
