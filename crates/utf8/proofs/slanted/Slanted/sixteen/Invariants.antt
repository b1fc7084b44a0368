-- So far all are printable, where `all` still says so.
use Rattle.utf8.proofs.SlantedLaws.{SoFar}
use Rattle.utf8.proofs.slanted.Slanted.sixteen.Given as goal

abbrev pub invariant-loop-j : goal.invariant-loop-j
invariant-loop-j l = SoFar l.self.s.now l.self.k l.i l.j l.all
