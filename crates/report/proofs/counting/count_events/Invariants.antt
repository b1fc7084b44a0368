-- `count_events`: what is left of the events, from what has been counted, comes to what all come to.
use Prim.Native.Nat.{◌/◌, ◌≤◌}
use mathlib.Core.Path.{◌≡◌}
use mathlib.Core.List.{[]}
use lib.ListN.{length, drop}
use Rattle.report.specs.Sums.{counts_in, events_in, events_of, numbers_in}
use Rattle.report.proofs.counting.count_events.Given as goal

abbrev pub invariant-loop-kind : goal.invariant-loop-kind
invariant-loop-kind l = record {
  deep : length l.stack ≤ l.kind-index;
  so_far : counts_in (events_of (drop l.kind-index l.events)) l.stack (numbers_in l.s) ≡ counts_in (events_in l.words 0 (length l.words / 4)) [] (numbers_in l.initial.s);
}
