-- `count_events`: what is left of the events, from what has been counted, comes to what all come to.
use native.Mathlib.Omega.{arith}
use Rattle.report.proofs.Ways.{events-begin, opens-one, events-again, events-stopped, events-ended}
use Rattle.report.proofs.counting.count_events.Goals as goal

pub loop-kind-init : goal.loop-kind-init
loop-kind-init c = let e = c.new-stack.ensures in record { deep = rw e (omega arith); so_far = rw e (events-begin _ _ _ c.as_chunks.ensures.front) }

pub loop-kind-preserved : goal.loop-kind-preserved
loop-kind-preserved c = record {
  deep = let h = opens-one _ _ _ _ c.open_after.ensures in let d = c.loop-kind.invariant.deep in omega arith;
  so_far = events-again _ _ _ _ _ c.loop-kind.invariant.so_far _ _ _ _ _ _ c.loop-kind-test.true c.sort_of-sort.ensures c.from-name.ensures c.from-bits.ensures c.line_for-line.ensures c.count_event.ensures _ _ c.in_ok-count_event.was c.open_after.ensures;
}

pub returns-in_err-count_event : goal.returns-in_err-count_event
returns-in_err-count_event c = rw c.from_residual.ensures (events-stopped _ _ _ _ _ c.loop-kind.invariant.so_far _ _ _ _ _ _ c.loop-kind-test.true c.sort_of-sort.ensures c.from-name.ensures c.from-bits.ensures c.line_for-line.ensures c.count_event.ensures c.in_err-count_event.was)

pub returns : goal.returns
returns c = events-ended _ _ _ _ _ c.loop-kind.invariant.so_far c.loop-kind-test.false
