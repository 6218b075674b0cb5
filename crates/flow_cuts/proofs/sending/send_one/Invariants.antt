use Rattle.std.proofs.Common.{ℕ, ◌+◌, ◌≤◌, length, reverse}
use Rattle.std.specs.Prelude.{IsTrue}
use Rattle.flow_cuts.specs.Sending.{AreSteps, is_led, sent}
use Rattle.flow_cuts.proofs.Walks.{IsUnderWay}
use Rattle.flow_cuts.proofs.sending.send_one.Given as goal

abbrev pub invariant-loop-tail : goal.invariant-loop-tail
invariant-loop-tail l = record {
  few : (u v : ℕ) → sent l.flow u v + length l.steps.items ≤ sent l.fn.flow u v + length l.fn.steps.items;
  under_way : (q : ℕ) → AreSteps l.arcs (sent l.fn.flow) 1 q (reverse l.fn.steps.items) → IsTrue (is_led q (reverse l.fn.steps.items) l.arcs.root)
      → IsUnderWay l.arcs q (sent l.fn.flow) (sent l.flow) l.current (reverse l.steps.items);
}

abbrev pub decreases-loop-tail : goal.decreases-loop-tail
decreases-loop-tail l = length l.steps.items
