use Rattle.std.proofs.Common.{◌≡◌, ◌≤◌}
use Rattle.reductions.specs.Sizes.{size}
use Rattle.reductions.specs.Working.{IsWork, load}
use Rattle.reductions.proofs.work.Work.settle.Given as goal

abbrev pub invariant-loop-vertex : goal.invariant-loop-vertex
invariant-loop-vertex l = record {
  work : IsWork l.self l.self.queue.items;
  size : size l.self.reduced.state ≤ size l.fn.self.reduced.state;
  first : l.self.reduced.first ≡ l.fn.self.reduced.first;
}

abbrev pub decreases-loop-vertex : goal.decreases-loop-vertex
decreases-loop-vertex l = load l.self
