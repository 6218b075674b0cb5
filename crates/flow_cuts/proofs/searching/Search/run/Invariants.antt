use Rattle.std.proofs.Common.{◌+◌, ◌-◌}
use Rattle.flow_cuts.specs.Sending.{IsTree, sent}
use Rattle.flow_cuts.proofs.Trees.{IsClosedUpTo}
use Rattle.flow_cuts.proofs.searching.Search.run.Given as goal

abbrev pub invariant-loop-head : goal.invariant-loop-head
invariant-loop-head l = record {
  tree : IsTree l.arcs (sent l.flow) l.capacity l.q l.self;
  closed : IsClosedUpTo l.arcs (sent l.flow) l.capacity l.next l.self.reaching.members;
}

abbrev pub decreases-loop-head : goal.decreases-loop-head
decreases-loop-head l = l.arcs.n + 1 - l.next
