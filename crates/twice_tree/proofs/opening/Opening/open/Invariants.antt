use Rattle.std.proofs.Common.{◌+◌, ◌-◌}
use Rattle.twice_tree.specs.Opening.{OffersBefore}
use Rattle.twice_tree.proofs.opening.Opening.open.Given as goal

abbrev pub invariant-loop-vertex : goal.invariant-loop-vertex
invariant-loop-vertex l = OffersBefore l.store.network l.cells l.terminal l.vertex l.fn.self l.self

abbrev pub decreases-loop-vertex : goal.decreases-loop-vertex
decreases-loop-vertex l = l.store.network.n + 1 - l.vertex
