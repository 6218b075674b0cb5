use Rattle.std.proofs.Common.{◌≡◌, ◌+◌, take, length}
use Rattle.lift_back.specs.Chains.{AreLed, IsChainOf}
use Rattle.lift_back.proofs.chain.Chain.of.Given as goal

abbrev pub invariant-loop-arc : goal.invariant-loop-arc
invariant-loop-arc l = record {
  count : length l.chain.arrivals.items ≡ l.vertices + 1;
  chain : AreLed (l.vertices + 1) l.start l.arcs → IsChainOf l.start (take l.arc-index l.arcs) l.chain;
}
