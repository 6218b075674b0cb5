use Rattle.std.proofs.Common.{◌≡◌, ◌≤◌, ◌+◌, List, ℕ, take, length}
use Rattle.lift_back.specs.Chains.{IsChainOf}
use Rattle.lift_back.specs.Undoing.{arcs_at_first}
use Rattle.lift_back.proofs.lifting.lifted.Given as goal

abbrev pub invariant-loop-left : goal.invariant-loop-left
invariant-loop-left l = record {
  within : l.left ≤ length l.undos;
  count : length l.chain.arrivals.items ≡ l.vertices + 1;
  chain : (all : List (ℕ × ℕ)) × IsChainOf l.start all l.chain × (arcs_at_first (take l.left l.undos) all ≡ arcs_at_first l.undos l.arcs);
}

abbrev pub decreases-loop-left : goal.decreases-loop-left
decreases-loop-left l = l.left
