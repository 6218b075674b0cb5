use Rattle.std.proofs.Common.{◌≡◌}
use Rattle.checks_trees.proofs.twice_tree_tests.brute_force.drawn.Given as goal

abbrev pub invariant-loop-vertex : goal.invariant-loop-vertex
invariant-loop-vertex l = l.store.network.n ≡ 6
