use Rattle.twice_tree.specs.Cells.{AreChained}
use Rattle.twice_tree.proofs.chains.Chains.of.Given as goal

abbrev pub invariant-loop-before : goal.invariant-loop-before
invariant-loop-before l = AreChained l.store.network l.distances l.before l.chains
