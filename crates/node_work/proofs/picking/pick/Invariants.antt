use Rattle.cut_packing.specs.ProofTree.{IsSplit}
use Rattle.node_work.proofs.picking.pick.Given as goal

abbrev pub invariant-loop-before : goal.invariant-loop-before
invariant-loop-before l = IsSplit l.instance l.branch l.best
