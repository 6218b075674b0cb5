use Rattle.st_model.specs.Branch.{AreThose}
use Rattle.st_model.specs.Network.{is_required}
use Rattle.twice_tree.proofs.near.terminals_of.Given as goal

abbrev pub invariant-loop-before : goal.invariant-loop-before
invariant-loop-before l = AreThose (is_required l.store.network) l.before l.terminals.items
