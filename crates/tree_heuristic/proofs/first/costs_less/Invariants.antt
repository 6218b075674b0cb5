use Rattle.tree_heuristic.proofs.Saving.{Saves}
use Rattle.tree_heuristic.proofs.first.costs_less.Given as goal

abbrev pub invariant-loop-tail : goal.invariant-loop-tail
invariant-loop-tail l = Saves l.store.network l.tree.start l.alone l.tail-items l.tail-index l.spent l.saved
