use Rattle.std.proofs.Common.{vec_len}
use Rattle.tree_heuristic.specs.Keeping.{IsTrimming, tree_of}
use Rattle.tree_heuristic.proofs.kept.Kept.trim.Given as goal

abbrev pub invariant-loop-head : goal.invariant-loop-head
invariant-loop-head l = IsTrimming l.instance l.branch.inside (tree_of l.initial.self) l.self

abbrev pub decreases-loop-head : goal.decreases-loop-head
decreases-loop-head l = vec_len l.self.arcs
