use Rattle.std.proofs.Common.{vec_len}
use Rattle.tree_heuristic.specs.Keeping.{IsJudging}
use Rattle.tree_heuristic.proofs.kept.Kept.of.Given as goal

abbrev pub invariant-loop-tail : goal.invariant-loop-tail
invariant-loop-tail l = IsJudging l.instance l.branch.inside l.fn.tree l.arcs.items l.kept

abbrev pub decreases-loop-tail : goal.decreases-loop-tail
decreases-loop-tail l = vec_len l.arcs
