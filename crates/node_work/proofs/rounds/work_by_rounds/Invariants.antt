use Rattle.std.specs.Prelude.{IfSome}
use Rattle.better_trees.specs.Better.{IsBetterAt}
use Rattle.node_work.specs.Target.{IsExtendedFor}
use Rattle.node_work.proofs.rounds.work_by_rounds.Given as goal

abbrev pub invariant-loop-index : goal.invariant-loop-index
invariant-loop-index g l = IsExtendedFor l.fn.target l.fn.packing l.rounds.extension
    × IfSome l.rounds.better (IsBetterAt l.fn.target.place l.fn.incumbent.cost)
