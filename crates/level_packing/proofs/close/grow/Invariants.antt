use Rattle.std.proofs.Common.{drop}
use Rattle.level_packing.specs.Forest.{IsGrown, groups}
use Rattle.level_packing.proofs.close.grow.Given as goal

abbrev pub invariant-loop-at : goal.invariant-loop-at
invariant-loop-at l = IsGrown l.instance l.branch l.root (drop l.at l.links) (groups l.forest)
