use Rattle.dual_ascent.specs.Searching.{AreBelow}
use Rattle.dual_ascent.proofs.levels.below.Given as goal

abbrev pub invariant-loop-before : goal.invariant-loop-before
invariant-loop-before l = AreBelow l.vertices l.limit l.least l.before l.near.items
