use Rattle.std.proofs.Common.{take}
use Rattle.tree_heuristic.specs.Spreading.{HasGoneOn}
use Rattle.tree_heuristic.proofs.spread.Spread.reach.Given as goal

abbrev pub invariant-loop-half : goal.invariant-loop-half
invariant-loop-half l = HasGoneOn l.store l.branch.outside l.initial.self (take l.half-index l.half-items) l.self
