use Rattle.std.proofs.Common.{take}
use Rattle.st_model.specs.Growth.{HasReached}
use Rattle.st_model.proofs.thinning.Growth.reach.Given as goal

abbrev pub invariant-loop-head : goal.invariant-loop-head
invariant-loop-head l = HasReached l.instance l.links l.start l.initial.self.arcs.items (take l.head-index l.heads) l.self
