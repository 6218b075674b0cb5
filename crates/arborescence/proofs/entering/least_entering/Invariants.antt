use Rattle.std.proofs.Common.{◌≡◌, None, take}
use Rattle.arborescence.specs.Choosing.{least_over}
use Rattle.arborescence.proofs.entering.least_entering.Given as goal

abbrev pub invariant-loop-head : goal.invariant-loop-head
invariant-loop-head l = l.least ≡ least_over l.arcs l.set.members None (take l.head-index l.head-items)
