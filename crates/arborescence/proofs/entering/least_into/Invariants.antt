use Rattle.std.proofs.Common.{◌≡◌, take}
use Rattle.arborescence.specs.Choosing.{least_in}
use Rattle.arborescence.proofs.entering.least_into.Given as goal

abbrev pub invariant-loop-arc : goal.invariant-loop-arc
invariant-loop-arc l = l.least ≡ least_in l.set.members l.head l.fn.given (take l.arc-index l.arcs)
