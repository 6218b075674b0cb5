use Rattle.std.proofs.Common.{◌-◌, ◌≤◌, length}
use Rattle.st_model.specs.Growth.{IsGrowth, AreSettled}
use Rattle.st_model.proofs.thinning.all_arcs.Given as goal

abbrev pub decreases-loop-next : goal.decreases-loop-next
decreases-loop-next l = l.instance.n - l.next

abbrev pub invariant-loop-next : goal.invariant-loop-next
invariant-loop-next l = IsGrowth l.instance l.links l.start l.growth × AreSettled l.links l.start l.growth.arcs.items l.next × (l.next ≤ length l.growth.arcs.items)
