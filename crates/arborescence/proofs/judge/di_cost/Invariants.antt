use Rattle.std.proofs.Common.{◌≡◌, take}
use Rattle.st_model.specs.Arborescence.{arc_cost_in}
use Rattle.st_model.specs.Lists.{total}
use Rattle.arborescence.specs.DiNetwork.{di_ground}
use Rattle.arborescence.proofs.judge.di_cost.Given as goal

abbrev pub invariant-loop-tail : goal.invariant-loop-tail
invariant-loop-tail l = l.cost ≡ total (arc_cost_in (di_ground l.instance)) (take l.tail-index l.tail-items)
