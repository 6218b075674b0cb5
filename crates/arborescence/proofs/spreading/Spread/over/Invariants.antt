use Rattle.std.proofs.Common.{◌-◌, length}
use Rattle.st_model.proofs.Walked.{IsWalked}
use Rattle.arborescence.specs.Open.{IsSpread}
use Rattle.arborescence.proofs.spreading.Spread.over.Given as goal

abbrev pub invariant-loop-tail : goal.invariant-loop-tail
invariant-loop-tail l = record { walked : IsWalked l.heads l.root l.next l.spread.reached.members; spread : IsSpread l.heads l.root l.spread }

abbrev pub decreases-loop-tail : goal.decreases-loop-tail
decreases-loop-tail l = length l.heads - l.next
