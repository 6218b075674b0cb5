use Rattle.arborescence.proofs.Spreads.{IsReaching}
use Rattle.arborescence.proofs.spreading.Spread.reach.Given as goal

abbrev pub invariant-loop-head : goal.invariant-loop-head
invariant-loop-head l = IsReaching l.heads l.root l.initial.self.reached.members l.head-items l.head-index l.self
