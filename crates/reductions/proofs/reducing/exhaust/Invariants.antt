use Rattle.std.proofs.Common.{◌≡◌}
use Rattle.reductions.specs.Sizes.{size}
use Rattle.reductions.specs.Working.{IsSettled}
use Rattle.reductions.proofs.reducing.exhaust.Given as goal

abbrev pub invariant-loop-work : goal.invariant-loop-work
invariant-loop-work l = record {
  settled : IsSettled l.work;
  first : l.work.reduced.first ≡ l.initial.work.reduced.first;
  finder : l.finder ≡ l.initial.finder;
}

abbrev pub decreases-loop-work : goal.decreases-loop-work
decreases-loop-work l = size l.work.reduced.state
