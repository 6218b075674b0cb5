use Rattle.std.proofs.Common.{◌≡◌}
use Rattle.reductions.specs.Working.{IsSettled}
use Rattle.reductions.proofs.reducing.thin_out.Given as goal

abbrev pub invariant-loop-round : goal.invariant-loop-round
invariant-loop-round l = record {
  settled : IsSettled l.work;
  first : l.work.reduced.first ≡ l.initial.work.reduced.first;
  finder : l.finder ≡ l.initial.finder;
}
