use Rattle.std.proofs.Common.{◌≡◌}
use Rattle.st_model.specs.Lists.{sum_to}
use Rattle.st_model.specs.Network.{pays}
use Rattle.st_model.proofs.cost.all_prizes.Given as goal

abbrev pub invariant-loop-before : goal.invariant-loop-before
invariant-loop-before l = l.sum ≡ sum_to (pays l.instance) l.before
