use Rattle.std.proofs.Common.{◌≡◌}
use Rattle.st_model.specs.Lists.{up_to}
use Rattle.instance_gen.proofs.chosen.vertices.Given as goal

abbrev pub invariant-loop-before : goal.invariant-loop-before
invariant-loop-before l = l.list.items ≡ up_to l.before
