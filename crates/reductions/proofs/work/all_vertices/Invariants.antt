use Rattle.std.proofs.Common.{◌≡◌}
use Rattle.st_model.specs.Lists.{up_to}
use Rattle.reductions.proofs.work.all_vertices.Given as goal

abbrev pub invariant-loop-before : goal.invariant-loop-before
invariant-loop-before l = l.all.items ≡ up_to l.before
