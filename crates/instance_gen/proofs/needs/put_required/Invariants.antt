use Rattle.std.proofs.Common.{◌≡◌, ◌++◌}
use Rattle.st_model.specs.Network
use Rattle.instance_gen.specs.Text.{those_of}
use Rattle.instance_gen.proofs.needs.put_required.Given as goal

abbrev pub invariant-loop-before : goal.invariant-loop-before
invariant-loop-before l = l.needs.items ≡ l.initial.needs.items ++ those_of l.instance Network.is_needed l.before
