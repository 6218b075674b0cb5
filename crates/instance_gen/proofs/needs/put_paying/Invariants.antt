use Rattle.std.proofs.Common.{◌≡◌, ◌++◌}
use Rattle.instance_gen.specs.Text
use Rattle.instance_gen.specs.Text.{those_of}
use Rattle.instance_gen.proofs.needs.put_paying.Given as goal

abbrev pub invariant-loop-before : goal.invariant-loop-before
invariant-loop-before l = l.needs.items ≡ l.initial.needs.items ++ those_of l.instance Text.is_paying l.before
