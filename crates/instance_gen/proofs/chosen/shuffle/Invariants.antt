use Rattle.std.proofs.Common.{◌≡◌, length}
use Rattle.instance_gen.specs.Generated.{shuffled, exchanges}
use Rattle.instance_gen.proofs.chosen.shuffle.Given as goal

abbrev pub invariant-loop-index : goal.invariant-loop-index
invariant-loop-index l = (shuffled l.draws.last l.list.items ≡ exchanges l.n (shuffled l.initial.draws.last l.initial.list.items) l.index) × (length l.list.items ≡ l.n)
