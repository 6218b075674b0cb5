use Rattle.std.proofs.Common.{◌≡◌, ◌++◌, drop}
use Rattle.instance_gen.specs.Generated.{all_paying}
use Rattle.instance_gen.proofs.chosen.pay_all.Given as goal

-- those that have paid, and what those after them are still to pay
abbrev pub invariant-loop-vertex : goal.invariant-loop-vertex
invariant-loop-vertex l = l.needs.items ++ all_paying l.draws.last (drop l.vertex-index l.chosen) ≡ all_paying l.initial.draws.last l.chosen
