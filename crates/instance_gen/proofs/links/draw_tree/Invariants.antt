use Rattle.std.proofs.Common.{◌≡◌}
use Rattle.instance_gen.specs.Generated.{drawn, tree_links}
use Rattle.instance_gen.proofs.links.draw_tree.Given as goal

abbrev pub invariant-loop-before : goal.invariant-loop-before
invariant-loop-before l = drawn l.draws.last l.links.items ≡ tree_links l.initial.draws.last l.before
