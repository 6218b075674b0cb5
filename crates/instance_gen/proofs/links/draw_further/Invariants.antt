use Rattle.std.proofs.Common.{◌≡◌}
use Rattle.instance_gen.specs.Generated.{drawn, further_links}
use Rattle.instance_gen.proofs.links.draw_further.Given as goal

abbrev pub invariant-loop-more : goal.invariant-loop-more
invariant-loop-more l = drawn l.draws.last l.links.items ≡ further_links l.n (drawn l.initial.draws.last l.initial.links.items) l._more
