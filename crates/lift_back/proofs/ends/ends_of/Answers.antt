use Rattle.graph_store.specs.declared.half.Half.{Half}
use Rattle.lift_back.proofs.Halves.{no_end, one_end, two_ends, three_ends}
use Rattle.lift_back.proofs.ends.ends_of.Goals as goal

nothing : Half
nothing = record { to = 0; cost = 0 }

pub returns-in-empty : goal.returns-in-empty
returns-in-empty c = no_end c.args.store.now.network c.args.vertex c.neighbours.result.now c.neighbours.ensures.halves c.in-empty.len_below

pub returns-in-len1 : goal.returns-in-len1
unfolding nothing
returns-in-len1 c = one_end c.args.store.now.network c.args.vertex c.neighbours.result.now nothing c.neighbours.ensures.halves c.in-len1.len_at_least c.in-len1.len_below

pub returns-in-len2 : goal.returns-in-len2
unfolding nothing
returns-in-len2 c = two_ends c.args.store.now.network c.args.vertex c.neighbours.result.now nothing c.neighbours.ensures.halves c.in-len2.len_at_least c.in-len2.len_below

pub returns-in_default : goal.returns-in_default
returns-in_default c = three_ends c.args.store.now.network c.args.vertex c.neighbours.result.now c.neighbours.ensures.halves c.in_default.len_at_least
