use Rattle.node_pool.proofs.Stations.{root_given}
use Rattle.node_pool.proofs.opening.rooted.Goals as goal

pub returns-in-Ok-clause-all : goal.returns-in-Ok-clause-all
returns-in-Ok-clause-all g c = (root_given c.args.passes.items c.index_mut.result.now c.give.new.self c.args.root c.requires.some c.requires.new c.index_mut.ensures.value c.in-Ok.ensures.same c.in-Ok.ensures.gave).0

pub returns-in-Ok-clause-root : goal.returns-in-Ok-clause-root
returns-in-Ok-clause-root g c = (root_given c.args.passes.items c.index_mut.result.now c.give.new.self c.args.root c.requires.some c.requires.new c.index_mut.ensures.value c.in-Ok.ensures.same c.in-Ok.ensures.gave).1
