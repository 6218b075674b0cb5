use Rattle.node_pool.proofs.Stations.{pool_set}
use Rattle.checks_shared.proofs.node_pool_tests.take_at.Goals as goal

pub returns-clause-all : goal.returns-clause-all
returns-clause-all g c = pool_set c.args.passes.now.items c.args.place c.index_mut.result.now c.take.new.self c.requires.place c.requires.all c.index_mut.ensures.value c.take.ensures.same

pub returns-in_err-take-clause-all : goal.returns-in_err-take-clause-all
returns-in_err-take-clause-all g c = pool_set c.args.passes.now.items c.args.place c.index_mut.result.now c.take.new.self c.requires.place c.requires.all c.index_mut.ensures.value c.take.ensures.same
