use Rattle.node_pool.proofs.Passes.{queues_after, found_none}
use Rattle.node_pool.proofs.pass.steal_at.Goals as goal

pub returns-clause-queues : goal.returns-clause-queues
returns-clause-queues g c = queues_after c.args.ends.now.items c.args.k c.take.new.self c.index_mut.result.now c.requires c.index_mut.ensures.value c.take.ensures.same

pub returns-clause-none : goal.returns-clause-none
returns-clause-none g c = found_none c.take.result _ c.args.ends.now.items c.args.k c.take.new.self c.index_mut.result.now c.requires c.index_mut.ensures.value c.take.ensures.same c.take.ensures.took
