use Rattle.node_pool.proofs.Passes.{kept_or_back, same_end}
use Rattle.node_pool.proofs.pass.Pass.give.Goals as goal

pub returns-clause-gave : goal.returns-clause-gave
returns-clause-gave g c = rw (← c.self.view_is) (kept_or_back c.keep.result c.self.inside.own c.put.new.self c.self.inside.others.items c.self.inside.list.items c.keep.new.list.items c.args.node c.in-Err.node
    (same_end c.put.new.self c.self.inside.own c.put.ensures.same c.in-Err.ensures.back.1 c.put.ensures.looks) c.in-Err.ensures.back.0 c.keep.ensures)
