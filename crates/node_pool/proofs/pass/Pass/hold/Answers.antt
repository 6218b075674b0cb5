use Rattle.std.proofs.Common.{refl}
use Rattle.node_pool.proofs.Passes.{kept_or_back}
use Rattle.node_pool.proofs.pass.Pass.hold.Goals as goal

pub returns-clause-held : goal.returns-clause-held
returns-clause-held g c = rw (← c.self.view_is) (kept_or_back c.keep.result c.self.inside.own c.self.inside.own c.self.inside.others.items c.self.inside.list.items c.keep.new.list.items c.args.node c.args.node refl refl c.keep.ensures)
