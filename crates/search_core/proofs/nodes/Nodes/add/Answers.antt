use Rattle.search_core.proofs.Found.{ids-push}
use Rattle.search_core.proofs.nodes.Nodes.add.Goals as goal

pub invariant_of-self-2 : goal.invariant_of-self-2
invariant_of-self-2 c =
    rw (c.push_reserved.ensures.items, c.reserve.ensures.items) (ids-push c.self.inside.ids.keys c.insert.new.self.keys c.self.inside.made.items c.args.made c.self.invariant c.in_ok-insert.ensures.keys (rw (← c.self.view_is) at c.requires))
