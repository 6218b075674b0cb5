use Rattle.std.proofs.Common.{sym, ◌∙◌}
use Rattle.search_core.proofs.Found.{found_at, none_found}
use Rattle.search_core.proofs.nodes.Nodes.find.Goals as goal

pub returns-in-Some : goal.returns-in-Some
returns-in-Some c =
    rw (← c.self.view_is) (found_at c.self.inside.ids.keys c.self.inside.made.items c.args.id c.in-Some.index c.index.result.now c.self.invariant (sym c.in-Some.is ∙ c.get_index_of.ensures.index) c.index.ensures)

pub returns-in-None : goal.returns-in-None
returns-in-None c =
    rw (← c.self.view_is) (none_found c.self.inside.ids.keys c.self.inside.made.items c.args.id c.self.invariant (sym c.in-None.is ∙ c.get_index_of.ensures.index))
