use Rattle.std.proofs.Common.{refl, sym, ◌∙◌}
use Rattle.search_core.proofs.Found.{changed_node, unchanged_nodes, ids-set}
use Rattle.search_core.proofs.nodes.Nodes.set_place.Goals as goal

pub invariant_of-self : goal.invariant_of-self
invariant_of-self c =
    ids-set c.self.inside.ids.keys c.self.inside.made.items c.in-Some.index c.index_mut.result.now (λ m. record m { place = c.args.place }) c.self.invariant c.index_mut.ensures.value refl

pub returns-in-Some : goal.returns-in-Some
returns-in-Some c =
    rw (← c.self.view_is) (changed_node c.self.inside.ids.keys c.self.inside.made.items c.args.id c.in-Some.index (λ m. record m { place = c.args.place }) c.index_mut.result.now c.self.invariant (sym c.in-Some.is ∙ c.get_index_of.ensures.index) c.index_mut.ensures.value)

pub returns-in_default : goal.returns-in_default
returns-in_default c =
    rw (← c.self.view_is) (unchanged_nodes c.self.inside.ids.keys c.self.inside.made.items c.args.id (λ m. record m { place = c.args.place }) c.self.invariant c.in_default.ensures.index)
