use Rattle.std.proofs.Common.{arith, ap, ◌∙◌, false, set, ◌-◌, List, Bool}
use Rattle.st_model.specs.Network.{link, amount}
use Rattle.graph_store.specs.Graph.{Graph}
use Rattle.graph_store.proofs.Vertices.{vertex_out, links_without}
use Rattle.graph_store.proofs.store.Store.remove_vertex.Goals as goal

pub invariant_of-self : goal.invariant_of-self
invariant_of-self c = vertex_out c.self.inside.links c.self.inside.needs.items c.self.inside.present.items c.args.vertex c.requires.0 (rw (← c.self.view_is) at c.in_default.ensures.alone) c.self.invariant

pub returns-clause-graph : goal.returns-clause-graph
returns-clause-graph c = invariant_of-self c

pub returns-clause-removes : goal.returns-clause-removes
returns-clause-removes c = record {
  count = ap (λ (g : Graph). g.network.n) c.self.view_is ∙ c.loop-other.invariant.count;
  needs = ap (λ (g : Graph). g.network.needs) c.self.view_is ∙ c.loop-other.invariant.needs;
  present = ap (λ (xs : List Bool). set xs (c.args.vertex - 1) false) (ap (λ (g : Graph). g.present) c.self.view_is ∙ c.loop-other.invariant.present);
  links = links_without c.args.self.now.network.links c.self.inside.links.links c.args.vertex (rw (← c.self.view_is) at c.in_default.ensures.alone) (λ u w not_u not_w. ap (λ (g : Graph). link g.network.links u w) c.self.view_is ∙ c.loop-other.invariant.links u w not_u not_w);
}

pub returns-clause-amount : goal.returns-clause-amount
returns-clause-amount c = let before = c.loop-other.invariant.amount in let same = ap (λ (g : Graph). amount g.network) c.self.view_is in omega arith
