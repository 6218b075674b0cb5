use Rattle.std.proofs.Common.{◌≡◌, arith, ap, subst, sym, ◌∙◌}
use Rattle.st_model.proofs.ThinGrowth.{linked-vertices}
use Rattle.graph_store.specs.Changes.{set_cost}
use Rattle.graph_store.specs.Graph.{IsGraph}
use Rattle.graph_store.specs.Joined.{Linked, graph_of}
use Rattle.graph_store.proofs.Costs.{ends_apart, graph_cost, set_cost-ends, total-set_cost}
use Rattle.graph_store.proofs.PutLinks.{AreOnce-same}
use Rattle.graph_store.proofs.store.Store.set_cost.Goals as goal

pub set_cost-requires-clause-ordered : goal.set_cost-requires-clause-ordered
set_cost-requires-clause-ordered c =
    let before = ends_apart c.self.inside.links.n c.self.inside.links.links c.args.a c.args.b c.self.invariant.instance.ends (rw (← c.self.view_is) at c.requires.linked) in
    let low = c.min.ensures in
    let high = c.max.ensures in
    omega arith

pub set_cost-requires-clause-high : goal.set_cost-requires-clause-high
set_cost-requires-clause-high c =
    let ends = linked-vertices (graph_of c.self.inside.links c.self.inside.needs.items c.self.inside.present.items).network c.args.a c.args.b c.self.invariant.instance (rw (← c.self.view_is) at c.requires.linked) in
    let high = c.max.ensures in
    omega (arith, ends.0.1, ends.1.1)

pub invariant_of-self : goal.invariant_of-self
invariant_of-self c =
    let inside = c.self.inside in
    let is : c.set_cost.new.self ≡ record { n = inside.links.n; links = set_cost inside.links.links c.args.a c.args.b c.args.cost } = c.set_cost.ensures.cost ∙ (λ j. record { n = inside.links.n; links = set_cost-ends inside.links.links c.args.a c.args.b c.min.result c.max.result c.args.cost c.min.ensures c.max.ensures j }) in
    subst (λ (x : Linked). IsGraph (graph_of x inside.needs.items inside.present.items)) (sym is) (graph_cost inside.links inside.needs.items inside.present.items c.args.a c.args.b c.args.cost (rw (← c.self.view_is) at c.requires.linked) (AreOnce-same _ _ is c.set_cost.ensures.once) (rw (← c.self.view_is) at c.requires.amount) c.self.invariant)

pub returns-clause-graph : goal.returns-clause-graph
returns-clause-graph c = invariant_of-self c

pub returns-clause-cost : goal.returns-clause-cost
returns-clause-cost c =
    let inside = c.self.inside in
    let is : c.set_cost.new.self ≡ record { n = inside.links.n; links = set_cost inside.links.links c.args.a c.args.b c.args.cost } = c.set_cost.ensures.cost ∙ (λ j. record { n = inside.links.n; links = set_cost-ends inside.links.links c.args.a c.args.b c.min.result c.max.result c.args.cost c.min.ensures c.max.ensures j }) in
    rw (← c.self.view_is) (ap (λ (x : Linked). graph_of x inside.needs.items inside.present.items) is)

pub returns-clause-amount : goal.returns-clause-amount
returns-clause-amount c =
    let inside = c.self.inside in
    let is : c.set_cost.new.self ≡ record { n = inside.links.n; links = set_cost inside.links.links c.args.a c.args.b c.args.cost } = c.set_cost.ensures.cost ∙ (λ j. record { n = inside.links.n; links = set_cost-ends inside.links.links c.args.a c.args.b c.min.result c.max.result c.args.cost c.min.ensures c.max.ensures j }) in
    let costs = total-set_cost inside.links.links c.args.a c.args.b c.args.cost (rw (← c.self.view_is) at c.requires.linked) in
    rw (← c.self.view_is, is) (omega arith)
