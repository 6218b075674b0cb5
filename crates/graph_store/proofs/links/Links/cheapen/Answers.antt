use Rattle.std.proofs.Common.{sym, ◌∙◌}
use Rattle.graph_store.proofs.Costs.{set_cost-put}
use Rattle.graph_store.proofs.PutLinks.{put_link-kept}
use Rattle.graph_store.proofs.links.Links.cheapen.Goals as goal

pub returns-in_default-clause-once : goal.returns-in_default-clause-once
returns-in_default-clause-once c = c.cost.ensures.once

pub returns-then-cost-known-clause-yes : goal.returns-then-cost-known-clause-yes
returns-then-cost-known-clause-yes c =
    let put = set_cost-put c.args.self.now.links c.args.low c.args.high c.args.cost c.in-Some.known (sym c.cost.ensures.cost ∙ c.in-Some.is) c.if-cost-known.true in
    c.set_cost.ensures.cost ∙ (λ j. record { n = c.args.self.now.n; links = put j })

pub returns-else-cost-known-clause-yes : goal.returns-else-cost-known-clause-yes
returns-else-cost-known-clause-yes c =
    let same = put_link-kept c.args.self.now.links (record { a = c.args.low; b = c.args.high; cost = c.args.cost }) c.in-Some.known (sym c.cost.ensures.cost ∙ c.in-Some.is) c.if-cost-known.false in
    λ j. record { n = c.args.self.now.n; links = sym same j }

pub returns-else-cost-known-clause-once : goal.returns-else-cost-known-clause-once
returns-else-cost-known-clause-once c = c.cost.ensures.once
