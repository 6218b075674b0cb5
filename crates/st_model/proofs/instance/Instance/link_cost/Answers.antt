use Rattle.std.proofs.Common.{sym}
use Rattle.st_model.proofs.Links.{link_found, linked_in_range}
use Rattle.st_model.proofs.instance.Instance.link_cost.Goals as goal

pub returns-in_err-index-clause-cost : goal.returns-in_err-index-clause-cost
returns-in_err-index-clause-cost c =
    let none = link_found c.self.inside.links.items _ c.args.a c.args.b _ _ (record { a = 0; b = 0; cost = 0 }) _ c.self.invariant.1 c.min.ensures c.max.ensures c.in_err-index.ensures.index in
    rw (c.from_residual.ensures, ← c.self.view_is) (sym none)

pub returns-clause-cost : goal.returns-clause-cost
returns-clause-cost c =
    let found = link_found c.self.inside.links.items _ c.args.a c.args.b _ _ c.index.result.now _ c.self.invariant.1 c.min.ensures c.max.ensures c.in_ok-index.ensures.index in
    rw (c.index.ensures, ← c.self.view_is) (sym found)

pub returns-clause-in_range : goal.returns-clause-in_range
returns-clause-in_range c =
    let found = link_found c.self.inside.links.items _ c.args.a c.args.b _ _ c.index.result.now _ c.self.invariant.1 c.min.ensures c.max.ensures c.in_ok-index.ensures.index in
    let within = rw found at (linked_in_range c.self.inside.vertices c.self.inside.links.items c.args.a c.args.b c.self.invariant.0.ends) in
    rw (← c.self.view_is) within
