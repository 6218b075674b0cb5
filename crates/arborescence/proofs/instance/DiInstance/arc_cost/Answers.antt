use Rattle.std.proofs.Common.{sym}
use Rattle.arborescence.proofs.Putting.{arc_found, arc_in_range}
use Rattle.arborescence.proofs.instance.DiInstance.arc_cost.Goals as goal

pub returns-in_err-index-clause-cost : goal.returns-in_err-index-clause-cost
returns-in_err-index-clause-cost c =
    let none = arc_found c.self.inside.arcs.items _ c.args.tail c.args.head (record { a = 0; b = 0; cost = 0 }) _ c.self.invariant.1 c.in_err-index.ensures.index in
    rw (c.from_residual.ensures, ← c.self.view_is) (sym none)

pub returns-clause-cost : goal.returns-clause-cost
returns-clause-cost c =
    let found = arc_found c.self.inside.arcs.items _ c.args.tail c.args.head c.index.result.now _ c.self.invariant.1 c.in_ok-index.ensures.index in
    rw (c.index.ensures, ← c.self.view_is) (sym found)

pub returns-clause-in_range : goal.returns-clause-in_range
returns-clause-in_range c =
    let found = arc_found c.self.inside.arcs.items _ c.args.tail c.args.head c.index.result.now _ c.self.invariant.1 c.in_ok-index.ensures.index in
    let within = rw found at (arc_in_range c.self.inside.vertices c.self.inside.arcs.items c.args.tail c.args.head c.self.invariant.0.ends) in
    rw (← c.self.view_is) within
