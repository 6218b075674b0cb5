use Rattle.std.proofs.Common.{arith, sym, ap, subst, ◌<◌}
use Rattle.graph_store.specs.Graph.{IsGraph}
use Rattle.graph_store.specs.Joined.{Linked, graph_of}
use Rattle.graph_store.proofs.PutLinks.{graph_put, graph_attached, links_put, attached_after, on_ok_then, total-put_link, AreOnce-same}
use Rattle.graph_store.proofs.store.Store.put_link.Goals as goal

pub invariant_of-self : goal.invariant_of-self
invariant_of-self c =
    let inside = c.self.inside in
    let is = links_put inside.links c.cheapen.new.self c.args.a c.args.b c.min-low.result c.max-high.result c.args.cost c.min-low.ensures c.max-high.ensures (rw c.if-cheapen.true at c.cheapen.ensures.yes) in
    subst (λ (x : Linked). IsGraph (graph_of x inside.needs.items inside.present.items)) (sym is) (graph_put inside.links inside.needs.items inside.present.items c.args.a c.args.b c.args.cost c.requires.different (AreOnce-same _ _ is c.cheapen.ensures.once) (rw (← c.self.view_is) at c.requires.a) (rw (← c.self.view_is) at c.requires.b) (rw (← c.self.view_is) at c.requires.amount) c.self.invariant)

pub returns-then-cheapen-clause-ok : goal.returns-then-cheapen-clause-ok
returns-then-cheapen-clause-ok c =
    let inside = c.self.inside in
    let is = links_put inside.links c.cheapen.new.self c.args.a c.args.b c.min-low.result c.max-high.result c.args.cost c.min-low.ensures c.max-high.ensures (rw c.if-cheapen.true at c.cheapen.ensures.yes) in
    rw (← c.self.view_is) (ap (λ (x : Linked). graph_of x inside.needs.items inside.present.items) is)

pub returns-then-cheapen-clause-amount : goal.returns-then-cheapen-clause-amount
returns-then-cheapen-clause-amount c =
    let inside = c.self.inside in
    let is = links_put inside.links c.cheapen.new.self c.args.a c.args.b c.min-low.result c.max-high.result c.args.cost c.min-low.ensures c.max-high.ensures (rw c.if-cheapen.true at c.cheapen.ensures.yes) in
    let more = total-put_link inside.links.links (record { a = c.args.a; b = c.args.b; cost = c.args.cost }) in
    rw (← c.self.view_is, is) (omega arith)

pub invariant_of-self-2 : goal.invariant_of-self-2
invariant_of-self-2 c =
    let inside = c.self.inside in
    let before : c.min-low.result < c.max-high.result = (let apart = c.requires.different in omega arith) in
    let both = attached_after inside.links c.cheapen.new.self c.attach.new.self c.args.a c.args.b c.min-low.result c.max-high.result c.args.cost c.attach.result c.min-low.ensures c.max-high.ensures before (rw c.if-cheapen.false at c.cheapen.ensures.no) c.attach.ensures.ok c.attach.ensures.err in
    graph_attached inside.links c.attach.new.self inside.needs.items inside.present.items c.args.a c.args.b c.args.cost c.attach.result c.requires.different both.0 both.1 c.attach.ensures.once (rw (← c.self.view_is) at c.requires.a) (rw (← c.self.view_is) at c.requires.b) (rw (← c.self.view_is) at c.requires.amount) c.self.invariant

pub returns-clause-ok : goal.returns-clause-ok
returns-clause-ok c =
    let inside = c.self.inside in
    let before : c.min-low.result < c.max-high.result = (let apart = c.requires.different in omega arith) in
    let both = attached_after inside.links c.cheapen.new.self c.attach.new.self c.args.a c.args.b c.min-low.result c.max-high.result c.args.cost c.attach.result c.min-low.ensures c.max-high.ensures before (rw c.if-cheapen.false at c.cheapen.ensures.no) c.attach.ensures.ok c.attach.ensures.err in
    rw (← c.self.view_is) (on_ok_then c.attach.result _ _ both.0 (λ is. ap (λ (x : Linked). graph_of x inside.needs.items inside.present.items) is))

pub returns-clause-amount : goal.returns-clause-amount
returns-clause-amount c =
    let inside = c.self.inside in
    let before : c.min-low.result < c.max-high.result = (let apart = c.requires.different in omega arith) in
    let both = attached_after inside.links c.cheapen.new.self c.attach.new.self c.args.a c.args.b c.min-low.result c.max-high.result c.args.cost c.attach.result c.min-low.ensures c.max-high.ensures before (rw c.if-cheapen.false at c.cheapen.ensures.no) c.attach.ensures.ok c.attach.ensures.err in
    let more = total-put_link inside.links.links (record { a = c.args.a; b = c.args.b; cost = c.args.cost }) in
    rw (← c.self.view_is) (on_ok_then c.attach.result _ _ both.0 (λ is. rw is (omega arith)))
