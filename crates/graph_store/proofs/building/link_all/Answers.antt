use Rattle.std.proofs.Common.{ap}
use Rattle.st_model.specs.declared.link.Link.{Link}
use Rattle.graph_store.specs.Joined.{Linked}
use Rattle.st_model.proofs.Once.{absent}
use Rattle.graph_store.proofs.building.link_all.Goals as goal

pub attach-requires-clause-absent : goal.attach-requires-clause-absent
attach-requires-clause-absent c =
    let nothing : Link = record { a = 0; b = 0; cost = 0 } in
    absent c.links-link-items.result.now c.loop-link.links.links c.loop-link.link-index nothing (rw c.links-link-items.ensures.all c.links-link-items.ensures.instance.one_each) c.loop-link-test.true (ap (λ (x : Linked). x.links) c.loop-link.invariant)
