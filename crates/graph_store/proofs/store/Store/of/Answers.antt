use Rattle.graph_store.proofs.AllPresent.{all_present_is_graph}
use Rattle.graph_store.proofs.store.Store.of.Goals as goal

pub invariant_of-result : goal.invariant_of-result
invariant_of-result c =
    rw (c.in_ok-links.ensures, c.in_ok-needs.ensures.items, c.needs.ensures.all, c.in_ok-present.ensures, c.vertices.ensures.count) (all_present_is_graph c.args.instance.now c.vertices.ensures.instance)
