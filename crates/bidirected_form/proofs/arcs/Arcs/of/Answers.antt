use Rattle.std.proofs.Common.{◌+◌}
use Rattle.std.proofs.lemmas.List.{length-replicate}
use Rattle.bidirected_form.proofs.Built.{built_digraph, none_marked}
use Rattle.bidirected_form.proofs.arcs.Arcs.of.Goals as goal

pub invariant_of-result : goal.invariant_of-result
invariant_of-result c =
    (rw c.vertices-vertices.ensures.count (built_digraph c.args.store.now c.args.branch.now c.in_ok-kinds.kinds.items c.in_ok-rows.rows c.args.root (c.in_ok-kinds.ensures.kinds 0) c.vertices-vertices.ensures.graph c.requires c.in_ok-kinds.ensures.length c.in_ok-rows.ensures.length c.in_ok-rows.ensures.arcs (rw c.deref.ensures.value at c.in_ok-rows.ensures.costs)), rw c.in_ok-marks.ensures (length-replicate _ _), rw c.in_ok-marks.ensures (none_marked (c.vertices-vertices.result + 1)))
