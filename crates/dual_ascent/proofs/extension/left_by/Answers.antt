use Rattle.dual_ascent.proofs.Extended.{packing_borne}
use Rattle.dual_ascent.proofs.extension.left_by.Goals as goal

pub charge_cuts-requires-clause-borne : goal.charge_cuts-requires-clause-borne
charge_cuts-requires-clause-borne c =
    let arcs = c.in_ok-arcs.ensures in
    rw c.as_slice.ensures (packing_borne c.args.store.now c.args.branch.now c.args.packing.now c.args.root c.vertices.ensures.graph c.requires.whole c.requires.start c.requires.root c.in_ok-arcs.arcs c.in_ok-twins.twins arcs.root arcs.count arcs.kinds arcs.remaining c.in_ok-twins.ensures.left)
