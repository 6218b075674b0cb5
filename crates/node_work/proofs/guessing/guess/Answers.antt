use Rattle.node_work.proofs.Found.{part_extendable}
use Rattle.node_work.proofs.guessing.guess.Goals as goal

pub guess_within-requires-clause-able : goal.guess_within-requires-clause-able
guess_within-requires-clause-able g c κs within =
    let t = c.args.target.now in
    let e = c.in_ok-part.ensures in
    let r = c.requires in
    let light = rw (c.base_weight.ensures, c.branch-part-3.ensures, c.in_ok-part-2.ensures, c.no_cuts-bare.ensures, c.from.ensures) at c.if-base_weight-from.false in
    rw (c.in_ok-part-2.ensures, c.no_cuts-bare.ensures)
    (part_extendable t.place.whole.now.instance t.place.branch.now c.in_ok-part.part c.args.packing.now t.root t.least e.branch (e.required r.start.required) e.part r.rooted light)
