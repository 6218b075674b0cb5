use Rattle.node_work.proofs.Refined.{extended_to}
use Rattle.node_work.proofs.raising.raise_from.Goals as goal

pub returns : goal.returns
returns c =
    let t = c.args.target.now in
    let whole = t.place.whole.now in
    let e = c.in_ok-raised.ensures in
    extended_to whole.instance whole.store t.place.branch.now c.args.packing t.root t.least _ c.in_ok-raised.raised whole.whole.network c.requires.light
    c.gap-below.ensures e.extended e.root e.charged e.ends
