use Rattle.node_work.proofs.Heavier.{bare_extendable, either_extends}
use Rattle.node_work.proofs.raising.raise.Goals as goal

pub raise_from-requires-then-not-is_reached : goal.raise_from-requires-then-not-is_reached
raise_from-requires-then-not-is_reached c =
    let t = c.args.target.now in
    rw c.no_cuts.ensures (bare_extendable t.place.whole.now.instance t.place.branch.now c.args.packing t.root t.least c.requires)

pub returns-then-not-is_reached : goal.returns-then-not-is_reached
returns-then-not-is_reached c =
    let t = c.args.target.now in
    let second = rw c.no_cuts.ensures at c.in_ok-second.ensures in
    either_extends t.place.whole.now.instance t.place.whole.now.store t.place.branch.now c.args.packing t.root t.least c.in_ok-first.first c.in_ok-second.second c.heavier.result c.requires c.in_ok-first.ensures second c.heavier.ensures
