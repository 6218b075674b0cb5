use Rattle.std.proofs.Common.{None}
use Rattle.node_work.specs.Open.{as_node}
use Rattle.node_work.proofs.Extended.{ends_so, full_node, reached_step}
use Rattle.node_work.proofs.following.split_by.Goals as goal

pub returns-in-Reached : goal.returns-in-Reached
returns-in-Reached c links allowed =
    let r = c.requires in
    let n = r.node in
    let e = rw c.in-Reached.is at c.in_ok-ascent.ensures.extended in
    rw c.closed.ensures (reached_step c.args.whole.now.instance (as_node c.args.node) c.in-Reached.packing c.args.node.root c.args.least links None n.instance n.light c.ranges.least.fits tt e)

pub parted-requires-clause-node : goal.parted-requires-clause-node
parted-requires-clause-node c =
    let n = c.requires.node in
    let e = rw c.in-Full.is at c.in_ok-ascent.ensures.extended in
    rw c.node_of-node.ensures (full_node c.args.whole.now.instance (as_node c.args.node) c.in-Full.packing c.args.node.root c.args.least n.instance n.node n.light c.ranges.least.fits e)

pub parted-requires-clause-full : goal.parted-requires-clause-full
parted-requires-clause-full c =
    let e = rw c.in-Full.is at c.in_ok-ascent.ensures.extended in
    rw c.node_of-node.ensures e.2

pub returns-in-Full : goal.returns-in-Full
returns-in-Full c links allowed =
    let e = rw c.in-Full.is at c.in_ok-ascent.ensures.extended in
    let parted = rw c.node_of-node.ensures at (c.parted.ensures links allowed) in
    ends_so c.args.whole.now.instance (as_node c.args.node) c.in-Full.packing c.args.least links c.parted.result e.0.no_lighter parted
