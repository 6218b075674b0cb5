use Rattle.node_work.proofs.Closed.{some_present, spanned_step, spanning_reaches}
use Rattle.node_work.proofs.Splits.{decided_certain}
use Rattle.node_work.proofs.Writing.{writable_wall}
use Rattle.node_work.proofs.expanding.close.Goals as goal

pub close_all-requires-clause-certain : goal.close_all-requires-clause-certain
close_all-requires-clause-certain c v here = decided_certain c.args.instance.now c.in_ok-branch.branch v (rw (← c.in_ok-branch.ensures) at c.requires.decided) here

pub close_all-requires-clause-some : goal.close_all-requires-clause-some
close_all-requires-clause-some c =
    let r = c.requires in
    rw c.in_ok-branch.ensures (some_present c.args.instance.now c.args.node.branch c.args.node.packing c.args.least r.node.node.branch r.node.node.required r.light r.cheap)

pub returns-in-Tree : goal.returns-in-Tree
returns-in-Tree c links =
    let closed = rw (c.in-Tree.is, c.in_ok-branch.ensures) at c.in_ok-tree.ensures.closed in
    let sets = rw c.in-Tree.is at c.in_ok-tree.ensures.sets in
    let few = rw c.in-Tree.is at c.in_ok-tree.ensures.few in
    let p = c.priced.ensures in
    let reaches = spanning_reaches c.args.instance.now c.args.node.branch c.in-Tree.tree c.requires.node.node.branch closed.spanning in
    spanned_step c.args.instance.now c.args.node c.in-Tree.tree c.in-Tree.level c.args.least links c.priced.result
    c.requires.instance closed.spanning.arborescence closed.fits closed.weighs closed.base sets few (p.better c.args.node.branch reaches) p.price p.none

-- a wall
pub returns : goal.returns
returns c links =
    let I = c.args.instance.now in
    let closes = rw (c.in-Wall.is, c.in_ok-branch.ensures) at c.in_ok-tree.ensures.closed in
    let sets = rw c.in-Wall.is at c.in_ok-tree.ensures.sets in
    let few = rw c.in-Wall.is at c.in_ok-tree.ensures.few in
    rw c.closed.ensures (record {
      tree = tt;
      ends = (
        record { fits = closes.fits; weighs = closes.weighs },
        writable_wall I c.args.node.branch c.in-Wall.level c.args.least c.requires.instance closes.fits sets few c.ranges.least.fits,
      );
    })
