use Rattle.std.proofs.Common.{◌-◌, arith}
use Rattle.cut_packing.specs.Packing.{base_weight}
use Rattle.dual_ascent.specs.declared.ascent.Ascent.TheVariants.{Full}
use Rattle.dual_ascent.specs.Extension.{IsExtension}
use Rattle.node_work.specs.Open.{as_node}
use Rattle.node_work.proofs.Extended.{reached_step, full_node, ends_so}
use Rattle.node_work.proofs.Found.{found_together, full_root, full_start}
use Rattle.node_work.proofs.expanding.work_on.Given.{Over}
use Rattle.node_work.proofs.expanding.work_on.Goals.{In-Full}
use Rattle.node_work.proofs.expanding.work_on.Goals as goal

pub returns-in-Reached : goal.returns-in-Reached
returns-in-Reached g c =
    let r = c.requires.node in
    let e = rw c.in-Reached.is at c.in_ok-extension.ensures.extended.extended in
    reached_step c.args.whole.now.instance (as_node c.args.node) c.in-Reached.packing c.args.node.root c.args.incumbent.now.cost c.args.links c.in_ok-extension.field-0.better r.instance r.light (omega (arith, c.if-prove.false))
    c.in_ok-extension.ensures.better e

-- the packing is extended until it is full
full : (g : Over) (c : In-Full g) → IsExtension c.args.whole.now.instance c.args.node.branch c.args.node.packing c.args.node.root
    (c.args.incumbent.now.cost - base_weight c.args.whole.now.instance c.args.node.branch c.args.node.packing) (Full c.in-Full.packing)
full g c = rw c.in-Full.is at c.in_ok-extension.ensures.extended.extended

pub guess-requires-clause-start : goal.guess-requires-clause-start
guess-requires-clause-start g c κs within =
    let e = full g ((goal.at.guess-requires-clause-start g c).In-Full) in
    full_start c.args.whole.now.instance (as_node c.args.node) c.in-Full.packing c.args.node.root _ c.requires.node.node e

pub guess-requires-clause-rooted : goal.guess-requires-clause-rooted
guess-requires-clause-rooted g c κs within =
    let e = full g ((goal.at.guess-requires-clause-rooted g c).In-Full) in
    full_root c.args.whole.now.instance (as_node c.args.node) c.in-Full.packing c.args.node.root _ c.requires.node.rooted e

pub concluded-requires-clause-node : goal.concluded-requires-clause-node
concluded-requires-clause-node g c =
    let e = full g ((goal.at.concluded-requires-clause-node g c).In-Full) in
    let r = c.requires.node in
    rw c.node_of-node.ensures
    (full_node c.args.whole.now.instance (as_node c.args.node) c.in-Full.packing c.args.node.root c.args.incumbent.now.cost r.instance r.node r.light (omega (arith, c.if-prove.false)) e)

pub concluded-requires-clause-full : goal.concluded-requires-clause-full
concluded-requires-clause-full g c =
    let e = full g ((goal.at.concluded-requires-clause-full g c).In-Full) in
    rw c.node_of-node.ensures e.2

pub concluded-requires-clause-finding : goal.concluded-requires-clause-finding
concluded-requires-clause-finding g c =
    let more = rw c.least_after.ensures at c.in_ok-more-in-Full.ensures in
    rw (c.node_of-node.ensures, c.together-finding.ensures)
    (found_together c.args.whole.now.instance c.args.node.branch c.args.incumbent.now.cost c.in_ok-extension.field-0.better c.in_ok-more-in-Full.more c.in_ok-extension.ensures.better more)

pub returns-in_ok-more-in-Full : goal.returns-in_ok-more-in-Full
returns-in_ok-more-in-Full g c =
    let e = full g ((goal.at.returns-in_ok-more-in-Full g c).In-Full) in
    let ended = rw c.node_of-node.ensures at c.concluded.ensures in
    ends_so c.args.whole.now.instance (as_node c.args.node) c.in-Full.packing c.args.incumbent.now.cost c.args.links c.concluded.result e.0.no_lighter ended
