use Rattle.node_work.proofs.Refined.{refined_itself, refined_on}
use Rattle.node_work.proofs.refining.refine.Goals as goal

pub loop-init : goal.loop-init
loop-init g c =
    let t = c.args.target.now in
    refined_itself t.place.whole.now.instance t.place.whole.now.store t.place.branch.now t.root t.least c.args.extension c.requires.raised

pub loop-preserved : goal.loop-preserved
loop-preserved g c =
    let t = c.args.target.now in
    refined_on t.place.whole.now.instance t.place.whole.now.store t.place.branch.now t.root t.least c.args.extension c.loop.refined c.in_ok-refined.refined c.loop.invariant c.in_ok-refined.ensures
