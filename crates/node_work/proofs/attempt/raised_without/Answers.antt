use Rattle.std.proofs.Common.{◌≡◌, ◌≤◌, ◌∙◌, All, subst, sym, arith}
use Rattle.st_model.specs.Branch.{IsVertexSet}
use Rattle.st_model.specs.Network.{Network}
use Rattle.cut_packing.specs.Packing.{base_weight}
use Rattle.dual_ascent.specs.Extension.{packing_of}
use Rattle.node_work.proofs.Refined.{raised_again_by}
use Rattle.node_work.proofs.attempt.raised_without.Goals as goal

pub free-requires-clause-sets : goal.free-requires-clause-sets
free-requires-clause-sets c =
    let network = c.args.site.now.target.place.whole.now.whole.network in
    rw c.packing-packing.ensures (subst (λ (I : Network). All (λ d. IsVertexSet I.n d.set) (packing_of c.args.extension.now.ascent).cuts) (sym network) c.requires.sets)

pub returns : goal.returns
returns c =
    let t = c.args.site.now.target in
    let I = t.place.whole.now.instance in
    let B = t.place.branch.now in
    let first = c.args.extension.now in
    let raised = c.in_ok-raised.raised in
    let r = c.requires in
    let e = c.in_ok-raised.ensures in
    let kept = c.in_ok-kept.ensures in
    let root = rw c.in_ok-left.ensures at kept.root in
    let before : c.base_weight-before.result ≡ base_weight I B (packing_of first.ascent) = rw (c.branch-branch.ensures, c.packing-packing.ensures) at c.base_weight-before.ensures in
    let after : c.base_weight.result ≡ base_weight I B (packing_of raised.ascent) = rw (c.branch-branch-2.ensures, c.packing.ensures) at c.base_weight.ensures in
    let heavy : base_weight I B (packing_of first.ascent) ≤ base_weight I B (packing_of raised.ascent) = omega (arith, before, after, c.if-base_weight-before.false) in
    raised_again_by I t.place.whole.now.store B c.in_ok-kept.kept t.root t.least _ _ raised first t.place.whole.now.whole.network r
    (rw c.packing-packing.ensures at kept.lighter) (root ∙ r.rooted) c.gap-target.ensures e.extended e.root e.charged e.ends heavy
