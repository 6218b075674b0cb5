use Rattle.std.proofs.Common.{ℕ, [], ◌∷◌, min, take, sym, ap, subst, ◌∙◌}
use Rattle.std.proofs.lemmas.List.{take_more}
use Rattle.st_model.specs.Branch.{IsBranch}
use Rattle.cut_packing.specs.Packing.{weight}
use Rattle.branching.specs.declared.node.Node.{Node}
use Rattle.certificate_log.proofs.Lowest.{lowest-append}
use Rattle.certificate_log.proofs.bound.lowest.Goals as goal

pub weight-requires : goal.weight-requires
weight-requires c =
    subst (λ (N : Node). IsBranch c.args.instance.now N.branch) (sym c.node-item.is) (c.requires c.loop-node.node-index c.node-item.result c.loop-node-test.true)

pub loop-node-preserved : goal.loop-node-preserved
loop-node-preserved c =
    let I = c.args.instance.now in
    let nodes = c.args.nodes.now in
    let i = c.loop-node.node-index in
    let N = c.node-item.result in
    rw (take_more nodes i N c.loop-node-test.true, ← c.node-item.is)
    (c.lesser-bound.ensures
    ∙ (ap (λ (w : ℕ). min c.loop-node.bound w) c.weight.ensures
    ∙ (ap (λ (b : ℕ). min b (weight I N.branch N.packing)) c.loop-node.invariant ∙ sym (lowest-append I c.args.top (take i nodes) (N ∷ [])))))
