use Rattle.std.proofs.Common.{◌∙◌, sym, subst}
use Rattle.st_model.specs.declared.branch.Branch.{Branch}
use Rattle.st_model.specs.Branch.{IsBranch}
use Rattle.checks_packings.proofs.SplitHalves.{yes, no}
use Rattle.checks_packings.proofs.told.half.Goals as goal
use Rattle.checks_packings.proofs.told.half.Goals.{then-told+in_ok-half, else-told+in_ok-half-2}

pub returns : goal.returns
returns c =
    let I = c.args.instance.now in
    let B = c.args.branch.now in
    let instance = c.vertices.ensures.instance in
    elim c.if-told.branch [
      | then-told+in_ok-half w ↦ subst (λ (b : Branch). IsBranch I b) (sym (w.half-is ∙ w.in_ok-half.ensures)) (yes I B c.args.told.at instance c.requires.split c.requires.branch)
      | else-told+in_ok-half-2 w ↦ subst (λ (b : Branch). IsBranch I b) (sym (w.half-is ∙ w.in_ok-half-2.ensures)) (no I B c.args.told.at c.requires.split c.requires.branch)
    ]
