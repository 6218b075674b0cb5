use Rattle.std.proofs.Common.{subst, sym, ap, ◌∙◌}
use Rattle.st_model.specs.declared.branch.Branch.{Branch}
use Rattle.st_model.specs.Branch.{IsBranch, with_outside}
use Rattle.checks_workers.proofs.Avoiding.{one_out}
use Rattle.checks_workers.proofs.worker_loop_tests.starting.avoiding.Goals as goal

pub returns : goal.returns
returns c =
    let same = c.in_ok-sides.ensures ∙ c.in_ok-branch.ensures ∙ ap (λ (b : Branch). with_outside b c.args.vertex) c.all.ensures in
    (subst (λ (b : Branch). IsBranch c.args.instance.now b) (sym same) (one_out c.args.instance.now c.args.vertex c.requires), same)
