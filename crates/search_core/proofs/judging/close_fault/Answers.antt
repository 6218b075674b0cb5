use Rattle.std.proofs.Common.{◌∙◌, subst}
use Rattle.std.specs.Prelude.{IfOk}
use Rattle.st_model.specs.declared.branch.Branch.{Branch}
use Rattle.search_core.specs.Needs.{IsCloseFault}
use Rattle.search_core.proofs.judging.close_fault.Goals as goal

pub returns : goal.returns
returns c =
    subst (λ (B : Branch). IfOk c.close_fault_of.result (IsCloseFault c.args.instance.now B c.args.packing.now c.args.value))
    (c.in_ok-sides.ensures ∙ c.in_ok-copied.ensures) c.close_fault_of.ensures
