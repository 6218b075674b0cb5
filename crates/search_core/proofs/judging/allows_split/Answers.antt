use Rattle.std.proofs.Common.{◌∙◌, subst}
use Rattle.std.specs.Prelude.{IsTrue, IfOk, ◌↔◌}
use Rattle.st_model.specs.declared.branch.Branch.{Branch}
use Rattle.search_core.specs.Needs.{AllowsSplit}
use Rattle.search_core.proofs.judging.allows_split.Goals as goal

pub returns : goal.returns
returns c =
    subst (λ (B : Branch). IfOk c.allows_split_of.result (λ yes. IsTrue yes ↔ AllowsSplit c.args.instance.now B c.args.packing.now c.args.value))
    (c.in_ok-sides.ensures ∙ c.in_ok-copied.ensures) c.allows_split_of.ensures
