use Rattle.std.proofs.Common.{◌≡◌, List, Some, sym, ap, subst, ◌∙◌}
use Rattle.st_model.specs.declared.split_at.SplitAt.{SplitAt}
use Rattle.cut_packing.specs.ProofTree.{IsSplitAt}
use Rattle.log_format.specs.declared.proof_line.ProofLine.TheVariants.{Split}
use Rattle.cert_checker.specs.declared.turn.Turn.{Turn}
use Rattle.cert_checker.specs.Path.{branch_of, path_after}
use Rattle.log_resume.specs.Open.{Opened}
use Rattle.log_resume.proofs.Walks.{opened_after, opened_tells}
use Rattle.log_resume.proofs.open.OpenBranches.after.Goals as goal

pub invariant_of-result-in-Split : goal.invariant_of-result-in-Split
invariant_of-result-in-Split c =
    let right = subst (λ (o : Opened). (p : List Turn) (at : SplitAt) → o.path ≡ Some p → c.args.line.now ≡ Split at → IsSplitAt o.instance (branch_of p) at) (sym c.self.view_is) c.requires in
    opened_after c.self.inside.instance.now c.self.inside.path c.in-Some.path c.args.line.now (Some c.in_ok-split-in-Split.field-0) c.self.invariant right c.in-Some.is (ap Some c.in_ok-split-in-Split.ensures ∙ sym (ap (path_after c.in-Some.path) c.in-Split.is))

pub close-requires : goal.close-requires
close-requires c = opened_tells c.self.inside.instance.now c.self.inside.path c.in-Some.path c.self.invariant c.in-Some.is

pub invariant_of-result-in-Close : goal.invariant_of-result-in-Close
invariant_of-result-in-Close c =
    let right = subst (λ (o : Opened). (p : List Turn) (at : SplitAt) → o.path ≡ Some p → c.args.line.now ≡ Split at → IsSplitAt o.instance (branch_of p) at) (sym c.self.view_is) c.requires in
    opened_after c.self.inside.instance.now c.self.inside.path c.in-Some.path c.args.line.now c.in_ok-close-in-Close.field-0 c.self.invariant right c.in-Some.is (c.in_ok-close-in-Close.ensures ∙ sym (ap (path_after c.in-Some.path) c.in-Close.is))
