use Rattle.std.proofs.Common.{◌≡◌, ap, ◌∙◌}
use Rattle.st_model.specs.declared.branch.Branch.{Branch}
use Rattle.better_trees.proofs.Narrow.{narrow_branch, narrow_part, narrow_required}
use Rattle.better_trees.proofs.narrowing.narrowed.Goals as goal

pub returns-clause-branch : goal.returns-clause-branch
returns-clause-branch c =
    let same : c.as_slice.result.now ≡ c.args.branch.now.inside = c.as_slice.ensures ∙ ap (λ (b : Branch). b.inside) c.branch-before.ensures in
    let narrow = narrow_branch c.args.instance.now c.args.branch.now c.args.reached.now.members c.in_ok-outside.outside.items c.requires c.in_ok-outside.ensures in
    rw (c.of-3.ensures, c.of.ensures, c.in_ok-inside.ensures.items, same, c.of-2.ensures) narrow

pub returns-clause-part : goal.returns-clause-part
returns-clause-part c =
    let same : c.as_slice.result.now ≡ c.args.branch.now.inside = c.as_slice.ensures ∙ ap (λ (b : Branch). b.inside) c.branch-before.ensures in
    let part = narrow_part c.args.instance.now c.args.branch.now c.args.reached.now.members c.in_ok-outside.outside.items c.requires c.in_ok-outside.ensures in
    rw (c.of-3.ensures, c.of.ensures, c.in_ok-inside.ensures.items, same, c.of-2.ensures) part

pub returns-clause-required : goal.returns-clause-required
returns-clause-required c leaves =
    rw (c.of-3.ensures, c.of-2.ensures) (narrow_required c.args.instance.now c.args.branch.now c.args.reached.now.members c.in_ok-outside.outside.items leaves c.in_ok-outside.ensures)
