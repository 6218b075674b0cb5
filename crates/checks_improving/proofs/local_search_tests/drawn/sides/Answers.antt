use Rattle.std.proofs.Common.{subst, sym, ap, ◌∙◌}
use Rattle.st_model.specs.declared.branch.Branch.{Branch}
use Rattle.st_model.specs.Branch.{IsBranch, with_inside, with_outside}
use Rattle.checks_improving.proofs.Drawn.{one_in_one_out}
use Rattle.checks_improving.proofs.local_search_tests.drawn.sides.Goals as goal

pub returns : goal.returns
returns c =
    let I = c.args.instance.now in
    let half = c.in_ok-half.ensures ∙ ap (λ (b : Branch). with_inside b c.args.inside) c.all.ensures in
    let same = c.in_ok-sides.ensures ∙ c.in_ok-branch.ensures ∙ ap (λ (b : Branch). with_outside b c.args.outside) half in
    subst (λ (b : Branch). IsBranch I b) (sym same) (one_in_one_out I c.args.inside c.args.outside c.requires.inside c.requires.outside c.requires.apart)
