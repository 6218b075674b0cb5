use Rattle.std.proofs.Common.{◌≡◌, ◌+◌, ◌++◌, ◌∷◌, [], ap, sym, ◌∙◌, arith}
use Rattle.st_model.specs.Lists.{up_to}
use Rattle.reductions.proofs.Starting.{up_to_more}
use Rattle.reductions.proofs.work.all_vertices.Goals as goal

pub loop-before-preserved : goal.loop-before-preserved
loop-before-preserved c =
    c.in_ok-push.ensures.items ∙ ap (λ xs. xs ++ (c.loop-before.before + 1) ∷ []) c.loop-before.invariant ∙ sym (up_to_more c.loop-before.before)

pub returns : goal.returns
returns c =
    let all : c.loop-before.before ≡ c.args.vertices = omega arith in
    c.loop-before.invariant ∙ ap up_to all
