use Rattle.std.proofs.Common.{take_all, subst, List, arith}
use Rattle.std.specs.Prelude.{All}
use Rattle.std.proofs.lemmas.List.{take_more}
use Rattle.std.proofs.lemmas.List.Elements.{All-push}
use Rattle.lift_back.specs.declared.step.Step.{Step}
use Rattle.steiner_top.specs.Left.{CanBeCounted}
use Rattle.steiner_top.proofs.reducing.count_steps.Goals as goal

pub loop-step-preserved : goal.loop-step-preserved
loop-step-preserved c =
    rw (take_more c.args.steps.now c.loop-step.step-index c.step-item.result c.loop-step-test.true, ← c.step-item.is) (All-push CanBeCounted _ c.step-item.result c.loop-step.invariant c.count_vertices.ensures)

pub returns-clause-vertices : goal.returns-clause-vertices
returns-clause-vertices c =
    subst (λ (steps : List Step). All CanBeCounted steps) (take_all c.loop-step.step-index c.args.steps.now (omega (arith, c.loop-step-test.false))) c.loop-step.invariant
