use Rattle.std.proofs.Common.{subst}
use Rattle.cert_checker.specs.Following.{IsJudged}
use Rattle.cert_checker.proofs.Nexts.{step_next}
use Rattle.cert_checker.proofs.Unsaid.{no_step}
use Rattle.cert_checker.proofs.following.after_step.Goals as goal

pub returns-in_ok-next-in-AmongSteps : goal.returns-in_ok-next-in-AmongSteps
returns-in_ok-next-in-AmongSteps c = λ I count s below judged. step_next I count c.in-AmongSteps.stepping c.args.step.now c.in_ok-next-in-AmongSteps.next s below c.in_ok-next-in-AmongSteps.ensures (subst (IsJudged I count s) c.in-AmongSteps.is judged)

pub returns-in_default : goal.returns-in_default
returns-in_default c = λ I count s below judged. no_step I count c.args.stage c.in_default.not-AmongSteps c.args.step.now s judged
