use Rattle.std.proofs.Common.{subst}
use Rattle.cert_checker.specs.Following.{IsJudged}
use Rattle.cert_checker.proofs.Nexts.{proof_next}
use Rattle.cert_checker.proofs.Unsaid.{no_proof}
use Rattle.cert_checker.proofs.following.after_steps.Goals as goal

pub returns-in_ok-proving-in-AmongSteps : goal.returns-in_ok-proving-in-AmongSteps
returns-in_ok-proving-in-AmongSteps c = λ I count s below judged. proof_next I count c.in-AmongSteps.stepping c.in_ok-proving-in-AmongSteps.proving s below c.in_ok-proving-in-AmongSteps.ensures (subst (IsJudged I count s) c.in-AmongSteps.is judged)

pub returns-in_default : goal.returns-in_default
returns-in_default c = λ I count s below judged. no_proof I count c.args.stage c.in_default.not-AmongSteps s judged
