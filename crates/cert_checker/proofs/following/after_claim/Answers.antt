use Rattle.std.proofs.Common.{subst}
use Rattle.cert_checker.specs.Following.{IsJudged}
use Rattle.cert_checker.proofs.Nexts.{claim_next}
use Rattle.cert_checker.proofs.Unsaid.{no_claim}
use Rattle.cert_checker.proofs.following.after_claim.Goals as goal

pub returns-in-BeforeClaim : goal.returns-in-BeforeClaim
returns-in-BeforeClaim c = λ I count s below judged. claim_next I count c.args.primal c.args.dual s (subst (IsJudged I count s) c.in-BeforeClaim.is judged)

pub returns-in_default : goal.returns-in_default
returns-in_default c = λ I count s below judged. no_claim I count c.args.stage c.in_default.not-BeforeClaim c.args.primal c.args.dual s judged
