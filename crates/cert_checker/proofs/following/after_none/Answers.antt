use Rattle.std.proofs.Common.{subst}
use Rattle.cert_checker.specs.Following.{IsJudged}
use Rattle.cert_checker.proofs.Nexts.{none_next}
use Rattle.cert_checker.proofs.Unsaid.{no_none}
use Rattle.cert_checker.proofs.following.after_none.Goals as goal

pub returns-in-BeforeClaim : goal.returns-in-BeforeClaim
returns-in-BeforeClaim c = λ I count s below judged. none_next I count s (subst (IsJudged I count s) c.in-BeforeClaim.is judged)

pub returns-in_default : goal.returns-in_default
returns-in_default c = λ I count s below judged. no_none I count c.args.stage c.in_default.not-BeforeClaim s judged
