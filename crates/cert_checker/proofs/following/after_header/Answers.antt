use Rattle.std.proofs.Common.{subst}
use Rattle.cert_checker.specs.Following.{IsJudged}
use Rattle.cert_checker.proofs.Nexts.{header_next}
use Rattle.cert_checker.proofs.Unsaid.{no_header}
use Rattle.cert_checker.proofs.following.after_header.Goals as goal

pub returns-in-BeforeHeader : goal.returns-in-BeforeHeader
returns-in-BeforeHeader c = λ I version count s below judged. header_next I count version s (subst (IsJudged I count s) c.in-BeforeHeader.is judged)

pub returns-in_default : goal.returns-in_default
returns-in_default c = λ I version count s below judged. no_header I count c.args.stage c.in_default.not-BeforeHeader version s judged
