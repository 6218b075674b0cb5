use Rattle.std.proofs.Common.{subst}
use Rattle.cert_checker.specs.Posed.{problem_of}
use Rattle.cert_checker.specs.Following.{IsJudged}
use Rattle.cert_checker.proofs.Halves.{split_next}
use Rattle.cert_checker.proofs.Unsaid.{no_split}
use Rattle.cert_checker.proofs.proving.after_split.Goals as goal

pub returns-in_ok-next-in-BeforeHalf : goal.returns-in_ok-next-in-BeforeHalf
returns-in_ok-next-in-BeforeHalf c = λ count s below judged. split_next (problem_of c.args.posed.now) count c.args.at c.in-BeforeHalf.proving c.in_ok-next-in-BeforeHalf.next s below c.in_ok-next-in-BeforeHalf.ensures (subst (IsJudged (problem_of c.args.posed.now) count s) c.in-BeforeHalf.is judged)

pub returns-in_default : goal.returns-in_default
returns-in_default c = λ count s below judged. no_split (problem_of c.args.posed.now) count c.args.stage c.in_default.not-BeforeHalf c.args.at s judged
