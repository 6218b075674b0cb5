use Rattle.std.proofs.Common.{subst}
use Rattle.log_format.specs.declared.log.Claim.TheVariants.{NoTree}
use Rattle.log_format.specs.Accepts.{RejectsClaimIn}
use Rattle.cert_checker.specs.Posed.{problem_of}
use Rattle.cert_checker.specs.declared.fault.JudgeError.{JudgeError}
use Rattle.cert_checker.specs.Judging.{IfFault}
use Rattle.cert_checker.specs.Following.{IsJudged}
use Rattle.cert_checker.proofs.Nexts.{wall_right, wall_wrong}
use Rattle.cert_checker.proofs.Unsaid.{no_wall}
use Rattle.cert_checker.proofs.following.after_wall.Goals as goal

pub returns-in-Ok : goal.returns-in-Ok
returns-in-Ok c = λ count s below judged. wall_right (problem_of c.args.posed.now) count c.args.wall.now s c.in-Ok.ensures.right (subst (IsJudged (problem_of c.args.posed.now) count s) c.in-BeforeWall.is judged)

pub returns-in-Err-Fault : goal.returns-in-Err-Fault
returns-in-Err-Fault c = λ count s below judged. wall_wrong (problem_of c.args.posed.now) count c.args.wall.now c.in-Err-Fault.fault s (subst (λ (e : JudgeError). IfFault e (RejectsClaimIn (problem_of c.args.posed.now) (NoTree c.args.wall.now))) c.in-Err-Fault.field-0-is c.in-Err-Fault.ensures.wrong) (subst (IsJudged (problem_of c.args.posed.now) count s) c.in-BeforeWall.is judged)

pub returns-in_default : goal.returns-in_default
returns-in_default c = λ count s below judged. no_wall (problem_of c.args.posed.now) count c.args.stage c.in_default.not-BeforeWall c.args.wall.now s judged
