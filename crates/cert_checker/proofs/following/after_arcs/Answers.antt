use Rattle.std.proofs.Common.{subst}
use Rattle.cert_checker.specs.Posed.{problem_of}
use Rattle.cert_checker.specs.Following.{IsJudged}
use Rattle.cert_checker.proofs.Nexts.{count_next}
use Rattle.cert_checker.proofs.Unsaid.{no_count}
use Rattle.cert_checker.proofs.following.after_arcs.Goals as goal

pub returns-in_ok-next-in-AmongArcs : goal.returns-in_ok-next-in-AmongArcs
returns-in_ok-next-in-AmongArcs c = λ steps count s below judged.
    let a = c.in-AmongArcs in
    count_next (problem_of c.args.posed.now) count a.primal a.dual a.start steps a.arcs c.in_ok-next-in-AmongArcs.next s c.in_ok-next-in-AmongArcs.ensures (subst (IsJudged (problem_of c.args.posed.now) count s) c.in-AmongArcs.is judged)

pub returns-in_default : goal.returns-in_default
returns-in_default c = λ steps count s below judged. no_count (problem_of c.args.posed.now) count c.args.stage c.in_default.not-AmongArcs steps s judged
