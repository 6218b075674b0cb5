use Rattle.std.proofs.Common.{ap, ◌∙◌, arith}
use Rattle.log_resume.specs.Open.{Opened, closes_along}
use Rattle.log_resume.proofs.Walks.{closes_from_start, start_right}
use Rattle.log_resume.proofs.closes.Closes.of.Goals as goal

pub invariant_of-result : goal.invariant_of-result
invariant_of-result c = (
  start_right c.args.reduced.now.state c.args.instance.now c.in_ok-open.open c.args.proof.now c.lines.result.now c.of.ensures.state c.requires.same c.requires.proves c.requires.writable c.in_ok-open.ensures.start c.lines.ensures.all,
  omega arith,
)

pub returns-clause-nodes : goal.returns-clause-nodes
returns-clause-nodes c = λ p same.
    ap (λ (o : Opened). closes_along o.path 0 c.lines.result.now) c.in_ok-open.ensures.start
    ∙ closes_from_start c.args.reduced.now.state p c.lines.result.now c.of.ensures.state (c.lines.ensures.all ∙ same)
