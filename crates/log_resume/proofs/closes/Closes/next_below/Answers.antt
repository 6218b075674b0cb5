use Rattle.log_resume.proofs.Nexts.{walked_node, walked_on, walked_out, walked_to}
use Rattle.log_resume.proofs.closes.Closes.next_below.Goals as goal

pub returns-in-Some-found-clause-next : goal.returns-in-Some-found-clause-next
returns-in-Some-found-clause-next c =
    let light = rw c.in-Some-found.is at c.in_ok-found.ensures.light in
    rw c.closes_in-number.ensures (walked_to c.args.self.instance c.args.least c.args.self.nodes c.loop-line.open c.in_ok-open.open c.loop-line.number c.loop-line.lines.now c.in-Some.line.now c.in-Some.rest.now c.in-Some-found.node c.loop-line.invariant c.in-Some.ensures.cases.0 c.in_ok-open.ensures light)

pub returns-in-Some-found-clause-node : goal.returns-in-Some-found-clause-node
returns-in-Some-found-clause-node c =
    let light = rw c.in-Some-found.is at c.in_ok-found.ensures.light in
    (walked_node c.args.self.instance c.args.least c.args.self.nodes c.loop-line.open c.loop-line.number c.loop-line.lines.now c.in-Some.line.now c.in-Some.rest.now c.in-Some-found.node c.loop-line.invariant c.in-Some.ensures.cases.0 c.in_ok-found.ensures.is_opened light).0

pub loop-line-preserved : goal.loop-line-preserved
loop-line-preserved c =
    let heavy = rw c.in_default-found.is at c.in_ok-found.ensures.light in
    rw c.closes_in-number.ensures (walked_on c.args.self.instance c.args.least c.args.self.nodes c.loop-line.open c.in_ok-open.open c.loop-line.number c.loop-line.lines.now c.in-Some.line.now c.in-Some.rest.now c.loop-line.invariant c.in-Some.ensures.cases.0 c.in_ok-open.ensures heavy)

pub returns-clause-next : goal.returns-clause-next
returns-clause-next c = walked_out c.args.self.instance c.args.least c.args.self.nodes c.loop-line.open c.loop-line.number c.loop-line.lines.now c.loop-line.invariant c.in_default.ensures.cases
