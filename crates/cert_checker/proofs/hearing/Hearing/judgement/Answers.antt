use Rattle.std.proofs.Common.{length}
use Rattle.cert_checker.specs.Posed.{problem_of}
use Rattle.cert_checker.proofs.Hears.{hears_log, right_is, wrong_is, neither_is}
use Rattle.cert_checker.proofs.hearing.Hearing.judgement.Goals as goal

pub returns-in-Right-clause-judged : goal.returns-in-Right-clause-judged
returns-in-Right-clause-judged c =
    let v = c.self.inside in
    rw (← c.self.view_is) (λ log is same. right_is (problem_of v.posed) (length v.reader) log.claim v.stage c.in-Right.verdict (hears_log (problem_of v.posed) v.reader v.stage v.splits v.lines log c.self.invariant c.line_items.ensures is same) c.in-Right.is)

pub returns-in-Wrong-clause-judged : goal.returns-in-Wrong-clause-judged
returns-in-Wrong-clause-judged c =
    let v = c.self.inside in
    rw (← c.self.view_is) (λ log is same. wrong_is (problem_of v.posed) (length v.reader) log.claim v.stage c.in-Wrong.fault (hears_log (problem_of v.posed) v.reader v.stage v.splits v.lines log c.self.invariant c.line_items.ensures is same) c.in-Wrong.is)

pub returns-in_default-clause-judged : goal.returns-in_default-clause-judged
returns-in_default-clause-judged c =
    let v = c.self.inside in
    rw (← c.self.view_is) (λ log is same. neither_is (problem_of v.posed) (length v.reader) log.claim v.stage (hears_log (problem_of v.posed) v.reader v.stage v.splits v.lines log c.self.invariant c.line_items.ensures is same) c.in_default.not-Right c.in_default.not-Wrong)
