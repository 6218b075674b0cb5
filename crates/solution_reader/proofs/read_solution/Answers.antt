use Rattle.std.proofs.lemmas.Result.{err_from_is_err_and}
use Rattle.solution_reader.specs.Seen.{whole_from}
use Rattle.solution_reader.proofs.OneClaim.{reads_stated, same_claim, fault_refused, memory_alone, that_fault, no_fault}
use Rattle.solution_reader.proofs.read_solution.Goals as goal

pub returns-in_err-whole-clause-only : goal.returns-in_err-whole-clause-only
returns-in_err-whole-clause-only c = λ claim reads.
    let p = err_from_is_err_and c.from_residual.result c.from_residual.ensures.1 in
    rw (p.1, p.2) (memory_alone c.args.bytes.now c.in_err-whole.field-0.0 claim c.in_err-whole.ensures.refused reads)

pub returns-in_err-whole-clause-fault : goal.returns-in_err-whole-clause-fault
returns-in_err-whole-clause-fault c =
    let p = err_from_is_err_and c.from_residual.result c.from_residual.ensures.1 in
    rw (p.1, p.2) (fault_refused c.args.bytes.now c.in_err-whole.field-0.0 c.in_err-whole.ensures.refused)

pub returns-in_err-whole-clause-refused : goal.returns-in_err-whole-clause-refused
returns-in_err-whole-clause-refused c = λ line reason refused.
    let p = err_from_is_err_and c.from_residual.result c.from_residual.ensures.1 in
    rw (p.1, p.2) (that_fault c.args.bytes.now c.in_err-whole.field-0.0 line reason c.in_err-whole.ensures.refused refused)

pub returns-clause-found : goal.returns-clause-found
returns-clause-found c = reads_stated c.args.bytes.now (whole_from c.in_ok-whole.whole) c.in_ok-claimed.claimed c.in_ok-whole.ensures.whole c.in_ok-claimed.ensures

pub returns-clause-only : goal.returns-clause-only
returns-clause-only c = λ claim reads. same_claim c.args.bytes.now (whole_from c.in_ok-whole.whole) c.in_ok-claimed.claimed claim c.in_ok-whole.ensures.whole c.in_ok-claimed.ensures reads

pub returns-clause-refused : goal.returns-clause-refused
returns-clause-refused c = λ line reason refused. no_fault c.args.bytes.now (whole_from c.in_ok-whole.whole) line reason c.in_ok-whole.ensures.whole refused
