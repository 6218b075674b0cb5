use Rattle.std.proofs.Common.{ap}
use Rattle.std.proofs.lemmas.Result.{err_from_is_err_and}
use Rattle.arborescence.specs.Problem as problem
use Rattle.stp_reader.specs.declared.mode.Mode.TheVariants.{Any}
use Rattle.stp_reader.specs.Place.{undirected, directed}
use Rattle.stp_reader.specs.Reached.{file_from, di_file_from}
use Rattle.stp_reader.proofs.OneAnswer.{reads_stated, same_problem, file_fault_refused, memory_alone, that_fault, no_fault}
use Rattle.stp_reader.proofs.read_file.Goals as goal

pub returns-in_err-contents-clause-only : goal.returns-in_err-contents-clause-only
returns-in_err-contents-clause-only c = λ P scale reads.
    let p = err_from_is_err_and c.from_residual.result c.from_residual.ensures.1 in
    rw (p.1, p.2) (memory_alone Any c.args.bytes.now c.in_err-contents.field-0.0 P scale c.in_err-contents.ensures.refused reads)

pub returns-in_err-contents-clause-fault : goal.returns-in_err-contents-clause-fault
returns-in_err-contents-clause-fault c =
    let p = err_from_is_err_and c.from_residual.result c.from_residual.ensures.1 in
    rw (p.1, p.2) (file_fault_refused c.args.bytes.now c.in_err-contents.field-0.0 c.in_err-contents.ensures.refused)

pub returns-in_err-contents-clause-refused : goal.returns-in_err-contents-clause-refused
returns-in_err-contents-clause-refused c = λ line reason refused.
    let p = err_from_is_err_and c.from_residual.result c.from_residual.ensures.1 in
    rw (p.1, p.2) (that_fault Any c.args.bytes.now c.in_err-contents.field-0.0 line reason c.in_err-contents.ensures.refused refused)

-- ---- a file of links

pub returns-in_ok-read-in-Undirected-clause-found : goal.returns-in_ok-read-in-Undirected-clause-found
returns-in_ok-read-in-Undirected-clause-found c =
    let at = c.in_ok-read-in-Undirected in
    reads_stated Any c.args.bytes.now (undirected (file_from c.in-Undirected.file)) (problem.plain at.read.instance) at.read.scale
    (rw c.in-Undirected.is at c.in_ok-contents.ensures.contents) (ap problem.plain at.ensures.instance) at.ensures.scale

pub returns-in_ok-read-in-Undirected-clause-only : goal.returns-in_ok-read-in-Undirected-clause-only
returns-in_ok-read-in-Undirected-clause-only c = λ P scale reads.
    let at = c.in_ok-read-in-Undirected in
    same_problem Any c.args.bytes.now (undirected (file_from c.in-Undirected.file)) (problem.plain at.read.instance) P at.read.scale scale
    (rw c.in-Undirected.is at c.in_ok-contents.ensures.contents) (ap problem.plain at.ensures.instance) at.ensures.scale reads

pub returns-in_ok-read-in-Undirected-clause-refused : goal.returns-in_ok-read-in-Undirected-clause-refused
returns-in_ok-read-in-Undirected-clause-refused c = λ line reason refused.
    no_fault Any c.args.bytes.now (undirected (file_from c.in-Undirected.file)) line reason (rw c.in-Undirected.is at c.in_ok-contents.ensures.contents) refused

-- ---- a directed file

pub returns-in_ok-instance-in-Directed-clause-found : goal.returns-in_ok-instance-in-Directed-clause-found
returns-in_ok-instance-in-Directed-clause-found c =
    let at = c.in_ok-instance-in-Directed in
    reads_stated Any c.args.bytes.now (directed (di_file_from c.in-Directed.file)) (problem.directed at.instance) at.scale
    (rw c.in-Directed.is at c.in_ok-contents.ensures.contents) (ap problem.directed at.ensures.instance) at.ensures.scale

pub returns-in_ok-instance-in-Directed-clause-only : goal.returns-in_ok-instance-in-Directed-clause-only
returns-in_ok-instance-in-Directed-clause-only c = λ P scale reads.
    let at = c.in_ok-instance-in-Directed in
    same_problem Any c.args.bytes.now (directed (di_file_from c.in-Directed.file)) (problem.directed at.instance) P at.scale scale
    (rw c.in-Directed.is at c.in_ok-contents.ensures.contents) (ap problem.directed at.ensures.instance) at.ensures.scale reads

pub returns-in_ok-instance-in-Directed-clause-refused : goal.returns-in_ok-instance-in-Directed-clause-refused
returns-in_ok-instance-in-Directed-clause-refused c = λ line reason refused.
    no_fault Any c.args.bytes.now (directed (di_file_from c.in-Directed.file)) line reason (rw c.in-Directed.is at c.in_ok-contents.ensures.contents) refused
