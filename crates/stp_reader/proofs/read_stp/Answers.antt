use Rattle.std.proofs.lemmas.Result.{err_from_is_err_and}
use Rattle.arborescence.specs.Problem.{plain}
use Rattle.stp_reader.specs.declared.mode.Mode.TheVariants.{Plain}
use Rattle.stp_reader.specs.Place.{undirected}
use Rattle.stp_reader.specs.Reached.{file_from}
use Rattle.stp_reader.proofs.FileKinds.{never_directed}
use Rattle.stp_reader.proofs.OneAnswer.{as_problem, network_stated, same_instance, fault_refused, memory_alone, that_fault, no_fault}
use Rattle.stp_reader.proofs.read_stp.Goals as goal

pub returns-in_err-contents-clause-only : goal.returns-in_err-contents-clause-only
returns-in_err-contents-clause-only c = λ I scale reads.
    let p = err_from_is_err_and c.from_residual.result c.from_residual.ensures.1 in
    rw (p.1, p.2) (memory_alone Plain c.args.bytes.now c.in_err-contents.field-0.0 (plain I) scale c.in_err-contents.ensures.refused (as_problem c.args.bytes.now I scale reads))

pub returns-in_err-contents-clause-fault : goal.returns-in_err-contents-clause-fault
returns-in_err-contents-clause-fault c =
    let p = err_from_is_err_and c.from_residual.result c.from_residual.ensures.1 in
    rw (p.1, p.2) (fault_refused c.args.bytes.now c.in_err-contents.field-0.0 c.in_err-contents.ensures.refused)

pub returns-in_err-contents-clause-refused : goal.returns-in_err-contents-clause-refused
returns-in_err-contents-clause-refused c = λ line reason refused.
    let p = err_from_is_err_and c.from_residual.result c.from_residual.ensures.1 in
    rw (p.1, p.2) (that_fault Plain c.args.bytes.now c.in_err-contents.field-0.0 line reason c.in_err-contents.ensures.refused refused)

pub unreachable-requires : goal.unreachable-requires
unreachable-requires c = never_directed c.args.bytes.now _ (rw c.in-Directed.is at c.in_ok-contents.ensures.contents)

pub returns-clause-found : goal.returns-clause-found
returns-clause-found c =
    let read = c.in_ok-read-in-Undirected.ensures in
    network_stated c.args.bytes.now (file_from c.in-Undirected.file) c.in_ok-read-in-Undirected.read.instance c.in_ok-read-in-Undirected.read.scale (rw c.in-Undirected.is at c.in_ok-contents.ensures.contents) read.instance read.scale

pub returns-clause-only : goal.returns-clause-only
returns-clause-only c = λ I scale reads.
    let read = c.in_ok-read-in-Undirected.ensures in
    same_instance c.args.bytes.now (file_from c.in-Undirected.file) c.in_ok-read-in-Undirected.read.instance I c.in_ok-read-in-Undirected.read.scale scale (rw c.in-Undirected.is at c.in_ok-contents.ensures.contents) read.instance read.scale reads

pub returns-clause-refused : goal.returns-clause-refused
returns-clause-refused c = λ line reason refused.
    no_fault Plain c.args.bytes.now (undirected (file_from c.in-Undirected.file)) line reason (rw c.in-Undirected.is at c.in_ok-contents.ensures.contents) refused
