use Rattle.stp_reader.specs.Reads.{ReadsFile, RefusedFile}
use Rattle.cert_checker.proofs.Checks.{accepted_by, one_of_file, refused_by, some_file_concludes, unit_by, wrong_by}
use Rattle.cert_checker.proofs.checking.check_file.Goals as goal

pub returns-clause-unit : goal.returns-clause-unit
returns-clause-unit c = unit_by (ReadsFile c.args.stp.now) (RefusedFile c.args.stp.now) c.args.log.now (one_of_file c.args.stp.now (c.file_refused_exactly.ensures c.args.stp.now)) c.file_answer.result c.file_answer.ensures.exact

pub returns-clause-some : goal.returns-clause-some
returns-clause-some c = some_file_concludes c.args.stp.now c.args.log.now c.file_answer.result c.file_answer.ensures.exact c.file_answer.ensures.concludes

pub returns-clause-accepted : goal.returns-clause-accepted
returns-clause-accepted c = accepted_by (ReadsFile c.args.stp.now) (RefusedFile c.args.stp.now) c.args.log.now (one_of_file c.args.stp.now (c.file_refused_exactly.ensures c.args.stp.now)) c.one_spelling.ensures (c.refused_exactly.ensures c.args.log.now) c.rejected_of_a_problem_exactly.ensures c.file_answer.result c.file_answer.ensures.exact

pub returns-clause-file : goal.returns-clause-file
returns-clause-file c = refused_by (ReadsFile c.args.stp.now) (RefusedFile c.args.stp.now) c.args.log.now (one_of_file c.args.stp.now (c.file_refused_exactly.ensures c.args.stp.now)) c.file_answer.result c.file_answer.ensures.exact

pub returns-clause-log : goal.returns-clause-log
returns-clause-log c = wrong_by (ReadsFile c.args.stp.now) (RefusedFile c.args.stp.now) c.args.log.now (one_of_file c.args.stp.now (c.file_refused_exactly.ensures c.args.stp.now)) c.one_spelling.ensures (c.refused_exactly.ensures c.args.log.now) c.rejected_of_a_problem_exactly.ensures c.file_answer.result c.file_answer.ensures.exact
