use Rattle.cert_checker.proofs.Checks.{accepted_answers, file_answers, some_concludes, unit_of_it, wrong_answers}
use Rattle.cert_checker.proofs.checking.check.Goals as goal

pub returns-clause-accepted : goal.returns-clause-accepted
returns-clause-accepted c = accepted_answers c.args.stp.now c.args.log.now (c.refused_exactly-2.ensures c.args.stp.now) c.one_spelling.ensures (c.refused_exactly.ensures c.args.log.now) c.rejected_of_a_problem_exactly.ensures c.answer.result c.answer.ensures.exact

pub returns-clause-file : goal.returns-clause-file
returns-clause-file c = file_answers c.args.stp.now c.args.log.now (c.refused_exactly-2.ensures c.args.stp.now) c.answer.result c.answer.ensures.exact

pub returns-clause-log : goal.returns-clause-log
returns-clause-log c = wrong_answers c.args.stp.now c.args.log.now (c.refused_exactly-2.ensures c.args.stp.now) c.one_spelling.ensures (c.refused_exactly.ensures c.args.log.now) c.rejected_of_a_problem_exactly.ensures c.answer.result c.answer.ensures.exact

pub returns-clause-some : goal.returns-clause-some
returns-clause-some c = some_concludes c.args.stp.now c.args.log.now c.answer.result c.answer.ensures.exact c.answer.ensures.concludes

pub returns-clause-unit : goal.returns-clause-unit
returns-clause-unit c = unit_of_it c.args.stp.now c.args.log.now (c.refused_exactly-2.ensures c.args.stp.now) c.answer.result c.answer.ensures.exact
