use Rattle.cert_checker.proofs.Texts.{accepted_to, wrong_to}
use Rattle.cert_checker.proofs.checker.Checker.reasoned_answer.Goals as goal

pub returns-clause-accepted : goal.returns-clause-accepted
returns-clause-accepted c = accepted_to c.args.self.now.text c.one_spelling.ensures (c.refused_exactly.ensures c.args.self.now.text) c.rejected_of_a_problem_exactly.ensures c.args.self.now.problem c.answer.result c.answer.ensures.exact

pub returns-clause-log : goal.returns-clause-log
returns-clause-log c = wrong_to c.args.self.now.text c.one_spelling.ensures (c.refused_exactly.ensures c.args.self.now.text) c.rejected_of_a_problem_exactly.ensures c.args.self.now.problem c.answer.result c.answer.ensures.exact
