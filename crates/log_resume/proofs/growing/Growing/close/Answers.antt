use Rattle.log_resume.proofs.Due.{none_due, other_due}
use Rattle.log_resume.proofs.growing.Growing.close.Goals as goal

pub kept-requires-clause-due : goal.kept-requires-clause-due
kept-requires-clause-due c = none_due c.args.self.number c.args.self.searches.now c.in_default.ensures.cases

pub kept-requires-then-search-self-clause-due : goal.kept-requires-then-search-self-clause-due
kept-requires-then-search-self-clause-due c = other_due c.args.self.number c.args.self.searches.now c.in-Some.search.now c.in-Some.left.now c.in-Some.ensures.cases.0 c.if-search-self.true
