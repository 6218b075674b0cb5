use Rattle.dimacs_writer.proofs.Tells.{tells, tells_tree}
use Rattle.dimacs_writer.proofs.law.text_tells_solution.Goals as goal

pub returns-clause-solution : goal.returns-clause-solution
returns-clause-solution c = tells

pub returns-clause-tree : goal.returns-clause-tree
returns-clause-tree c = tells_tree
