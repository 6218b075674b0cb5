use Rattle.dimacs_writer.proofs.Joined.{◌then◌}
use Rattle.dimacs_writer.proofs.sections.put_solutions.Goals as goal

pub returns : goal.returns
returns c = c.in_ok-put_line.ensures then c.in_ok-put_amount.ensures then c.in_ok-put_line-2.ensures
