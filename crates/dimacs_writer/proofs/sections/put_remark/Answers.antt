use Rattle.dimacs_writer.proofs.Joined.{◌then◌}
use Rattle.dimacs_writer.proofs.sections.put_remark.Goals as goal

pub returns : goal.returns
returns c = c.in_ok-put_line.ensures then rw c.remark_line.ensures at c.in_ok-put_line-2.ensures then c.in_ok-put_line-3.ensures
