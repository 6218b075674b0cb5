use Rattle.dimacs_writer.proofs.Joined.{◌then◌}
use Rattle.dimacs_writer.proofs.sections.put_run.Goals as goal

pub returns : goal.returns
returns c = c.in_ok-put_line.ensures then rw c.from.ensures at c.in_ok-put_number.ensures then c.in_ok-put_line-2.ensures then c.in_ok-put_amount.ensures then c.in_ok-put_amount-2.ensures then c.in_ok-put_line-3.ensures
