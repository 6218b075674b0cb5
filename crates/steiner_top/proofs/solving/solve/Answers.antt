use Rattle.arborescence.specs.Problem.{plain, directed}
use Rattle.steiner_top.proofs.solving.solve.Goals as goal

pub returns-in_ok-outcome-in-Plain : goal.returns-in_ok-outcome-in-Plain
returns-in_ok-outcome-in-Plain g c = (plain c.in-Plain.reading.instance, c.in-Plain.reading.scale, rw c.in-Plain.is at c.in_ok-reading.ensures.found, c.in_ok-outcome-in-Plain.ensures)

pub returns-in_ok-outcome-in-Directed : goal.returns-in_ok-outcome-in-Directed
returns-in_ok-outcome-in-Directed g c = (directed c.in-Directed.instance, c.in-Directed.scale, rw c.in-Directed.is at c.in_ok-reading.ensures.found, c.in_ok-outcome-in-Directed.ensures)
