use Rattle.std.proofs.Common.{sym}
use Rattle.stp_reader.proofs.Units.{same_links}
use Rattle.stp_reader.proofs.reading.arcs_in_their_unit.Goals as goal

pub returns-in-Millionths-clause-arcs : goal.returns-in-Millionths-clause-arcs
returns-in-Millionths-clause-arcs c = rw c.in-Millionths.is (sym (same_links c.args.file.now.arcs.items))
