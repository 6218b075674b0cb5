use Rattle.std.proofs.Common.{sym}
use Rattle.stp_reader.proofs.Units.{same_links, same_needs}
use Rattle.stp_reader.proofs.reading.in_its_unit.Goals as goal

pub returns-in-Millionths-clause-links : goal.returns-in-Millionths-clause-links
returns-in-Millionths-clause-links c = rw c.in-Millionths.is (sym (same_links c.args.file.now.links.items))

pub returns-in-Millionths-clause-needs : goal.returns-in-Millionths-clause-needs
returns-in-Millionths-clause-needs c = rw c.in-Millionths.is (sym (same_needs c.args.file.now.needs.items))
