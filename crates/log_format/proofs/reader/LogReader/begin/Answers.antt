use Rattle.std.proofs.Common.{[]}
use Rattle.log_format.specs.declared.log.Version.TheVariants.{One}
use Rattle.log_format.specs.declared.place.Place.TheVariants.{BeforeHeader}
use Rattle.log_format.proofs.PlaceLaws.{after_none, after_begins}
use Rattle.log_format.proofs.reader.LogReader.begin.Goals as goal

pub invariant_of-result : goal.invariant_of-result
invariant_of-result c = rw c.new.ensures (after_none One)

pub returns-clause-begins : goal.returns-clause-begins
returns-clause-begins c = rw c.new.ensures (after_begins [] One BeforeHeader (after_none One))
