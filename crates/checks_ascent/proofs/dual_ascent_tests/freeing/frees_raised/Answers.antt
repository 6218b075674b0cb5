use Rattle.dual_ascent.proofs.Extended.{extended_sets}
use Rattle.checks_ascent.proofs.dual_ascent_tests.freeing.frees_raised.Goals as goal

pub leaves_as_anew-requires-clause-sets : goal.leaves_as_anew-requires-clause-sets
leaves_as_anew-requires-clause-sets c = rw c.packing.ensures (extended_sets _ _ _ _ _ c.in_ok-raised.raised.ascent c.in_ok-raised.ensures.extended)
