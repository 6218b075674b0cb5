use Rattle.cut_packing.proofs.Judged.{AreNamed}
use Rattle.cut_packing.proofs.named.named_values.Given as goal

abbrev pub invariant-loop-cut : goal.invariant-loop-cut
invariant-loop-cut l = AreNamed l.count l.cuts l.cut-index l.values.items
