use Rattle.std.proofs.Common.{◌≡◌, take}
use Rattle.cut_packing.proofs.packing.shared_cuts.Given as goal

abbrev pub invariant-loop-cut : goal.invariant-loop-cut
invariant-loop-cut l = l.copies.items ≡ take l.cut-index l.cuts
