use Rattle.std.proofs.Common.{◌≡◌, ◌*◌, ◌^◌, ◌≤◌, take}
use Rattle.cut_packing.specs.Packing.{load}
use Rattle.cut_packing.proofs.weighing.load.Given as goal

abbrev pub invariant-loop-cut : goal.invariant-loop-cut
invariant-loop-cut l =
    record { sum : l.sum ≡ load (take l.cut-index l.cuts) (l.tail, l.head); bound : l.sum ≤ l.cut-index * 2 ^ 64 }
