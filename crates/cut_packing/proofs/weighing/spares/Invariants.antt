use Rattle.std.proofs.Common.{◌≡◌, ◌*◌, ◌^◌, ◌≤◌, take}
use Rattle.st_model.specs.Lists.{total}
use Rattle.cut_packing.specs.Packing.{spare}
use Rattle.cut_packing.proofs.weighing.spares.Given as goal

abbrev pub invariant-loop-pair : goal.invariant-loop-pair
invariant-loop-pair l =
    record { sum : l.sum ≡ total (spare l.instance l.cuts) (take l.pair-index l.pairs); bound : l.sum ≤ l.pair-index * 2 ^ 64 }
