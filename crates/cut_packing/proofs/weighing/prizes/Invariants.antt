use Rattle.std.proofs.Common.{◌≡◌, ◌*◌, ◌^◌, ◌≤◌, take}
use Rattle.st_model.specs.Lists.{total}
use Rattle.st_model.specs.Network.{pays}
use Rattle.cut_packing.proofs.weighing.prizes.Given as goal

abbrev pub invariant-loop-vertex : goal.invariant-loop-vertex
invariant-loop-vertex l =
    record { sum : l.sum ≡ total (pays l.instance) (take l.vertex-index l.vertices); bound : l.sum ≤ l.vertex-index * 2 ^ 64 }
