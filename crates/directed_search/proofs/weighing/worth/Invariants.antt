use Rattle.std.proofs.Common.{◌≡◌, ◌*◌, ◌^◌, ◌<◌, ◌≤◌, take}
use Rattle.std.specs.Prelude.{All}
use Rattle.st_model.specs.Lists.{total}
use Rattle.directed_search.proofs.weighing.worth.Given as goal

abbrev pub invariant-loop-cut : goal.invariant-loop-cut
invariant-loop-cut l =
    record { sum : l.sum ≡ total (λ c. c.y) (take l.cut-index l.cuts); bound : l.sum ≤ l.cut-index * 2 ^ 64; small : All (λ c. c.y < 2 ^ 64) (take l.cut-index l.cuts) }
