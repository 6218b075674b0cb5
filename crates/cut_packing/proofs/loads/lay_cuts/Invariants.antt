use Rattle.std.proofs.Common.{◌≡◌, ℕ, ◌*◌, ◌^◌, ◌≤◌, [], length, take, Option}
use Rattle.st_model.specs.declared.branch.Branch.{Branch}
use Rattle.st_model.specs.Ground.{Ground}
use Rattle.cut_packing.specs.Loads.{AreLoadedIn}
use Rattle.cut_packing.specs.Packing.{load}
use Rattle.cut_packing.proofs.loads.lay_cuts.Given as goal

abbrev pub invariant-loop-cut : goal.invariant-loop-cut
invariant-loop-cut l =
    record { loaded : (G : Ground) (B : Branch) (price : ℕ → ℕ → Option ℕ) → AreLoadedIn G B price [] l.fn.arcs → AreLoadedIn G B price (take l.cut-index l.cuts) l.arcs; bound : (arc : ℕ × ℕ) → load (take l.cut-index l.cuts) arc ≤ l.cut-index * 2 ^ 64; members : l.members.count ≡ length l.arcs }
