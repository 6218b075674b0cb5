-- The laws of grafts: what a proof tree proves its graft proves, and the closes of the graft weigh no less.
use Rattle.std.specs.Prelude.{ℕ, ◌≤◌, List}
use Rattle.st_model.specs.declared.branch.Branch.{Branch}
use Rattle.st_model.specs.Network.{Network}
use Rattle.cut_packing.specs.ProofTree.{ProofTree, Proves}
use Rattle.search_core.specs.declared.gathered.Searched.{Searched}
use Rattle.search_core.specs.ReadOff.{least_weight}
use Rattle.log_resume.specs.Grafted.{IsGrafted}

-- what a proof tree proves of a branch, its graft proves
abbrev pub GraftedProves : Type 0
GraftedProves = (I : Network) (searches : List Searched) (number : ℕ) (B : Branch) (p q : ProofTree) (x : ℕ) → IsGrafted I searches number B p q → Proves I B x p → Proves I B x q

-- the least close of the graft weighs no less than the least one of the proof tree
abbrev pub GraftedWeighs : Type 0
GraftedWeighs = (I : Network) (searches : List Searched) (number : ℕ) (B : Branch) (p q : ProofTree) → IsGrafted I searches number B p q → least_weight I B p ≤ least_weight I B q
