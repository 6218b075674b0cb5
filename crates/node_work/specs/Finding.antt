-- What is found beside a full packing. Helpers' clauses cite this, and no public one.
use Rattle.std.specs.Prelude.{ℕ, Option, IfSome}
use Rattle.st_model.specs.declared.branch.Branch.{Branch}
use Rattle.st_model.specs.Network.{Network}
use Rattle.cut_packing.specs.declared.packing.Packing.{Packing}
use Rattle.cut_packing.specs.ProofTree.{Closes}
use Rattle.log_format.specs.Text.{IsWritablePacking}
use Rattle.better_trees.specs.Better.{IsBetter, later, least_after}
use Rattle.node_work.specs.declared.step.Finding.{Finding}
use Rattle.better_trees.specs.declared.price.Priced.{Priced}

-- the packing closes the branch at the least cost known, and can be written in a log
abbrev pub IsClosedBy : Network → Branch → ℕ → Packing → Type 0
IsClosedBy I B least P = Closes I B least P × IsWritablePacking P

-- a better tree, if there is one, and a packing that closes the branch at the least cost known then, if there is one
pub record IsFinding (I : Network) (B : Branch) (least : ℕ) (f : Finding) : Type 0 where
  pub tree : IfSome f.better (IsBetter I B least)
  pub closes : IfSome f.closing (IsClosedBy I B (least_after least f.better))

-- what was found before and after a better tree was
abbrev pub together : Option Priced → Finding → Finding
together better f = record { better = later better f.better; closing = f.closing; plan = f.plan }
