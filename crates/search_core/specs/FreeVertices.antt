-- Vertices that a branch may still be split at.
use Rattle.std.specs.Prelude.{ℕ, if◌then◌else◌}
use Rattle.st_model.specs.declared.branch.Branch.{Branch}
use Rattle.st_model.specs.Branch.{is_free}
use Rattle.st_model.specs.Lists.{sum_to}
use Rattle.st_model.specs.Network.{Network}

-- how many vertices are neither required nor decided
abbrev pub free_count : Network → Branch → ℕ
free_count I B = sum_to (λ v. if is_free I B v then 1 else 0) I.n
