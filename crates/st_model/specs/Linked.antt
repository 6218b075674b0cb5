-- How many pairs of vertices are linked, and how many of these a branch leaves open.
use Rattle.std.specs.Prelude.{ℕ, ◌&&◌, not, nat_lt, if◌then◌else◌}
use Rattle.std.specs.Option.{is_some}
use Rattle.st_model.specs.declared.branch.Branch.{Branch}
use Rattle.st_model.specs.Lists.{sum_to}
use Rattle.st_model.specs.Made.{has_pair}
use Rattle.st_model.specs.Network.{Network, link}

-- the pairs of different vertices, each once, that are linked
abbrev pub linked_pairs : Network → ℕ
linked_pairs I = sum_to (λ u. sum_to (λ v. if nat_lt u v && is_some (link I.links u v) then 1 else 0) I.n) I.n

-- those of them that are neither a must nor barred
abbrev pub open_pairs : Network → Branch → ℕ
open_pairs I B = sum_to (λ u. sum_to (λ v. if (nat_lt u v && is_some (link I.links u v)) && (not (has_pair B.must u v) && not (has_pair B.barred u v)) then 1 else 0) I.n) I.n
