-- The closes of a proof tree, and the first of them that is light.
use Rattle.std.specs.Prelude.{◌≡◌, ℕ, ◌+◌, ◌<◌, ◌≤◌, List, [], ◌∷◌, ◌++◌, All, Option, Some, None, Bool, nat_lt}
use Rattle.st_model.specs.declared.branch.Branch.{Branch}
use Rattle.st_model.specs.Network.{Network}
use Rattle.st_model.specs.Branch.{yes_half, no_half}
use Rattle.cut_packing.specs.Packing.{weight}
use Rattle.cut_packing.specs.ProofTree.{ProofTree, close, split}
use Rattle.branching.specs.declared.node.Node.{Node}

-- how many closes a proof tree has
abbrev pub close_count : ProofTree → ℕ
close_count (close P) = 1
close_count (split at p q) = close_count p + close_count q

-- the closes of a proof tree of a branch, in the order of its lines: each is a node of its branch with its packing, and
-- they are numbered from this number on
abbrev pub closes_from : ℕ → Branch → ProofTree → List Node
closes_from number B (close P) = record { id = number; branch = B; packing = P } ∷ []
closes_from number B (split at p q) = closes_from number (yes_half B at) p ++ closes_from (number + close_count p) (no_half B at) q

-- the closes of a proof tree of a branch, the first of them number 0
abbrev pub closes_of : Branch → ProofTree → List Node
closes_of B p = closes_from 0 B p

-- what a node weighs
abbrev pub node_weight : Network → Node → ℕ
node_weight I N = weight I N.branch N.packing

-- whether it weighs less than a number
abbrev pub is_light : Network → ℕ → Node → Bool
is_light I least N = nat_lt (node_weight I N) least

-- of some nodes, the first that weighs less than a number, those before it, which don't, and those after it
pub record IsFirstBelow (I : Network) (least : ℕ) (nodes : List Node) (N : Node) (rest : List Node) : Type 0 where
  pub before : List Node
  pub parts : nodes ≡ before ++ N ∷ rest
  pub heavy : All (λ M. least ≤ node_weight I M) before
  pub light : node_weight I N < least

-- the first of some nodes that weighs less than a number, and those after it; or none does
abbrev pub IsNextBelow : Network → ℕ → List Node → Option (Node × List Node) → Type 0
IsNextBelow I least nodes None = All (λ M. least ≤ node_weight I M) nodes
IsNextBelow I least nodes (Some (N, rest)) = IsFirstBelow I least nodes N rest

-- the closes that are still to come, of a proof over this instance
pub record ToCome : Type 0 where
  pub instance : Network
  pub nodes : List Node
