-- What has been found of a claim before its tree is made. Helpers' clauses cite this, and no public one.
use Rattle.std.specs.Prelude.{◌≡◌, ℕ, ◌*◌, ◌<◌, Bool, false, ◌||◌, ◌==◌, not, IsFalse, List, length, Option, Some, None, nat_lt, is_none}
use Rattle.std.specs.List.{list_any}
use Rattle.st_model.specs.declared.tree.Tree.{Tree}
use Rattle.st_model.specs.Arborescence.{cost}
use Rattle.st_model.specs.Network.{Network, link}
use Rattle.amounts.specs.declared.scale.Scale.{Scale}
use Rattle.amounts.specs.Laws.{unit}
use Rattle.solution_reader.specs.Claim.{Claim}
use Rattle.solution_reader.specs.Stated.{IsApart, IsClaimedTree, HasStranger, LacksLink, LacksTerminal, repeats}

-- whether a vertex isn't one of 1 to n
abbrev pub has_stranger : ℕ → List ℕ → Bool
has_stranger n vertices = list_any (λ v. (v == 0) || nat_lt n v) vertices

-- whether an edge isn't a link
abbrev pub lacks_link : Network → List (ℕ × ℕ) → Bool
lacks_link I edges = list_any (λ edge. is_none (link I.links edge.0 edge.1)) edges

-- whether a stated primal isn't this cost
abbrev pub differs_from : Scale → ℕ → Option ℕ → Bool
differs_from scale c None = false
differs_from scale c (Some p) = not (p == c * unit scale)

-- nothing is wrong but perhaps the cost
pub record IsFitting (I : Network) (claim : Claim) : Type 0 where
  pub in_range : HasStranger I claim → ⊥
  pub links : LacksLink I claim → ⊥
  pub once : IsFalse (repeats claim.edges)
  pub joined : IsApart claim → ⊥
  pub few : length claim.edges < length claim.vertices
  pub required : LacksTerminal I claim → ⊥

-- the claim is a tree that costs this
pub record Costs (I : Network) (claim : Claim) (c : ℕ) : Type 0 where
  pub tree : Tree
  pub claimed : IsClaimedTree I claim tree
  pub is : c ≡ cost I tree
