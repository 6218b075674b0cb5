-- What is known of trees after a search. Helpers' clauses cite this, and no public one.
use Rattle.std.specs.Prelude.{◌≡◌, ℕ, ◌⊎◌, List, Contains, Option, Some}
use Rattle.st_model.specs.declared.tree.Tree.{Tree}
use Rattle.st_model.specs.Arborescence.{cost}
use Rattle.st_model.specs.Network.{Network}
use Rattle.search_core.specs.declared.gathered.Segment.{Segment}

-- a worker found this tree, which costs so much
pub record IsFoundIn (I : Network) (segments : List Segment) (least : ℕ) (tree : Option Tree) : Type 0 where
  pub segment : Segment
  pub found : Tree
  pub among : Contains segments segment
  pub best : segment.best ≡ Some found
  pub kept : tree ≡ Some found
  pub cost_is : least ≡ cost I found

-- the least cost and the tree are as they were, or a worker found the tree
abbrev pub IsKept : Network → List Segment → ℕ → Option Tree → ℕ → Option Tree → Type 0
IsKept I segments least tree least' tree' = ((least' ≡ least) × (tree' ≡ tree)) ⊎ IsFoundIn I segments least' tree'
