-- What the work on a node may answer.
use Rattle.std.specs.Prelude.{◌≡◌, ℕ, ◌<◌, ◌≤◌, ◌⊎◌, Bool, IsTrue, Option, Some, None, IfSome}
use Rattle.st_model.specs.declared.branch.Branch.{Branch}
use Rattle.st_model.specs.declared.split_at.SplitAt.{SplitAt}
use Rattle.st_model.specs.declared.split_at.SplitAt.TheVariants.{Vertex, Link}
use Rattle.st_model.specs.declared.tree.Tree.{Tree}
use Rattle.st_model.specs.Network.{Network}
use Rattle.st_model.specs.Branch.{NoneIsCertain}
use Rattle.cut_packing.specs.Packing.{base_weight, weight}
use Rattle.cut_packing.specs.Full.{IsFull}
use Rattle.cut_packing.specs.ProofTree.{Closes, IsSplitAt}
use Rattle.log_format.specs.Text.{IsWritablePacking}
use Rattle.branching.specs.declared.node.Node.{Node}
use Rattle.branching.specs.Choice.{IsChoice}
use Rattle.better_trees.specs.Better.{IsBetter, least_after}
use Rattle.better_trees.specs.declared.price.Priced.{Priced}
use Rattle.node_work.specs.declared.step.End.{End}
use Rattle.node_work.specs.declared.step.End.TheVariants.{Close, Split}
use Rattle.node_work.specs.declared.step.Step.{Step}
use Rattle.node_work.specs.Node.{IsWritableNode}

-- the best tree that was found by then, if there is one
abbrev pub best_after : Option Tree → Option Priced → Option Tree
best_after best None = best
best_after best (Some p) = Some p.tree

-- where a node may be split: at a link only if links are to be split
abbrev pub MaySplit : Bool → SplitAt → Type 0
MaySplit links (Vertex v) = Unit {0}
MaySplit links (Link a b) = IsTrue links

-- the split is at a vertex that pays most
abbrev pub IsChoiceAt : Network → Branch → SplitAt → Type 0
IsChoiceAt I B (Vertex v) = IsChoice I B v
IsChoiceAt I B (Link a b) = ⊥

-- the node splits there, with a packing that is no lighter but for links that are a must: a cut more may leave less of two of these
pub record SplitsAt (I : Network) (N : Node) (least : ℕ) (links : Bool) (M : Node) (at : SplitAt) : Type 0 where
  pub same : M.branch ≡ N.branch
  pub node : IsWritableNode I M
  pub no_lighter : base_weight I N.branch N.packing ≤ base_weight I M.branch M.packing
  pub split : IsSplitAt I N.branch at
  pub allowed : MaySplit links at
  -- where no vertex is certain, it is at one that pays most; else the packing is full, and weighs less than the least cost known
  pub bounded : (NoneIsCertain I N.branch × IsChoiceAt I N.branch at) ⊎ (IsFull I M.branch M.packing × (weight I M.branch M.packing < least))

-- a packing that closes the branch at the least cost known, or a split
abbrev pub IsEnd : Network → Node → ℕ → Bool → End → Type 0
IsEnd I N least links (Close P) = Closes I N.branch least P × IsWritablePacking P
IsEnd I N least links (Split M at plan) = SplitsAt I N least links M at

-- a better tree, if one was found, and how the node ends with the least cost known then
pub record IsStep (I : Network) (N : Node) (least : ℕ) (links : Bool) (step : Step) : Type 0 where
  pub tree : IfSome step.better (IsBetter I N.branch least)
  pub ends : IsEnd I N (least_after least step.better) links step.end
