-- How a branch of a directed instance with nothing left to decide is closed.
use Rattle.std.specs.Prelude.{◌≡◌, ℕ, ◌≤◌, All, Some}
use Rattle.st_model.specs.declared.branch.Branch.{Branch}
use Rattle.st_model.specs.declared.tree.Tree.{Tree as TreeSpec}
use Rattle.st_model.specs.Arborescence.{IsTreeIn, cost_in, reached}
use Rattle.st_model.specs.Branch.{Belongs, IsVertexSet, is_present}
use Rattle.st_model.specs.Lists.{has}
use Rattle.st_model.specs.Network.{IsVertex}
use Rattle.cut_packing.specs.declared.packing.Packing.{Packing}
use Rattle.cut_packing.specs.Packing.{FitsIn, weight_in}
use Rattle.arborescence.specs.DiNetwork.{DiNetwork, di_ground}
use Rattle.arborescence.specs.First.{HasNoTreeIn}
use Rattle.arborescence.specs.declared.leaf.DiLeaf.{DiLeaf}
use Rattle.arborescence.specs.declared.leaf.DiLeaf.TheVariants.{Tree, Wall}

-- a packing for the root that fits, of ascending sets
pub record IsRootedPacking (D : DiNetwork) (B : Branch) (P : Packing) : Type 0 where
  pub rooted : P.root ≡ Some D.root
  pub fits : FitsIn (di_ground D) B P
  pub sets : All (λ c. IsVertexSet D.n c.set) P.cuts

-- a tree of the branch that reaches exactly the present vertices, and a packing that weighs what it costs
pub record IsClosedBy (D : DiNetwork) (B : Branch) (t : TreeSpec) (P : Packing) : Type 0 where
  pub tree : IsTreeIn (di_ground D) t
  pub belongs : Belongs B t
  pub exact : (v : ℕ) → IsVertex D.n v → has (reached t) v ≡ is_present B v
  pub packing : IsRootedPacking D B P
  pub weighs : weight_in (di_ground D) B P ≡ cost_in (di_ground D) t

-- or a packing of the target's weight, where there is no tree
pub record IsWalledBy (D : DiNetwork) (B : Branch) (target : ℕ) (P : Packing) : Type 0 where
  pub packing : IsRootedPacking D B P
  pub weighs : target ≤ weight_in (di_ground D) B P
  pub none : HasNoTreeIn (di_ground D) B

abbrev pub IsDiLeaf : DiNetwork → Branch → ℕ → DiLeaf → Type 0
IsDiLeaf D B target (Tree t P) = IsClosedBy D B t P
IsDiLeaf D B target (Wall P) = IsWalledBy D B target P
