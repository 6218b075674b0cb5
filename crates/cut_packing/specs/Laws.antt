-- The laws by which packings and proof trees bound every tree of a branch.
use Rattle.std.specs.Prelude.{◌≡◌, ℕ, ◌≤◌, IsTrue, [], Some, None}
use Rattle.st_model.specs.declared.branch.Branch.{Branch}
use Rattle.st_model.specs.declared.tree.Tree.{Tree}
use Rattle.st_model.specs.Network.{IsVertex}
use Rattle.st_model.specs.Ground.{Ground, IsUndirected}
use Rattle.st_model.specs.Arborescence.{IsTreeIn, cost_in}
use Rattle.st_model.specs.Branch.{Belongs}
use Rattle.st_model.specs.Made.{AreApart}
use Rattle.cut_packing.specs.declared.packing.Packing.{Packing}
use Rattle.cut_packing.specs.Packing.{FitsIn, weight_in}
use Rattle.cut_packing.specs.ProofTree.{ProofTree, ProvesIn}

-- a packing that fits a branch weighs at most what each tree of the branch costs, where no link is a must twice
abbrev pub WeakDuality : Type 0
WeakDuality = (G : Ground) (B : Branch) (P : Packing) (t : Tree) → IsUndirected G → AreApart B.must → FitsIn G B P → IsTreeIn G t → Belongs B t → weight_in G B P ≤ cost_in G t

-- what a proof tree proves of a branch is at most what each tree of the branch costs
abbrev pub ProofTreesBound : Type 0
ProofTreesBound = (G : Ground) (B : Branch) (x : ℕ) (p : ProofTree) (t : Tree) → IsUndirected G → AreApart B.must → ProvesIn G B x p → IsTreeIn G t → Belongs B t → x ≤ cost_in G t

-- r is the only root: every tree has to reach it, and no arc leads to it
pub record IsRooted (G : Ground) (r : ℕ) : Type 0 where
  pub root : G.root ≡ Some r
  pub vertex : IsVertex G.n r
  pub required : IsTrue (G.required r)
  pub unentered : (u : ℕ) → G.price u r ≡ None

-- the same where there is an only root, whatever arcs cost the other way, in a branch in which no link is a must
abbrev pub RootedDuality : Type 0
RootedDuality = (G : Ground) (r : ℕ) (B : Branch) (P : Packing) (t : Tree) → IsRooted G r → B.must ≡ [] → FitsIn G B P → IsTreeIn G t → Belongs B t → weight_in G B P ≤ cost_in G t

-- and what a proof tree proves of such a branch is at most what each of its trees costs
abbrev pub RootedProofTreesBound : Type 0
RootedProofTreesBound = (G : Ground) (r : ℕ) (B : Branch) (x : ℕ) (p : ProofTree) (t : Tree) → IsRooted G r → B.must ≡ [] → ProvesIn G B x p → IsTreeIn G t → Belongs B t → x ≤ cost_in G t
