-- Trees that reach just the vertices of a branch that are present.
use Rattle.std.specs.Prelude.{◌≡◌, ℕ, ◌*◌, ◌≤◌, IsTrue, IsFalse, [], ◌∷◌, length, All}
use Rattle.st_model.specs.declared.branch.Branch.{Branch}
use Rattle.st_model.specs.declared.tree.Tree.{Tree}
use Rattle.st_model.specs.Lists.{has}
use Rattle.st_model.specs.Network.{Network, IsVertex}
use Rattle.st_model.specs.Arborescence.{IsArborescence, reached, cost}
use Rattle.st_model.specs.Made.{has_pair}
use Rattle.st_model.specs.Branch.{IsVertexSet, is_present}
use Rattle.cut_packing.specs.declared.cut.Cut.{Cut}
use Rattle.cut_packing.specs.declared.packing.Packing.{Packing}
use Rattle.cut_packing.specs.Packing.{Fits, base_weight, weight}
use Rattle.level_packing.specs.declared.leaf.Leaf.{Leaf}
use Rattle.level_packing.specs.declared.leaf.Leaf.TheVariants.{Tree as Spanned, Wall}

-- it reaches exactly the present vertices
pub record IsSpanning (I : Network) (B : Branch) (t : Tree) : Type 0 where
  pub arborescence : IsArborescence I t
  pub present : (v : ℕ) → IsVertex I.n v → has (reached t) v ≡ is_present B v

-- no barred link is an arc of the tree
abbrev pub AvoidsBarred : Branch → Tree → Type 0
AvoidsBarred B t = (u v : ℕ) → IsTrue (has_pair B.barred u v) → IsFalse (has_pair t.arcs u v)

-- a spanning tree without barred links, with a packing that weighs no less than the tree costs, and just that where no link is
-- a must; but for those that are it weighs no more
pub record IsSpanned (I : Network) (B : Branch) (t : Tree) (P : Packing) : Type 0 where
  pub spanning : IsSpanning I B t
  pub avoids : AvoidsBarred B t
  pub fits : Fits I B P
  pub weighs : cost I t ≤ weight I B P
  pub base : base_weight I B P ≤ cost I t
  pub exact : B.must ≡ [] → weight I B P ≡ cost I t

-- there is no such tree, and the packing weighs at least the target
pub record IsWalled (I : Network) (B : Branch) (target : ℕ) (P : Packing) : Type 0 where
  pub none : (t : Tree) → IsSpanning I B t → AvoidsBarred B t → ⊥
  pub fits : Fits I B P
  pub weighs : target ≤ weight I B P

-- one or the other
abbrev pub IsLeaf : Network → Branch → ℕ → Leaf → Type 0
IsLeaf I B target (Spanned t P) = IsSpanned I B t P
IsLeaf I B target (Wall P) = IsWalled I B target P

-- the same of a network in which no link is barred, and of what a packing weighs but for links that are a must
abbrev pub IsBaseLeaf : Network → Branch → ℕ → Leaf → Type 0
IsBaseLeaf I B target (Spanned t P) = IsSpanning I B t × Fits I B P × (base_weight I B P ≡ cost I t)
IsBaseLeaf I B target (Wall P) = ((t : Tree) → IsSpanning I B t → ⊥) × Fits I B P × (target ≤ base_weight I B P)

-- the sets of the packing's cuts are written in ascending order, each vertex once
abbrev pub AreSets : ℕ → Packing → Type 0
AreSets n P = All (λ c. IsVertexSet n c.set) P.cuts

abbrev pub HasSets : ℕ → Leaf → Type 0
HasSets n (Spanned t P) = AreSets n P
HasSets n (Wall P) = AreSets n P

-- at most two cuts for each vertex; where there is no such tree just one, of the target's value
abbrev pub HasFewCuts : ℕ → ℕ → Leaf → Type 0
HasFewCuts n target (Spanned t P) = length P.cuts ≤ 2 * n
HasFewCuts n target (Wall P) = (c : Cut) × (P.cuts ≡ c ∷ []) × (c.y ≡ target)
