-- What is judged over the ground of a directed network, in the words of arborescences.
use Rattle.std.specs.Prelude.{◌≡◌, ◌≢◌, ℕ, ◌≤◌, ◌↔◌, ◌⊎◌, IsTrue, IsFalse, IsSome, IfSome, List, [], ◌∷◌, All, ⊤, MatchOption, Some, unwrap_or}
use Rattle.st_model.specs.declared.branch.Branch.{Branch}
use Rattle.st_model.specs.declared.tree.Tree.{Tree}
use Rattle.st_model.specs.Arborescence.{IsTreeIn, cost_in, reached}
use Rattle.st_model.specs.Branch.{Belongs, IsPlain, is_present, is_undecided}
use Rattle.st_model.specs.Lists.{has, total}
use Rattle.st_model.specs.Network.{IsVertex}
use Rattle.cut_packing.specs.declared.cut.Cut.{Cut}
use Rattle.cut_packing.specs.declared.packing.Packing.{Packing}
use Rattle.cut_packing.specs.Full.{IsFullIn, IsReachedIn}
use Rattle.cut_packing.specs.Packing.{load, FitsIn, weight_in}
use Rattle.cut_packing.specs.ProofTree.{IsSplitIn, IsLinkSplitIn}
use Rattle.arborescence.specs.DiNetwork.{DiNetwork, IsDiNetwork, arc_from, di_ground}
use Rattle.arborescence.specs.DiWall.{IsDiWall}

-- each arc in turn is one of the network and leads from a vertex that is reached to one that isn't
abbrev pub GrowsBy : DiNetwork → List ℕ → List (ℕ × ℕ) → Type 0
GrowsBy D r [] = ⊤
GrowsBy D r ((u, v) ∷ arcs) = IsSome (arc_from D.arcs u v) × IsTrue (has r u) × IsFalse (has r v) × GrowsBy D (v ∷ r) arcs

-- a tree starts at the root, grows along arcs, and reaches every terminal
pub record IsDiTree (D : DiNetwork) (t : Tree) : Type 0 where
  pub start : t.start ≡ D.root
  pub grows : GrowsBy D (D.root ∷ []) t.arcs
  pub terminals : (v : ℕ) → IsTrue (has D.terminals v) → IsTrue (has (reached t) v)

-- it costs its arcs
abbrev pub arc_costs : DiNetwork → Tree → ℕ
arc_costs D t = total (λ arc. unwrap_or (arc_from D.arcs arc.0 arc.1) 0) t.arcs

-- the set of a cut holds vertices, and one that it names, which isn't outside, and is a terminal or inside
pub record IsDiCut (D : DiNetwork) (B : Branch) (c : Cut) : Type 0 where
  pub in_range : All (IsVertex D.n) c.set
  pub apart : IsFalse (has c.set D.root)
  pub member : IsTrue (has c.set c.q)
  pub present : IsTrue (is_present B c.q)
  pub sought : IsTrue (has D.terminals c.q) ⊎ IsTrue (has B.inside c.q)

-- the root is given wherever there are cuts, and no arc between present vertices bears more than it costs
pub record IsDiFit (D : DiNetwork) (B : Branch) (P : Packing) : Type 0 where
  pub root : MatchOption P.root (P.cuts ≡ []) (λ r. r ≡ D.root)
  pub cuts : All (IsDiCut D B) P.cuts
  pub arcs : (u v : ℕ) → IsTrue (is_present B u) → IsTrue (is_present B v) → IfSome (arc_from D.arcs u v) (λ price. load P.cuts (u, v) ≤ price)

-- the root is given, and from there each terminal and each vertex inside is reached over arcs that bear what they cost
pub record IsDiFull (D : DiNetwork) (B : Branch) (P : Packing) : Type 0 where
  pub root : P.root ≡ Some D.root
  pub terminals : (v : ℕ) → IsTrue (has D.terminals v) → IsReachedIn (di_ground D) B P D.root v
  pub inside : (v : ℕ) → IsVertex D.n v → IsTrue (has B.inside v) → IsReachedIn (di_ground D) B P D.root v

-- a branch is split at an undecided vertex, never at the root or a terminal
pub record IsDiSplit (D : DiNetwork) (B : Branch) (v : ℕ) : Type 0 where
  pub vertex : IsVertex D.n v
  pub undecided : IsTrue (is_undecided B v)
  pub other : v ≢ D.root
  pub free : IsFalse (has D.terminals v)

abbrev pub TreesInWords : Type 0
TreesInWords = (D : DiNetwork) (t : Tree) → IsDiNetwork D → IsTreeIn (di_ground D) t ↔ IsDiTree D t

abbrev pub CostsInWords : Type 0
CostsInWords = (D : DiNetwork) (t : Tree) → IsDiNetwork D → IsTreeIn (di_ground D) t → cost_in (di_ground D) t ≡ arc_costs D t

abbrev pub FitsInWords : Type 0
FitsInWords = (D : DiNetwork) (B : Branch) (P : Packing) → IsDiNetwork D → IsPlain B → FitsIn (di_ground D) B P ↔ IsDiFit D B P

abbrev pub WeightsInWords : Type 0
WeightsInWords = (D : DiNetwork) (B : Branch) (P : Packing) → IsPlain B → weight_in (di_ground D) B P ≡ total (λ c. c.y) P.cuts

abbrev pub FullInWords : Type 0
FullInWords = (D : DiNetwork) (B : Branch) (P : Packing) → IsDiNetwork D → IsFullIn (di_ground D) B P ↔ IsDiFull D B P

abbrev pub SplitsInWords : Type 0
SplitsInWords = (D : DiNetwork) (B : Branch) (v : ℕ) → IsSplitIn (di_ground D) B v ↔ IsDiSplit D B v

abbrev pub NoLinkIsSplit : Type 0
NoLinkIsSplit = (D : DiNetwork) (B : Branch) (a b : ℕ) → IsLinkSplitIn (di_ground D) B a b → ⊥

-- where there is a wall there is no tree
abbrev pub WallsLeaveNoTree : Type 0
WallsLeaveNoTree = (D : DiNetwork) (wall : List ℕ) (t : Tree) → IsDiNetwork D → IsDiWall D wall → IsTreeIn (di_ground D) t → ⊥

-- what fits a branch bounds each tree of the branch from below
abbrev pub PackingsBound : Type 0
PackingsBound = (D : DiNetwork) (B : Branch) (P : Packing) (t : Tree) → IsDiNetwork D → IsPlain B → FitsIn (di_ground D) B P → IsTreeIn (di_ground D) t → Belongs B t → weight_in (di_ground D) B P ≤ cost_in (di_ground D) t
