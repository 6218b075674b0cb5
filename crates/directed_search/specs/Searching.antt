-- What holds of a search at each node. Helpers' clauses cite this, and no public one.
use Rattle.std.specs.Prelude.{◌≡◌, ℕ, zero, suc, ◌+◌, ◌^◌, ◌<◌, ◌≤◌, if◌then◌else◌, List, [], ◌∷◌, ◌++◌, map, All, ⊤, IsTrue, length}
use Rattle.st_model.specs.declared.branch.Branch.{Branch}
use Rattle.st_model.specs.Arborescence.{IsTreeIn, cost_in}
use Rattle.st_model.specs.Branch.{IsBranchIn, IsVertexSet, LeavesRequiredIn, all_trees, certain_in, free_in, is_present}
use Rattle.st_model.specs.Lists.{sum_to}
use Rattle.st_model.specs.Network.{IsVertex}
use Rattle.cut_packing.specs.declared.packing.Packing.{Packing}
use Rattle.cut_packing.specs.Packing.{FitsIn}
use Rattle.cut_packing.specs.ProofTree.{ProofTree, ProvesIn}
use Rattle.arborescence.specs.DiNetwork.{DiNetwork, di_ground}
use Rattle.log_format.specs.declared.log.Version.TheVariants.{Two}
use Rattle.log_format.specs.declared.proof_line.ProofLine.{ProofLine}
use Rattle.log_format.specs.declared.proof_line.ProofLine.TheVariants.{Split, Close}
use Rattle.log_format.specs.Accepts.{ProvesOfIn}
use Rattle.log_format.specs.Preorder.{preorder}
use Rattle.log_format.specs.Text.{IsWritableLine}
use Rattle.directed_search.specs.declared.open_node.OpenNode.{OpenNode}
use Rattle.directed_search.specs.Found.{di_free_vertices, light_closes}
use Rattle.directed_search.specs.State.{State, worth}

-- how many vertices a branch may still be split at
abbrev pub free_count : DiNetwork → Branch → ℕ
free_count D B = sum_to (λ v. if free_in (di_ground D) B v then 1 else 0) D.n

-- how many nodes there may be below one with so many free vertices
abbrev pub nodes_below : ℕ → ℕ
nodes_below zero = 0
nodes_below (suc free) = suc (nodes_below free) + suc (nodes_below free)

-- how many nodes there may be at and below the nodes that wait
abbrev pub nodes_left : DiNetwork → List Branch → ℕ
nodes_left D [] = 0
nodes_left D (B ∷ Bs) = suc (nodes_below (free_count D B)) + nodes_left D Bs

-- the branches of nodes
abbrev pub branches : List OpenNode → List Branch
branches nodes = map (λ N. N.branch) nodes

-- the lines are proof trees that prove x of these branches, one after another
abbrev pub ProveEach : DiNetwork → ℕ → List Branch → List ProofLine → Type 0
ProveEach D x [] lines = lines ≡ []
ProveEach D x (B ∷ Bs) lines = (p : ProofTree) × (rest : List ProofLine) × (lines ≡ preorder p ++ rest) × ProvesIn (di_ground D) B x p × ProveEach D x Bs rest

-- a close weighs x at least
abbrev pub Weighs : ℕ → ProofLine → Type 0
Weighs x (Split at) = ⊤
Weighs x (Close P) = x ≤ worth P

-- a branch of the instance in which nothing is said of any link
pub record IsDiBranch (D : DiNetwork) (B : Branch) : Type 0 where
  pub branch : IsBranchIn (di_ground D) B
  pub required : LeavesRequiredIn (di_ground D) B
  pub no_must : B.must ≡ []

-- a packing that fits it, of ascending sets
pub record IsDiPacking (D : DiNetwork) (B : Branch) (P : Packing) : Type 0 where
  pub fits : FitsIn (di_ground D) B P
  pub sets : All (λ c. IsVertexSet D.n c.set) P.cuts

pub record IsOpen (D : DiNetwork) (N : OpenNode) : Type 0 where
  pub branch : IsDiBranch D N.branch
  pub packing : IsDiPacking D N.branch N.packing

-- with these branches left, for which there may be so many nodes
pub record IsSearching (D : DiNetwork) (s : State) (nodes : ℕ) (left : List Branch) : Type 0 where
  pub is_tree : IsTreeIn (di_ground D) s.best
  pub is_cost : s.primal ≡ cost_in (di_ground D) s.best
  pub is_below : s.least ≤ s.primal
  pub within : s.expanded ≤ s.budget
  -- whatever proves no more than the least of these branches makes the lines a proof of all trees
  pub goes_on : (x : ℕ) → x ≤ s.least → (rest : List ProofLine) → ProveEach D x left rest → ProvesOfIn (di_ground D) all_trees x (s.lines ++ rest)
  pub greatest : (x : ℕ) → x ≤ s.primal → All (Weighs x) s.lines → x ≤ s.least
  pub spent : s.least < s.primal → s.budget ≤ s.expanded
  pub writable : All (IsWritableLine Two) s.lines
  -- a budget that suffices
  pub enough : 2 ^ (di_free_vertices D + 1) ≤ s.budget → (s.expanded + nodes ≤ s.budget) × (s.least ≡ s.primal)

-- each node that was expanded has a line, but for so many in hand, and so has each light close
abbrev pub HasLines : State → ℕ → Type 0
HasLines s hand = s.expanded + light_closes s.primal s.lines ≤ length s.lines + hand

-- these nodes wait
pub record IsAt (D : DiNetwork) (s : State) (waiting : List OpenNode) : Type 0 where
  pub each : All (IsOpen D) waiting
  pub searching : IsSearching D s (nodes_left D (branches waiting)) (branches waiting)
  pub worked : HasLines s 0

-- a node of this branch was counted and is worked on, while others wait
pub record IsInHand (D : DiNetwork) (s : State) (B : Branch) (waiting : List OpenNode) : Type 0 where
  pub branch : IsDiBranch D B
  pub each : All (IsOpen D) waiting
  pub searching : IsSearching D s (nodes_below (free_count D B) + nodes_left D (branches waiting)) (B ∷ branches waiting)
  pub worked : HasLines s 1

-- the node of this branch is done: what waits now may have no more nodes than were below it and left by what waited
pub record IsDone (D : DiNetwork) (B : Branch) (s : State) (old : List OpenNode) (t : State) (new : List OpenNode) : Type 0 where
  pub at : IsAt D t new
  pub fewer : nodes_left D (branches new) ≤ nodes_below (free_count D B) + nodes_left D (branches old)
  pub budget : t.budget ≡ s.budget

-- each vertex that isn't outside is one that every tree of the branch reaches
abbrev pub IsAllCertain : DiNetwork → Branch → Type 0
IsAllCertain D B = (v : ℕ) → IsVertex D.n v → IsTrue (is_present B v) → IsTrue (certain_in (di_ground D) B v)
