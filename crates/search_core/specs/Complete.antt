-- When what is gathered of a search accounts for every node that was made, and when it is finished.
use Rattle.std.specs.Prelude.{◌≡◌, ℕ, ◌≤◌, ◌==◌, min, List, [], ◌∷◌, ◌++◌, length, map, All, Contains, if◌then◌else◌, IfSome, Option, Some, None, ◌⊎◌, ⊤}
use Rattle.std.specs.List.{flat_map}
use Rattle.st_model.specs.declared.split_at.SplitAt.{SplitAt}
use Rattle.st_model.specs.declared.split_at.SplitAt.TheVariants.{Vertex, Link}
use Rattle.st_model.specs.declared.branch.Branch.{Branch}
use Rattle.st_model.specs.declared.tree.Tree.{Tree}
use Rattle.st_model.specs.Arborescence.{IsTree, cost}
use Rattle.st_model.specs.Branch.{ReachesAsTold, yes_half, no_half}
use Rattle.st_model.specs.Lists.{total}
use Rattle.st_model.specs.Network.{Network}
use Rattle.cut_packing.specs.declared.packing.Packing.{Packing}
use Rattle.cut_packing.specs.Packing.{Fits, weight}
use Rattle.cut_packing.specs.ProofTree.{Closes, IsSplitAt}
use Rattle.branching.specs.declared.node.Node.{Node}
use Rattle.search_core.specs.declared.done.Done.{Done}
use Rattle.search_core.specs.declared.done.Done.TheVariants.{Split, Close}
use Rattle.search_core.specs.declared.gathered.Gathered.{Gathered}
use Rattle.search_core.specs.declared.gathered.Segment.{Segment}
use Rattle.search_core.specs.Needs.{AllowsSplit}
use Rattle.search_core.specs.State.{root_of}

-- what was done with nodes, by all workers
abbrev pub records : Gathered → List Done
records G = flat_map (λ s. s.done) G.segments

-- the nodes that are to be gone on with: those left and those in queues
abbrev pub waiting : Gathered → List Node
waiting G = flat_map (λ s. s.left) G.segments ++ G.queued

-- the id of the node that was split or closed
abbrev pub done_id : Done → ℕ
done_id (Split id at inside outside P) = id
done_id (Close id P) = id

-- the packing on which the node was split, or by which it was closed
abbrev pub done_packing : Done → Packing
done_packing (Split id at inside outside P) = P
done_packing (Close id P) = P

-- each packing has a property: that of each record, and that of each node that waits
abbrev pub AllPackings : (Packing → Type 0) → Gathered → Type 0
AllPackings Q G = All (λ d. Q (done_packing d)) (records G) × All (λ N. Q N.packing) (waiting G)

-- a record of a split at a vertex, or of a close: of no split at a link
abbrev pub IsAtVertex : Done → Type 0
IsAtVertex (Split id (Vertex v) inside outside P) = ⊤
IsAtVertex (Split id (Link a b) inside outside P) = ⊥
IsAtVertex (Close id P) = ⊤

-- the ids of the halves that were made
abbrev pub half_ids : Done → List ℕ
half_ids (Split id at inside outside P) = inside ∷ outside ∷ []
half_ids (Close id P) = []

-- the ids under which nodes were made: 0, and those of both halves of each split
abbrev pub made_ids : List Done → List ℕ
made_ids done = 0 ∷ flat_map half_ids done

-- the ids of the nodes that were split or closed, or are to be gone on with
abbrev pub standing_ids : Gathered → List ℕ
standing_ids G = map done_id (records G) ++ map (λ N. N.id) (waiting G)

-- how often an id stands in a list
abbrev pub times : ℕ → List ℕ → ℕ
times id ids = total (λ other. if other == id then 1 else 0) ids

-- a node was made under this id with this branch: id 0 with the branch that the search began with, and each half of one
-- that was made and split
pub data IsMade (R : Branch) (done : List Done) : ℕ → Branch → Type 0 where
  root : IsMade R done 0 R
  inside_of : {id : ℕ} {at : SplitAt} {i o : ℕ} {P : Packing} {B : Branch} → Contains done (Split id at i o P) → IsMade R done id B → IsMade R done i (yes_half B at)
  outside_of : {id : ℕ} {at : SplitAt} {i o : ℕ} {P : Packing} {B : Branch} → Contains done (Split id at i o P) → IsMade R done id B → IsMade R done o (no_half B at)

-- a node was split where its branch can be split, on a packing that allows it below the start cost
pub record IsRightSplit (I : Network) (R : Branch) (start : ℕ) (done : List Done) (id : ℕ) (at : SplitAt) (P : Packing) (B : Branch) : Type 0 where
  pub made : IsMade R done id B
  pub vertex : IsSplitAt I B at
  pub packing : AllowsSplit I B P start

-- a node was closed by a packing that fits its branch and weighs at least what the worker saw last
pub record IsRightClose (I : Network) (R : Branch) (seen : ℕ) (done : List Done) (id : ℕ) (P : Packing) (B : Branch) : Type 0 where
  pub made : IsMade R done id B
  pub packing : Closes I B seen P

-- what was done with a node that was made
abbrev pub IsRightRecord : Network → Branch → ℕ → List Done → ℕ → Done → Type 0
IsRightRecord I R start done seen (Split id at i o P) = (B : Branch) × IsRightSplit I R start done id at P B
IsRightRecord I R start done seen (Close id P) = (B : Branch) × IsRightClose I R seen done id P B

-- the id is that of a half of a split, on this packing, of the node under the other id
pub data IsHalf (done : List Done) (id : ℕ) (P : Packing) : ℕ → Type 0 where
  inside : {at : SplitAt} {i o : ℕ} → Contains done (Split id at i o P) → IsHalf done id P i
  outside : {at : SplitAt} {i o : ℕ} → Contains done (Split id at i o P) → IsHalf done id P o

-- a node weighs at least what the split weighs that made it
pub record WeighsAsSplit (I : Network) (R : Branch) (done : List Done) (N : Node) (id : ℕ) (P : Packing) (B : Branch) : Type 0 where
  pub half : IsHalf done id P N.id
  pub made : IsMade R done id B
  pub weight : weight I B P ≤ weight I N.branch N.packing

-- no split made the node, or it weighs at least what that split weighs
abbrev pub KeepsWeight : Network → Branch → List Done → Node → Type 0
KeepsWeight I R done N = (N.id ≡ 0) ⊎ ((id : ℕ) × (P : Packing) × (B : Branch) × WeighsAsSplit I R done N id P B)

-- a node that is to be gone on with was made with its branch, and its packing fits
pub record IsRightNode (I : Network) (R : Branch) (done : List Done) (N : Node) : Type 0 where
  pub made : IsMade R done N.id N.branch
  pub fits : Fits I N.branch N.packing
  pub keeps : KeepsWeight I R done N

-- a worker's records are right, and it saw no less than the least value
pub record IsRightSegment (I : Network) (R : Branch) (start least : ℕ) (done : List Done) (s : Segment) : Type 0 where
  pub records : All (IsRightRecord I R start done s.seen) s.done
  pub seen : least ≤ s.seen

pub record IsComplete (G : Gathered) (I : Network) (R : Branch) (start budget : ℕ) : Type 0 where
  -- no two nodes were made under one id
  pub apart : (id : ℕ) → times id (made_ids (records G)) ≤ 1
  -- each node that was made was split or closed once, or is to be gone on with
  pub once : (id : ℕ) → times id (standing_ids G) ≡ times id (made_ids (records G))
  -- what each worker did is right
  pub segments : All (IsRightSegment I R start G.least (records G)) G.segments
  -- and so is what is left to do
  pub waiting : All (IsRightNode I R (records G)) (waiting G)
  -- each claim went to a record
  pub claimed : length (records G) ≡ G.claimed
  -- and the budget allows them
  pub allowed : G.claimed ≤ budget

-- the less of a value and of the cost of a tree, if there is one
abbrev pub less_found : Network → Option Tree → ℕ → ℕ
less_found I None x = x
less_found I (Some t) x = min (cost I t) x

-- the least of a value and of the costs of the trees that the workers found
abbrev pub least_found : Network → ℕ → List Segment → ℕ
least_found I x [] = x
least_found I x (s ∷ ss) = less_found I s.best (least_found I x ss)

-- what is gathered of a search that no worker began: its first node waits
abbrev pub untouched : Branch → Packing → ℕ → Gathered
untouched R P start = record { segments = []; queued = root_of R P ∷ []; least = start; claimed = 0 }

pub record IsFinished (G : Gathered) (I : Network) (R : Branch) (start budget : ℕ) : Type 0 where
  -- each tree that was found is one of the instance, and reaches what the branch says that the search began with
  pub trees : All (λ s. IfSome s.best (λ t. IsTree I t × ReachesAsTold R t)) G.segments
  -- the least value is the least of the start cost and of what they cost
  pub least : G.least ≡ least_found I start G.segments
  -- nodes wait only where the whole budget was spent
  pub spent : (waiting G ≡ []) ⊎ (G.claimed ≡ budget)
