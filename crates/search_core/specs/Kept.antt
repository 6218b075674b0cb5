-- What every state keeps that a search reaches from its beginning.
use Rattle.std.specs.Prelude.{◌≡◌, ℕ, ◌+◌, ◌<◌, ◌≤◌, min, Bool, true, not, if◌then◌else◌, Some, List, [], ◌∷◌, length, map, filter, find, All, Contains}
use Rattle.std.specs.List.{flat_map}
use Rattle.st_model.specs.declared.split_at.SplitAt.{SplitAt}
use Rattle.st_model.specs.declared.branch.Branch.{Branch}
use Rattle.st_model.specs.Lists.{total}
use Rattle.st_model.specs.Network.{Network, IsInstance}
use Rattle.cut_packing.specs.declared.packing.Packing.{Packing}
use Rattle.cut_packing.specs.ProofTree.{Closes, IsSplitAt}
use Rattle.branching.specs.declared.node.Node.{Node}
use Rattle.branching.specs.Node.{IsNode, yes_node, no_node}
use Rattle.search_core.specs.declared.done.Done.{Done}
use Rattle.search_core.specs.declared.done.Done.TheVariants.{Split, Close}
use Rattle.search_core.specs.declared.worker.Worker.{Worker}
use Rattle.search_core.specs.declared.made.Made.{Made}
use Rattle.search_core.specs.declared.made.Place.{Place}
use Rattle.search_core.specs.declared.made.Place.TheVariants.{Queue, Hand, Fresh, Left}
use Rattle.search_core.specs.Complete.{IsMade, KeepsWeight, done_id, made_ids, times}
use Rattle.search_core.specs.Needs.{AllowsSplit, is_claimed, up_waits}
use Rattle.search_core.specs.Settled.{is_done}
use Rattle.search_core.specs.State.{State, has_id, hand}

-- the nodes that were made, as they were made
abbrev pub made_nodes : State → List Node
made_nodes S = map (λ m. m.node) S.nodes

-- the least of the start cost and of what the workers offered
abbrev pub least_offered : ℕ → List Worker → ℕ
least_offered start [] = start
least_offered start (x ∷ xs) = min x.offered (least_offered start xs)

-- a node was split where it can be, on a packing that allows it below the start cost, and both halves were made
pub record IsSoundSplit (I : Network) (start : ℕ) (nodes : List Node) (id : ℕ) (at : SplitAt) (inside outside : ℕ) (P : Packing) (N : Node) : Type 0 where
  pub node : Contains nodes N
  pub id_is : N.id ≡ id
  pub vertex : IsSplitAt I N.branch at
  pub packing : AllowsSplit I N.branch P start
  pub inside_made : Contains nodes (yes_node (record N { packing = P }) at inside)
  pub outside_made : Contains nodes (no_node (record N { packing = P }) at outside)

-- a node was closed by a packing that fits it and weighs at least what was seen
pub record IsSoundClose (I : Network) (seen : ℕ) (nodes : List Node) (id : ℕ) (P : Packing) (N : Node) : Type 0 where
  pub node : Contains nodes N
  pub id_is : N.id ≡ id
  pub packing : Closes I N.branch seen P

-- a record of a worker that saw this value last
abbrev pub IsSoundRecord : Network → ℕ → List Node → ℕ → Done → Type 0
IsSoundRecord I start nodes seen (Split id at inside outside P) = (N : Node) × IsSoundSplit I start nodes id at inside outside P N
IsSoundRecord I start nodes seen (Close id P) = (N : Node) × IsSoundClose I seen nodes id P N

-- a worker saw a value between the least and the start cost, and its records are sound
pub record IsSoundWork (I : Network) (start least : ℕ) (nodes : List Node) (seen : ℕ) (done : List Done) : Type 0 where
  pub low : least ≤ seen
  pub high : seen ≤ start
  pub records : All (IsSoundRecord I start nodes seen) done

-- what is said of the instance, of nodes, and of what each worker saw and did
pub record IsSound (S : State) : Type 0 where
  -- the network is an instance
  pub instance : IsInstance S.instance
  -- each node is a branch of the instance, with a packing that fits it
  pub nodes : All (λ m. IsNode S.instance m.node) S.nodes
  -- what each worker saw and did is sound
  pub workers : All (λ x. IsSoundWork S.instance S.start S.least (made_nodes S) x.seen x.done) S.workers
  -- the least value is the least of the start cost and all offers
  pub least : S.least ≡ least_offered S.start S.workers
  -- no more claims are granted than the budget allows
  pub claims : S.claims ≤ S.budget

-- 1 for what holds, so that a sum counts
abbrev pub one_if : Bool → ℕ
one_if b = if b then 1 else 0

-- whether a node of this place may be claimed or not: only one in hand may be either
abbrev pub claim_fits : Place → Bool → Bool
claim_fits (Queue w) claimed = not claimed
claim_fits (Hand w) claimed = true
claim_fits (Fresh w) claimed = not claimed
claim_fits (Left w) claimed = not claimed
claim_fits _ claimed = claimed

-- how many nodes are neither split nor closed
abbrev pub undone : List Made → ℕ
undone nodes = total (λ m. one_if (not (is_done m.place))) nodes

-- how many nodes are claimed
abbrev pub claimed : List Made → ℕ
claimed nodes = total (λ m. one_if m.claimed) nodes

-- how many ups wait for their split
abbrev pub ups_waiting : List Worker → ℕ
ups_waiting workers = total (λ x. one_if x.up) workers

-- how many closes wait for their down
abbrev pub closes_waiting : List Worker → ℕ
closes_waiting workers = total (λ x. x.closes) workers

-- the node under an id is in the hand of w
pub record InHand (nodes : List Made) (w id : ℕ) : Type 0 where
  pub made : Made
  pub found : find (has_id id) nodes ≡ Some made
  pub place : made.place ≡ Hand w

-- what is said of counts
pub record IsCounted (S : State) : Type 0 where
  -- what a worker has in its hand stands there
  pub hands : (w id : ℕ) → hand S w ≡ Some id → InHand S.nodes w id
  -- an up waits for a node that is in hand, and claimed
  pub ups : (w : ℕ) → up_waits S w ≡ true → is_claimed S w ≡ true
  -- split and closed nodes are claimed, and of the others at most those in hands
  pub places : All (λ m. claim_fits m.place m.claimed ≡ true) S.nodes
  -- claims went to nodes
  pub claims : S.claims ≡ claimed S.nodes
  -- open are the nodes that are neither split nor closed, the ups that wait and the closes that wait
  pub opened : S.opened ≡ undone S.nodes + ups_waiting S.workers + closes_waiting S.workers
  -- each close that waits is of a node that is closed
  pub bounded : undone S.nodes + closes_waiting S.workers ≤ length S.nodes

-- the records of all workers
abbrev pub all_done : List Worker → List Done
all_done workers = flat_map (λ x. x.done) workers

-- the ids of nodes
abbrev pub node_ids : List Made → List ℕ
node_ids nodes = map (λ m. m.node.id) nodes

-- the ids of the nodes that were split or closed
abbrev pub ended_ids : List Made → List ℕ
ended_ids nodes = map (λ m. m.node.id) (filter (λ m. is_done m.place) nodes)

-- how many nodes were split or closed
abbrev pub ended_count : List Made → ℕ
ended_count nodes = total (λ m. one_if (is_done m.place)) nodes

-- a node in a hand, fresh or left is that of one of so many workers
abbrev pub IsOfWorker : ℕ → Place → Type 0
IsOfWorker count (Hand w) = w < count
IsOfWorker count (Fresh w) = w < count
IsOfWorker count (Left w) = w < count
IsOfWorker count _ = Unit {0}

-- a node was made with its branch, and weighs at least what the split weighs that made it
pub record IsRecordedNode (I : Network) (R : Branch) (done : List Done) (N : Node) : Type 0 where
  pub made : IsMade R done N.id N.branch
  pub keeps : KeepsWeight I R done N

-- what is said of the nodes of so many workers, and of the records of all
pub record AreRecorded (I : Network) (R : Branch) (count : ℕ) (nodes : List Made) (done : List Done) : Type 0 where
  -- each node was made by a split that is recorded, or at first
  pub made : All (λ m. IsRecordedNode I R done m.node) nodes
  -- no two nodes have one id
  pub apart : (id : ℕ) → times id (node_ids nodes) ≤ 1
  -- the nodes are those that were made at first and by the splits that are recorded
  pub ids : (id : ℕ) → times id (node_ids nodes) ≡ times id (made_ids done)
  -- the records are of the nodes that were split or closed
  pub ended : (id : ℕ) → times id (map done_id done) ≡ times id (ended_ids nodes)
  pub ended_once : length done ≡ ended_count nodes
  -- no node is with a worker that there isn't, but for the first in its queue
  pub places : All (λ m. IsOfWorker count m.place) nodes

-- what is said of nodes and records
abbrev pub IsRecorded : State → Type 0
IsRecorded S = AreRecorded S.instance S.branch (length S.workers) S.nodes (all_done S.workers)

pub record IsKept (S : State) : Type 0 where
  pub sound : IsSound S
  pub counted : IsCounted S
  pub recorded : IsRecorded S
