-- What is gathered of any state, settled or not: it accounts for all but the nodes in hands and the fresh ones.
use Rattle.std.specs.Prelude.{◌≡◌, ℕ, ◌+◌, ◌≤◌, Bool, true, false, ◌&&◌, List, length, map, filter, All}
use Rattle.st_model.specs.Lists.{total}
use Rattle.search_core.specs.declared.gathered.Gathered.{Gathered}
use Rattle.search_core.specs.declared.made.Made.{Made}
use Rattle.search_core.specs.declared.made.Place.{Place}
use Rattle.search_core.specs.declared.made.Place.TheVariants.{Hand, Fresh}
use Rattle.search_core.specs.Complete.{IsRightNode, IsRightSegment, made_ids, records, standing_ids, times, waiting}
use Rattle.search_core.specs.Kept.{one_if}
use Rattle.search_core.specs.State.{State}

-- whether a place is a hand
abbrev pub is_hand : Place → Bool
is_hand (Hand w) = true
is_hand _ = false

-- whether a node of this place is being worked on: it is in a hand, or fresh
abbrev pub is_busy : Place → Bool
is_busy (Hand w) = true
is_busy (Fresh w) = true
is_busy _ = false

-- the ids of the nodes in hands and of the fresh ones
abbrev pub busy_ids : List Made → List ℕ
busy_ids nodes = map (λ m. m.node.id) (filter (λ m. is_busy m.place) nodes)

-- how many nodes in hands are claimed
abbrev pub claimed_in_hands : List Made → ℕ
claimed_in_hands nodes = total (λ m. one_if (is_hand m.place && m.claimed)) nodes

-- what is gathered of a state is complete but for the nodes that are being worked on
pub record IsGatheredOf (S : State) (G : Gathered) : Type 0 where
  -- no two nodes were made under one id
  pub apart : (id : ℕ) → times id (made_ids (records G)) ≤ 1
  -- each node that was made was split or closed once, or is to be gone on with, or is being worked on
  pub once : (id : ℕ) → times id (standing_ids G) + times id (busy_ids S.nodes) ≡ times id (made_ids (records G))
  -- what each worker did is right
  pub segments : All (IsRightSegment S.instance S.branch S.start G.least (records G)) G.segments
  -- and so is what is left to do
  pub waiting : All (IsRightNode S.instance S.branch (records G)) (waiting G)
  -- each claim went to a record, or to a node in a hand
  pub claimed : length (records G) + claimed_in_hands S.nodes ≡ G.claimed
  -- and the budget allows them
  pub allowed : G.claimed ≤ S.budget
