-- The laws of searches: what every list of events keeps, that faults are exact, and what a search that is done bounds.
use Rattle.std.specs.Prelude.{◌≡◌, ℕ, ◌≤◌, false, List, All}
use Rattle.st_model.specs.declared.branch.Branch.{Branch}
use Rattle.st_model.specs.declared.tree.Tree.{Tree}
use Rattle.st_model.specs.Arborescence.{IsTree, cost}
use Rattle.st_model.specs.Branch.{Belongs}
use Rattle.st_model.specs.Network.{Network, IsInstance}
use Rattle.cut_packing.specs.declared.packing.Packing.{Packing}
use Rattle.branching.specs.Node.{IsNode}
use Rattle.search_core.specs.declared.event.Event.{Event}
use Rattle.search_core.specs.declared.event.EventFault.{EventFault}
use Rattle.search_core.specs.State.{State, beginning, root_of}
use Rattle.search_core.specs.Settled.{IsSettled, is_waiting}
use Rattle.search_core.specs.Needs.{IsAllowed, IsFault}
use Rattle.search_core.specs.Steps.{Run}
use Rattle.search_core.specs.Kept.{IsKept}

-- a search may begin with a node of an instance: a branch that leaves no required vertex outside, and a packing that fits
pub record MayBegin (I : Network) (R : Branch) (P : Packing) : Type 0 where
  pub instance : IsInstance I
  pub node : IsNode I (root_of R P)

-- what any list of events leads to from a beginning keeps what every state keeps
abbrev pub EventsKeep : Type 0
EventsKeep = (I : Network) (R : Branch) (P : Packing) (workers budget start : ℕ) (events : List Event) (S : State) → MayBegin I R P → Run (beginning I R P workers budget start) events S → IsKept S

-- no event that may happen has a fault
abbrev pub AllowedHasNoFault : Type 0
AllowedHasNoFault = (S : State) (e : Event) (f : EventFault) → IsAllowed S e → ¬ IsFault S e f

-- and none has two
abbrev pub FaultIsOne : Type 0
FaultIsOne = (S : State) (e : Event) (f g : EventFault) → IsFault S e f → IsFault S e g → f ≡ g

-- a state is settled, and no node is left or queued
pub record IsExhausted (S : State) : Type 0 where
  pub settled : IsSettled S
  pub none_waits : All (λ m. is_waiting m.place ≡ false) S.nodes

-- where events lead from a beginning to a state that is done, each tree of the branch that the search began with costs at
-- least the least value
abbrev pub SettledBounds : Type 0
SettledBounds = (I : Network) (R : Branch) (P : Packing) (workers budget start : ℕ) (events : List Event) (S : State) (t : Tree) → MayBegin I R P → Run (beginning I R P workers budget start) events S → IsExhausted S → IsTree I t → Belongs R t → S.least ≤ cost I t
