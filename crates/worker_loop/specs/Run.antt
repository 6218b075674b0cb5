-- What one worker did in a whole run.
use Rattle.std.specs.Prelude.{◌≡◌, ◌≢◌, ℕ, Bool, ◌+◌, ◌*◌, ◌<◌, ◌≤◌, List, [], ◌∷◌, length, map, Option, Some, None, All, IfSome}
use Rattle.std.specs.List.{flat_map, sum_by}
use Rattle.st_model.specs.declared.split_at.SplitAt.{SplitAt}
use Rattle.st_model.specs.declared.branch.Branch.{Branch}
use Rattle.st_model.specs.declared.tree.Tree.{Tree}
use Rattle.st_model.specs.Arborescence.{IsTree, cost}
use Rattle.st_model.specs.Branch.{ReachesAsTold}
use Rattle.st_model.specs.Network.{Network}
use Rattle.cut_packing.specs.declared.packing.Packing.{Packing}
use Rattle.cut_packing.specs.ProofTree.{Closes, IsSplitAt}
use Rattle.log_format.specs.Text.{IsWritablePacking}
use Rattle.branching.specs.declared.node.Node.{Node}
use Rattle.branching.specs.Node.{yes_node, no_node}
use Rattle.incumbent.specs.Least.{least_of}
use Rattle.incumbent.specs.Seat.{Known as Sight}
use Rattle.open_ledger.specs.Seat.{Known as Account}
use Rattle.open_ledger.specs.declared.why.Why.TheVariants.{Memory}
use Rattle.node_pool.specs.Pool.{Station, gave, took}
use Rattle.search_core.specs.Complete.{done_id, half_ids, less_found, times}
use Rattle.search_core.specs.Needs.{AllowsSplit}
use Rattle.search_core.specs.declared.done.Done.{Done}
use Rattle.search_core.specs.declared.done.Done.TheVariants.{Split, Close}
use Rattle.search_core.specs.declared.done.End.{End}
use Rattle.search_core.specs.declared.done.End.TheVariants.{OpenZero, ClaimRefused, HaltSeen}
use Rattle.search_core.specs.declared.gathered.Segment.{Segment}
use Rattle.node_work.specs.Node.{IsWritableNode}
use Rattle.node_work.specs.Step.{MaySplit}
use Rattle.worker_loop.specs.Sound.{IsSound}

-- the node that a worker worked on, and the record of it
pub record Task : Type 0 where
  pub node : Node
  pub done : Done

abbrev pub node_of : Task → Node
node_of T = T.node

abbrev pub done_of : Task → Done
done_of T = T.done

-- the node of this number and branch with this packing
abbrev pub packed : ℕ → Branch → Packing → Node
packed id B P = record { id = id; branch = B; packing = P }

-- the halves of a node of this branch that a record tells of
abbrev pub halves_by : Branch → Done → List Node
halves_by B (Close id P) = []
halves_by B (Split id at i o P) = yes_node (packed id B P) at i ∷ no_node (packed id B P) at o ∷ []

-- the halves that a task made
abbrev pub halves_of : Task → List Node
halves_of T = halves_by T.node.branch T.done

-- a node was split on a packing that allows it
pub record IsSplitTask (I : Network) (start : ℕ) (N : Node) (at : SplitAt) (P : Packing) : Type 0 where
  pub place : IsSplitAt I N.branch at
  pub allows : AllowsSplit I N.branch P start
  pub packed : IsWritableNode I (packed N.id N.branch P)

-- a node was closed by a packing that weighs at least what the worker saw last
pub record IsCloseTask (I : Network) (seen : ℕ) (N : Node) (P : Packing) : Type 0 where
  pub closes : Closes I N.branch seen P
  pub writable : IsWritablePacking P

-- what was done with a node
abbrev pub IsDoneWith : Network → ℕ → ℕ → Node → Done → Type 0
IsDoneWith I start seen N (Split id at i o P) = IsSplitTask I start N at P
IsDoneWith I start seen N (Close id P) = IsCloseTask I seen N P

-- a sound node, and a right record of it
pub record IsTask (I : Network) (R : Branch) (start seen : ℕ) (T : Task) : Type 0 where
  pub sound : IsSound I R T.node
  pub same : done_id T.done ≡ T.node.id
  pub done_right : IsDoneWith I start seen T.node T.done

-- a record tells of no split at a link, unless links are to be split
abbrev pub IsAllowed : Bool → Done → Type 0
IsAllowed links (Split id at i o P) = MaySplit links at
IsAllowed links (Close id P) = Unit {0}

-- the number of splits that a record tells of, and of closes
abbrev pub splits : Done → ℕ
splits (Split id at i o P) = 1
splits (Close id P) = 0

abbrev pub closes : Done → ℕ
closes (Split id at i o P) = 0
closes (Close id P) = 1

-- the ids of all halves
abbrev pub drawn_ids : List Done → List ℕ
drawn_ids done = flat_map half_ids done

-- the worker in this seat of so many gave each of these ids once; they are 1 and the seat, and every so many ids
pub record AreDrawn (seat workers : ℕ) (done : List Done) : Type 0 where
  pub once : (id : ℕ) → times id (drawn_ids done) ≤ 1
  pub own : (id : ℕ) → 0 < times id (drawn_ids done) → (j : ℕ) × (id ≡ 1 + seat + workers * j)

-- a tree that reaches what the branch says and is cheaper than the start
pub record IsFound (I : Network) (R : Branch) (start : ℕ) (t : Tree) : Type 0 where
  pub tree : IsTree I t
  pub reaches : ReachesAsTold R t
  pub cheaper : cost I t < start

-- the best tree that was found: there is none exactly where nothing was offered, and its cost is the least that was
pub record IsOffered (I : Network) (R : Branch) (start : ℕ) (best : Option Tree) (offers : List ℕ) : Type 0 where
  pub found : IfSome best (IsFound I R start)
  pub least : least_of start offers ≡ less_found I best start
  pub none : offers ≡ [] → best ≡ None
  pub some : best ≡ None → offers ≡ []

-- why a worker ended: nothing was open; or its claim was refused; or it saw that another one halted
abbrev pub IsEnding : End → Account → Type 0
IsEnding OpenZero u = u.tally.busy ≡ 0
IsEnding ClaimRefused u = 0 < u.tally.refused
IsEnding HaltSeen u = 0 < u.tally.sights

-- What one worker did in a whole run: its tasks and its segment; its pass went from p to q, and its new seats came to u and m.
pub record HasRun (I : Network) (R : Branch) (start seat workers : ℕ) (p q : Station) (u : Account) (m : Sight) (tasks : List Task) (s : Segment) : Type 0 where
  pub records : s.done ≡ map done_of tasks
  pub tasks_right : All (IsTask I R start s.seen) tasks
  pub left_sound : All (IsSound I R) s.left
  pub few : length s.left ≤ 1
  -- what it took and made it worked on, or left, or gave
  pub nodes : (h : Node → ℕ) → gave h q + took h p + sum_by h (map node_of tasks) + sum_by h s.left ≡ gave h p + took h q + sum_by h (flat_map halves_of tasks)
  pub drawn : AreDrawn seat workers s.done
  pub seen : m.lowest ≡ s.seen
  pub offered : IsOffered I R start s.best m.offers
  pub ups : u.tally.ups ≡ sum_by splits s.done
  pub downs : u.tally.downs ≡ sum_by closes s.done
  pub granted : u.tally.granted ≡ length s.done
  -- it halted only where its claim was refused, and not for want of memory
  pub halted : 0 < u.tally.halts → 0 < u.tally.refused
  pub spared : u.why ≢ Some Memory
  pub ending : IsEnding s.end u
