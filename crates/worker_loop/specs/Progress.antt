-- What a worker did since its run began, at some moment of it. Of this the clauses of `Worker::run` cite `IsAim`, `IsUnused` and `SameWorker`.
use Rattle.std.specs.Prelude.{◌≡◌, ◌≢◌, ℕ, Bool, if◌then◌else◌, ◌+◌, ◌*◌, ◌<◌, ◌≤◌, min, List, [], ◌∷◌, ◌++◌, length, map, All, Option, Some, None}
use Rattle.std.specs.List.{flat_map, sum_by}
use Rattle.std.specs.Option.{option_to_list}
use Rattle.st_model.specs.declared.split_at.SplitAt.{SplitAt}
use Rattle.st_model.specs.declared.branch.Branch.{Branch}
use Rattle.st_model.specs.declared.tree.Tree.{Tree}
use Rattle.st_model.specs.Lists.{sum_to}
use Rattle.st_model.specs.Network.{Network, IsInstance, pays}
use Rattle.st_model.specs.Branch.{NoneIsCertain}
use Rattle.cut_packing.specs.declared.packing.Packing.{Packing}
use Rattle.branching.specs.declared.node.Node.{Node}
use Rattle.branching.specs.Node.{yes_node, no_node}
use Rattle.incumbent.specs.Least.{least_of}
use Rattle.incumbent.specs.Seat.{Known as Sight, fresh as new_sight, having_offered}
use Rattle.open_ledger.specs.Seat.{Known as Account, counting, fresh as new_account}
use Rattle.open_ledger.specs.declared.why.Why.TheVariants.{Memory}
use Rattle.open_ledger.specs.Tally.{with_down, with_up}
use Rattle.node_pool.specs.Pool.{Station, Moves, SamePass, gave, took}
use Rattle.search_core.specs.Complete.{times}
use Rattle.search_core.specs.declared.done.Done.{Done}
use Rattle.search_core.specs.declared.done.Done.TheVariants.{Split, Close}
use Rattle.better_trees.specs.declared.price.Priced.{Priced}
use Rattle.worker_loop.specs.declared.turn.Turn.{Turn}
use Rattle.worker_loop.specs.declared.turn.Turn.TheVariants.{Next, Left}
use Rattle.worker_loop.specs.declared.work.Work.{Work}
use Rattle.worker_loop.specs.declared.worker.Worker.{Worker}
use Rattle.worker_loop.specs.Run.{AreDrawn, IsEnding, IsOffered, IsTask, Task, closes, done_of, drawn_ids, halves_by, halves_of, node_of, splits}
use Rattle.worker_loop.specs.Sound.{IsSound}

-- where nobody has to be reached, the start is no dearer than leaving everybody out
pub record IsAim (I : Network) (R : Branch) (start : ℕ) : Type 0 where
  pub instance : IsInstance I
  pub cheap : NoneIsCertain I R → start ≤ sum_to (pays I) I.n

-- a worker at a moment: its pass and its seats, the next id that it draws, and its work so far
pub record Moment : Type 0 where
  pub pass : Station
  pub account : Account
  pub sight : Sight
  pub next : ℕ
  pub work : Work

abbrev pub as_of : Station → Account → Sight → ℕ → Work → Moment
as_of q u s next k = record { pass = q; account = u; sight = s; next = next; work = k }

abbrev pub moment : {Q : Type 0} → Worker Q → Work → Moment
moment w k = as_of w.pass w.ledger w.best w.next k

-- the same worker, in the same seat of the same team
pub record SameWorker {Q : Type 0} (before after : Worker Q) : Type 0 where
  pub seat : after.seat ≡ before.seat
  pub workers : after.workers ≡ before.workers
  pub links : after.links ≡ before.links
  pub pass : SamePass before.pass after.pass
  pub ledger : after.ledger.ledger ≡ before.ledger.ledger
  pub best : after.best.incumbent ≡ before.best.incumbent

-- a worker of a team that has done nothing yet
pub record IsUnused {Q : Type 0} (start : ℕ) (w : Worker Q) : Type 0 where
  pub some : 0 < w.workers
  pub next : w.next ≡ 1 + w.seat
  pub account : w.ledger ≡ new_account w.ledger.ledger w.ledger.tally.budget
  pub sight : w.best ≡ new_sight w.best.incumbent start

-- the ids that were drawn are below the next one
pub record AreDrawnBelow (seat workers next : ℕ) (done : List Done) : Type 0 where
  pub some : 0 < workers
  pub drawn : AreDrawn seat workers done
  pub below : (id : ℕ) → next ≤ id → times id (drawn_ids done) ≡ 0
  pub next_own : (j : ℕ) × (next ≡ 1 + seat + workers * j)

-- what it saw last is no more than the start and its offers
pub record HasSeen (I : Network) (R : Branch) (start : ℕ) (m : Sight) (best : Option Tree) (seen : ℕ) : Type 0 where
  pub last : m.lowest ≡ seen
  pub low : m.lowest ≤ least_of start m.offers
  pub offered : IsOffered I R start best m.offers

-- what an account counts of these records; it halted only where its claim was refused, and not for want of memory
pub record CountsOf (done : List Done) (u : Account) : Type 0 where
  pub ups : u.tally.ups ≡ sum_by splits done
  pub downs : u.tally.downs ≡ sum_by closes done
  pub granted : u.tally.granted ≡ length done
  pub halted : 0 < u.tally.halts → 0 < u.tally.refused
  pub spared : u.why ≢ Some Memory

-- these tasks were done since its pass was p and its seats were new, and it has these nodes in hand
pub record HasDone (I : Network) (R : Branch) (start seat workers : ℕ) (p : Station) (m : Moment) (held : List Node) (tasks : List Task) : Type 0 where
  pub records : m.work.done.items ≡ map done_of tasks
  pub tasks_right : All (IsTask I R start m.work.seen) tasks
  pub held_sound : All (IsSound I R) held
  pub nodes : (h : Node → ℕ) → gave h m.pass + took h p + sum_by h (map node_of tasks) + sum_by h held ≡ gave h p + took h m.pass + sum_by h (flat_map halves_of tasks)
  pub drawn : AreDrawnBelow seat workers m.next m.work.done.items
  pub seen : HasSeen I R start m.sight m.work.best m.work.seen
  pub counts : CountsOf m.work.done.items m.account

abbrev pub HasWorked : Network → Branch → ℕ → ℕ → ℕ → Station → Moment → List Node → Type 0
HasWorked I R start seat workers p m held = (tasks : List Task) × HasDone I R start seat workers p m held tasks

-- a better tree, if there is one, was kept, and then what it costs was offered
abbrev pub Adopts : Option Priced → Sight → Sight → Work → Work → Type 0
Adopts None m m' k k' = (m' ≡ m) × (k' ≡ k)
Adopts (Some p) m m' k k' = (m' ≡ having_offered m p.price k'.seen) × (k'.seen ≤ min m.lowest p.price) × (k'.best ≡ Some p.tree) × (k'.done ≡ k.done)

-- a node was closed by a packing
pub record IsClosed (id : ℕ) (P : Packing) (m m' : Moment) : Type 0 where
  pub pass : m'.pass ≡ m.pass
  pub account : m'.account ≡ counting m.account (with_down m.account.tally)
  pub sight : m'.sight ≡ m.sight
  pub next : m'.next ≡ m.next
  pub done : m'.work.done.items ≡ m.work.done.items ++ Close id P ∷ []
  pub best : m'.work.best ≡ m.work.best
  pub seen : m'.work.seen ≡ m.work.seen

-- of the two halves of a node, the one to go on with: where there is a plan, the one that says no
abbrev pub half_of : Bool → Node → SplitAt → ℕ → ℕ → Node
half_of planned N at i o = if planned then no_node N at o else yes_node N at i

-- and the other one
abbrev pub other_of : Bool → Node → SplitAt → ℕ → ℕ → Node
other_of planned N at i o = if planned then yes_node N at i else no_node N at o

-- the node under an id was split, with the packing of N: one half is in hand, and the other one was given
pub record IsHalved (workers id : ℕ) (N : Node) (at : SplitAt) (planned : Bool) (m m' : Moment) (half : Node) : Type 0 where
  pub half_is : half ≡ half_of planned N at m.next (m.next + workers)
  pub pass : Moves m.pass m'.pass (other_of planned N at m.next (m.next + workers) ∷ []) []
  pub account : m'.account ≡ counting m.account (with_up m.account.tally)
  pub sight : m'.sight ≡ m.sight
  pub next : m'.next ≡ m.next + workers + workers
  pub done : m'.work.done.items ≡ m.work.done.items ++ Split id at m.next (m.next + workers) N.packing ∷ []
  pub best : m'.work.best ≡ m.work.best
  pub seen : m'.work.seen ≡ m.work.seen

-- what was done with a node that was claimed, between two moments
pub record IsWorkedOn (I : Network) (R : Branch) (start seat workers : ℕ) (N : Node) (m m' : Moment) (held : List Node) (d : Done) : Type 0 where
  pub task : IsTask I R start m'.work.seen (record { node = N; done = d })
  pub records : m'.work.done.items ≡ m.work.done.items ++ d ∷ []
  pub held_sound : All (IsSound I R) held
  pub nodes : (h : Node → ℕ) → gave h m'.pass + took h m.pass + sum_by h held ≡ gave h m.pass + took h m'.pass + sum_by h (halves_by N.branch d)
  pub drawn : AreDrawnBelow seat workers m.next m.work.done.items → AreDrawnBelow seat workers m'.next m'.work.done.items
  pub seen : HasSeen I R start m.sight m.work.best m.work.seen → HasSeen I R start m'.sight m'.work.best m'.work.seen
  pub lower : m'.work.seen ≤ m.sight.lowest
  pub ups : m'.account.tally.ups ≡ m.account.tally.ups + splits d
  pub downs : m'.account.tally.downs ≡ m.account.tally.downs + closes d
  pub granted : m'.account.tally.granted ≡ m.account.tally.granted
  pub refused : m'.account.tally.refused ≡ m.account.tally.refused
  pub halts : m'.account.tally.halts ≡ m.account.tally.halts
  pub why : m'.account.why ≡ m.account.why

-- what holds after a turn: the worker goes on, or ends and leaves a node
abbrev pub HasTurned : Network → Branch → ℕ → ℕ → ℕ → Station → Moment → Turn → Type 0
HasTurned I R start seat workers p m (Next half) = HasWorked I R start seat workers p m (option_to_list half) × (m.account.tally.refused ≡ 0)
HasTurned I R start seat workers p m (Left N end) = HasWorked I R start seat workers p m (N ∷ []) × IsEnding end m.account

-- a claim was granted to an account
pub record IsGranted (u u' : Account) : Type 0 where
  pub ups : u'.tally.ups ≡ u.tally.ups
  pub downs : u'.tally.downs ≡ u.tally.downs
  pub granted : u'.tally.granted ≡ u.tally.granted + 1
  pub refused : u'.tally.refused ≡ u.tally.refused
  pub halts : u'.tally.halts ≡ u.tally.halts
  pub why : u'.why ≡ u.why

-- an account on which nothing but looks was done
pub record HasLooked (u u' : Account) : Type 0 where
  pub ledger : u'.ledger ≡ u.ledger
  pub ups : u'.tally.ups ≡ u.tally.ups
  pub downs : u'.tally.downs ≡ u.tally.downs
  pub granted : u'.tally.granted ≡ u.tally.granted
  pub refused : u'.tally.refused ≡ u.tally.refused
  pub halts : u'.tally.halts ≡ u.tally.halts
  pub why : u'.why ≡ u.why
