-- Workers before and after they run, and in the slots of a team. Of this the clauses of `Worker::run` cite `MayRun` and `Brings`.
use Rattle.std.specs.Prelude.{◌≡◌, ℕ, Bool, ◌+◌, ◌<◌, All, List, [], ◌∷◌, length, slice_index_or, Option, IfSome, ⊤}
use Rattle.st_model.specs.declared.branch.Branch.{Branch}
use Rattle.st_model.specs.Network.{Network}
use Rattle.incumbent.specs.Seat.{Known as Sight}
use Rattle.open_ledger.specs.Seat.{Known as Account}
use Rattle.node_pool.specs.Pool.{Station}
use Rattle.search_core.specs.declared.gathered.Segment.{Segment}
use Rattle.worker_loop.specs.declared.team.Slot.{Slot}
use Rattle.worker_loop.specs.declared.worker.Worker.{Worker}
use Rattle.worker_loop.specs.Progress.{IsAim, IsUnused, SameWorker}
use Rattle.worker_loop.specs.Run.{HasRun, IsAllowed, Task}

-- a worker that has done nothing yet may run for an aim in this instance
pub record MayRun {Q : Type 0} (J I : Network) (R : Branch) (start : ℕ) (w : Worker Q) : Type 0 where
  pub whole : J ≡ I
  pub aim : IsAim I R start
  pub unused : IsUnused start w

-- what a worker brings back of a whole run
abbrev pub Brings : {Q : Type 0} → Network → Branch → ℕ → Worker Q → Worker Q → Segment → Type 0
Brings I R start before after s = (tasks : List Task) × HasRun I R start before.seat before.workers before.pass after.pass after.ledger after.best tasks s

abbrev pub pass_of : {Q : Type 0} → Slot Q → Station
pass_of s = s.worker.pass

abbrev pub account_of : {Q : Type 0} → Slot Q → Account
account_of s = s.worker.ledger

abbrev pub sight_of : {Q : Type 0} → Slot Q → Sight
sight_of s = s.worker.best

abbrev pub segment_of : {Q : Type 0} → Slot Q → Option Segment
segment_of s = s.segment

-- the worker in this seat of so many, which has drawn no id yet
pub record IsSeated {Q : Type 0} (workers : ℕ) (links : Bool) (seat : ℕ) (s : Slot Q) : Type 0 where
  pub seat_is : s.worker.seat ≡ seat
  pub workers_are : s.worker.workers ≡ workers
  pub links_are : s.worker.links ≡ links
  pub next : s.worker.next ≡ 1 + seat

-- the workers of a team of so many, from this seat on
abbrev pub AreSeated : {Q : Type 0} → ℕ → Bool → ℕ → List (Slot Q) → Type 0
AreSeated workers links seat [] = ⊤
AreSeated workers links seat (s ∷ ss) = IsSeated workers links seat s × AreSeated workers links (seat + 1) ss

-- a worker ran in its slot, and left there what it brings back, unless it was refused memory
pub record HasRunIn {Q : Type 0} (I : Network) (R : Branch) (start : ℕ) (before after : Slot Q) : Type 0 where
  pub same : SameWorker before.worker after.worker
  pub run : IfSome after.segment (Brings I R start before.worker after.worker)
  pub sites : IfSome after.segment (λ s. All (IsAllowed before.worker.links) s.done)

-- each worker of a team ran in its slot
abbrev pub HaveRunIn : {Q : Type 0} → Network → Branch → ℕ → List (Slot Q) → List (Slot Q) → Type 0
HaveRunIn {Q} I R start before after = (k : ℕ) (d : Slot Q) → k < length before → HasRunIn I R start (slice_index_or before k d) (slice_index_or after k d)
