-- What is gathered of workers that ran beside each other, and what it comes to. Helpers' clauses cite this, and no public one.
use Rattle.std.specs.Prelude.{◌≡◌, ℕ, ◌+◌, ◌<◌, ◌≤◌, ◌%◌, ◌^◌, List, [], ◌∷◌, length, map, min, All, IfSome, ⊤}
use Rattle.std.specs.List.{sum_by}
use Rattle.st_model.specs.declared.branch.Branch.{Branch}
use Rattle.st_model.specs.Arborescence.{cost}
use Rattle.st_model.specs.Network.{Network}
use Rattle.cut_packing.specs.declared.packing.Packing.{Packing}
use Rattle.log_format.specs.Text.{IsWritablePacking}
use Rattle.branching.specs.declared.node.Node.{Node}
use Rattle.incumbent.specs.Least.{least_of}
use Rattle.incumbent.specs.Seat.{Known as Sight, all_offers}
use Rattle.open_ledger.specs.Seat.{Known as Account, ups_of, downs_of, granted_of, refused_of, halts_of, sights_of}
use Rattle.node_pool.specs.Pool.{Station, all_gave, all_took}
use Rattle.search_core.specs.State.{root_of}
use Rattle.search_core.specs.Complete.{AllPackings, IsComplete, IsFinished}
use Rattle.search_core.specs.declared.gathered.Gathered.{Gathered}
use Rattle.search_core.specs.declared.gathered.Segment.{Segment}
use Rattle.worker_loop.specs.Run.{HasRun, Task}
use Rattle.worker_loop.specs.Sound.{IsSound}

-- one worker of a team: its pass before and after, its seats after, and its segment
pub record Member : Type 0 where
  pub before : Station
  pub after : Station
  pub account : Account
  pub sight : Sight
  pub segment : Segment

-- each worker of a team of so many, from this seat on, has run
abbrev pub HaveRun : Network → Branch → ℕ → ℕ → ℕ → List Member → Type 0
HaveRun I R start workers seat [] = ⊤
HaveRun I R start workers seat (M ∷ Ms) = ((tasks : List Task) × HasRun I R start seat workers M.before M.after M.account M.sight tasks M.segment) × HaveRun I R start workers (seat + 1) Ms

abbrev pub accounts : List Member → List Account
accounts team = map (λ M. M.account) team

abbrev pub sights : List Member → List Sight
sights team = map (λ M. M.sight) team

abbrev pub segments_of : List Member → List Segment
segments_of team = map (λ M. M.segment) team

-- the pool began with the node of the whole branch and this packing, and these nodes were left in it at its close
pub record IsPooled (I : Network) (R : Branch) (P : Packing) (team : List Member) (queued : List Node) : Type 0 where
  pub root : (h : Node → ℕ) → all_gave h (map (λ M. M.before) team) ≡ all_took h (map (λ M. M.before) team) + h (root_of R P)
  pub left : (h : Node → ℕ) → all_gave h (map (λ M. M.after) team) ≡ all_took h (map (λ M. M.after) team) + sum_by h queued
  pub sound : All (IsSound I R) queued
  pub few : length queued < 2 ^ 63

-- the ledger came to this
pub record IsCounted (budget : ℕ) (team : List Member) (opened claimed : ℕ) : Type 0 where
  pub opens : (opened + downs_of (accounts team)) % 2 ^ 64 ≡ (1 + ups_of (accounts team)) % 2 ^ 64
  pub idle : All (λ (u : Account). u.tally.busy ≡ 0) (accounts team) → opened ≡ 0
  pub claims : claimed ≡ granted_of (accounts team)
  pub within : claimed ≡ min budget (granted_of (accounts team) + refused_of (accounts team))
  pub halts : 0 < sights_of (accounts team) → 0 < halts_of (accounts team)

-- the incumbent came to this
pub record IsLowest (start : ℕ) (team : List Member) (least : ℕ) : Type 0 where
  pub is_least : least ≡ least_of start (all_offers (sights team))
  pub seen : All (λ (s : Sight). least ≤ s.lowest) (sights team)

-- what is gathered of the team
abbrev pub gathered_of : List Member → List Node → ℕ → ℕ → Gathered
gathered_of team queued least claimed = record { segments = segments_of team; queued = queued; least = least; claimed = claimed }

-- the promise of a search
pub record IsSearched (G : Gathered) (I : Network) (R : Branch) (start budget : ℕ) : Type 0 where
  pub complete : IsComplete G I R start budget
  pub finished : IsFinished G I R start budget
  pub cheaper : All (λ (s : Segment). IfSome s.best (λ t. cost I t < start)) G.segments
  pub writable : AllPackings IsWritablePacking G

-- the theorem on a team: what it did, with what pool, ledger and incumbent came to, is a search
abbrev pub TeamSearches : Type 0
TeamSearches = (I : Network) (R : Branch) (P : Packing) (start budget workers : ℕ) (team : List Member) (queued : List Node) (least opened claimed : ℕ)
    → length team ≡ workers → workers ≤ 64 → HaveRun I R start workers 0 team
    → IsPooled I R P team queued → IsCounted budget team opened claimed → IsLowest start team least
    → IsSearched (gathered_of team queued least claimed) I R start budget
