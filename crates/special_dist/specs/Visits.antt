-- Vertices that walks from an end of a link reached, each with the visit that it comes from.
use Rattle.std.specs.Prelude.{◌≡◌, ℕ, ◌+◌, ◌<◌, ◌≤◌, ◌⊎◌, if◌then◌else◌, List, slice_get, Some}
use Rattle.st_model.specs.Network.{Network, IsVertex, link, is_required}
use Rattle.st_model.specs.Arborescence.{arc_cost}
use Rattle.lift_back.specs.Detours.{MayGo}
use Rattle.special_dist.specs.declared.quest.Quest.{Quest}
use Rattle.special_dist.specs.declared.quest.Visit.{Visit}

-- the quest is for this link of the network
pub record IsQuest (I : Network) (q : Quest) : Type 0 where
  pub linked : link I.links q.a q.b ≡ Some q.limit

-- a walk that stands in for the link may go on to the vertex
abbrev pub GoesTo : Network → Quest → Visit → ℕ → Type 0
GoesTo I q from to = MayGo I q.a q.b q.limit from.paid from.vertex to

-- what is paid at a vertex since the last required one, where this much was before it
abbrev pub paid_after : Network → ℕ → ℕ → ℕ
paid_after I v paid = if is_required I v then 0 else paid

-- the visit goes on from one before it
pub record ComesFrom (I : Network) (q : Quest) (visits : List Visit) (k : ℕ) (s : Visit) : Type 0 where
  pub from : Visit
  pub earlier : s.before < k
  pub there : slice_get visits s.before ≡ Some from
  pub goes : GoesTo I q from s.vertex
  pub paid : s.paid ≡ paid_after I s.vertex (from.paid + arc_cost I (from.vertex, s.vertex))

-- the visit is the first one, of the link's end a
pub record IsFirst (q : Quest) (k : ℕ) (s : Visit) : Type 0 where
  pub vertex : s.vertex ≡ q.a
  pub paid : s.paid ≡ 0
  pub before : k ≤ s.before

-- what holds of the visit at a place
pub record IsVisit (I : Network) (q : Quest) (visits : List Visit) (k : ℕ) (s : Visit) : Type 0 where
  pub vertex : IsVertex I.n s.vertex
  pub within : s.paid ≤ q.limit
  pub comes : IsFirst q k s ⊎ ComesFrom I q visits k s

-- what holds of all of them
abbrev pub AreVisits : Network → Quest → List Visit → Type 0
AreVisits I q visits = (k : ℕ) (s : Visit) → slice_get visits k ≡ Some s → IsVisit I q visits k s
