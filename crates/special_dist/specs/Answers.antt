-- What a search for a detour answers.
use Rattle.std.specs.Prelude.{◌≡◌, ℕ, List, Option, Some, IsSome, slice_get}
use Rattle.st_model.specs.Network.{Network}
use Rattle.lift_back.specs.Detours.{IsDetour}
use Rattle.special_dist.specs.declared.found.Found.{Found}
use Rattle.special_dist.specs.declared.found.Found.TheVariants.{Detour, Nothing, GaveUp}
use Rattle.special_dist.specs.declared.quest.Quest.{Quest}
use Rattle.special_dist.specs.declared.quest.Visit.{Visit}
use Rattle.special_dist.specs.declared.search.End.{End}
use Rattle.special_dist.specs.declared.search.End.TheVariants.{Reached, Closed, Stopped}
use Rattle.special_dist.specs.Visits.{AreVisits, GoesTo}

-- no inner vertices make a detour for the link a-b
abbrev pub HasNoDetour : Network → ℕ → ℕ → Type 0
HasNoDetour I a b = (inner : List ℕ) → ¬ IsDetour I a b inner

-- the answer is right, and the search gave up only where it had a bound
abbrev pub IsAnswer : Network → ℕ → ℕ → Option ℕ → Found → Type 0
IsAnswer I a b most (Detour inner) = IsDetour I a b inner.items
IsAnswer I a b most Nothing = HasNoDetour I a b
IsAnswer I a b most GaveUp = IsSome most

-- the other end is reached from the visit at this place
pub record IsReachedFrom (I : Network) (q : Quest) (visits : List Visit) (place : ℕ) : Type 0 where
  pub visit : Visit
  pub there : slice_get visits place ≡ Some visit
  pub are : AreVisits I q visits
  pub goes : GoesTo I q visit q.b

-- how a search ends
abbrev pub Ends : Network → Quest → Option ℕ → List Visit → End → Type 0
Ends I q most visits (Reached place) = IsReachedFrom I q visits place
Ends I q most visits Closed = HasNoDetour I q.a q.b
Ends I q most visits Stopped = IsSome most
