-- The steps of a search: what each does to it.
use Rattle.std.specs.Prelude.{◌≡◌, ℕ, ◌+◌, ◌<◌, ◌≤◌, ◌⊎◌, ◌==◌, if◌then◌else◌, List, [], ◌∷◌, ◌++◌, All, IsPermutation, length, slice_get, Some}
use Rattle.st_model.specs.Network.{Network}
use Rattle.graph_store.specs.declared.half.Half.{Half}
use Rattle.special_dist.specs.declared.quest.Quest.{Quest}
use Rattle.special_dist.specs.declared.quest.Visit.{Visit}
use Rattle.special_dist.specs.declared.search.Search.{Search}
use Rattle.special_dist.specs.Searching.{IsReached, IsSearch, IsFollowed, LeadsOn, paid_at, waiting, weight}

-- the visit stands last, and waits
pub record Adds (old new : Search) (visit : Visit) : Type 0 where
  pub less : (paid : ℕ) → paid_at old visit.vertex ≡ Some paid → visit.paid < paid
  pub visits : new.visits.items ≡ old.visits.items ++ visit ∷ []
  pub reached : (v : ℕ) → paid_at new v ≡ (if v == visit.vertex then Some visit.paid else paid_at old v)
  pub queue : IsPermutation (length old.visits.items ∷ waiting old) (waiting new)

-- a vertex is visited, unless it was at this or less before
abbrev pub Visits : Search → Search → Visit → Type 0
Visits old new visit = (IsReached old visit.vertex visit.paid × (new ≡ old)) ⊎ Adds old new visit

-- what is kept whenever visits are added
pub record Keeps (old new : Search) : Type 0 where
  pub visits : (k : ℕ) (s : Visit) → slice_get old.visits.items k ≡ Some s → slice_get new.visits.items k ≡ Some s
  pub reached : (v paid : ℕ) → IsReached old v paid → IsReached new v paid

-- what holds once a visit was gone on from over some halves of its vertex
pub record HasGone (I : Network) (q : Quest) (place : ℕ) (visit : Visit) (halves : List Half) (old new : Search) : Type 0 where
  pub keeps : Keeps old new
  pub followed : All (λ half. LeadsOn I q visit.vertex visit.paid half.to half.cost → IsFollowed I q new half.to (visit.paid + half.cost)) halves
  pub search : IsSearch I q old (place ∷ waiting old) → IsSearch I q new (place ∷ waiting new)
  pub weight : weight I.n new ≤ weight I.n old
