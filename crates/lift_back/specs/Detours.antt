-- Walks that stand in for a link.
use Rattle.std.specs.Prelude.{◌≢◌, ℕ, ◌+◌, ◌≤◌, IsFalse, IsSome, if◌then◌else◌, List, [], ◌∷◌, ◌++◌, All, ⊤}
use Rattle.st_model.specs.Network.{Network, link, is_required}
use Rattle.st_model.specs.Arborescence.{arc_cost}
use Rattle.st_model.specs.Made.{is_between}

-- the links of a walk from a vertex over the others
abbrev pub walk : ℕ → List ℕ → List (ℕ × ℕ)
walk v [] = []
walk v (w ∷ ws) = (v, w) ∷ walk w ws

-- what is paid since the last required vertex stays within the limit
abbrev pub StaysWithin : Network → ℕ → ℕ → List (ℕ × ℕ) → Type 0
StaysWithin I limit paid [] = ⊤
StaysWithin I limit paid (step ∷ steps) = (paid + arc_cost I step ≤ limit) × StaysWithin I limit (if is_required I step.1 then 0 else paid + arc_cost I step) steps

-- a walk from a to b over the inner vertices, at least one, that never uses the link a-b, and whose pieces
-- between its ends and the required vertices that it passes cost no more than that link each
pub record IsDetour (I : Network) (a b : ℕ) (inner : List ℕ) : Type 0 where
  pub linked : IsSome (link I.links a b)
  pub some : inner ≢ []
  pub links : All (λ step. IsSome (link I.links step.0 step.1)) (walk a (inner ++ b ∷ []))
  pub other : All (λ step. IsFalse (is_between (a, b) step.0 step.1)) (walk a (inner ++ b ∷ []))
  pub pieces : StaysWithin I (arc_cost I (a, b)) 0 (walk a (inner ++ b ∷ []))

-- the walk may go on over a link: it is there, isn't a-b, and what is paid stays within the limit
pub record MayGo (I : Network) (a b limit paid from to : ℕ) : Type 0 where
  pub linked : IsSome (link I.links from to)
  pub other : IsFalse (is_between (a, b) from to)
  pub within : paid + arc_cost I (from, to) ≤ limit
