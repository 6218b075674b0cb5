-- What is kept of a state under change.
use Rattle.std.specs.Prelude.{◌≡◌, ℕ, Bool, not, if◌then◌else◌, List, filter}
use Rattle.st_model.specs.Lists.{sum_to, up_to}
use Rattle.st_model.specs.Network.{is_required}
use Rattle.graph_store.specs.Graph.{Graph, is_in}
use Rattle.lift_back.specs.declared.rest.Rest.{Rest}
use Rattle.lift_back.specs.State.{State, IsState}

-- the vertices that aren't present
abbrev pub absent : Graph → List ℕ
absent g = filter (λ v. not (is_in g v)) (up_to g.network.n)

-- how many from 1 to n pass the test
abbrev pub count_to : (ℕ → Bool) → ℕ → ℕ
count_to p n = sum_to (λ v. if p v then 1 else 0) n

-- the state that is kept
abbrev pub state_of : Rest → State
state_of r = record { instance = r.store.network; gone = absent r.store; offset = r.offset }

-- what holds of everything that is kept
pub record IsKept (r : Rest) : Type 0 where
  pub state : IsState (state_of r)
  pub left : r.left ≡ count_to (is_in r.store) r.store.network.n
  pub required : r.required ≡ count_to (is_required r.store.network) r.store.network.n
