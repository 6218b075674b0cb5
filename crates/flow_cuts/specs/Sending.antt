-- Flows as units that are sent along arcs, and what a search finds. Helpers' clauses cite this, and no public one.
use Rattle.std.specs.Prelude.{◌≡◌, ℕ, ◌+◌, ◌-◌, ◌<◌, ◌≤◌, ◌⊎◌, ◌==◌, ◌&&◌, ◌||◌, Bool, IsTrue, IsFalse, if◌then◌else◌, List, [], ◌∷◌, map, reverse, All, Some, unwrap_or, ⊤}
use Rattle.std.specs.Map.{lookup}
use Rattle.st_model.specs.Lists.{has}
use Rattle.st_model.specs.Network.{IsVertex}
use Rattle.bidirected_form.specs.Digraph.{Digraph, remaining}
use Rattle.flow_cuts.specs.Fewest.{entering_sum}
use Rattle.flow_cuts.specs.declared.flow.Flow.{Flow}
use Rattle.flow_cuts.specs.declared.searching.Search.{Search}

-- how many units are sent along the arc from u to v
abbrev pub sent : Flow → ℕ → ℕ → ℕ
sent flow u v = unwrap_or (lookup (λ p. (u == p.0) && (v == p.1)) flow.units.entries) 0

-- the same in the other direction
abbrev pub back : (ℕ → ℕ → ℕ) → ℕ → ℕ → ℕ
back f u v = f v u

-- an arc with so much remaining carries on balance less than it may: as much as one likes where nothing remains
abbrev pub HasRoom : (ℕ → ℕ → ℕ) → ℕ → ℕ → ℕ → ℕ → Type 0
HasRoom f capacity remaining u v = (remaining ≡ 0) ⊎ (f u v - f v u < capacity)

-- one more unit can be sent from u to v
pub record CanSend (D : Digraph) (f : ℕ → ℕ → ℕ) (capacity u v : ℕ) : Type 0 where
  pub left : ℕ
  pub arc : remaining D u v ≡ Some left
  pub room : HasRoom f capacity left u v

-- v is q, or one of the steps begins there
abbrev pub is_led : ℕ → List (ℕ × ℕ) → ℕ → Bool
is_led q steps v = (v == q) || has (map (λ s. s.0) steps) v

-- the steps, the last one first, go over arcs that can send more, each from a new vertex to one that is led to q
abbrev pub AreSteps : Digraph → (ℕ → ℕ → ℕ) → ℕ → ℕ → List (ℕ × ℕ) → Type 0
AreSteps D f capacity q [] = ⊤
AreSteps D f capacity q (s ∷ steps) = CanSend D f capacity s.0 s.1 × IsTrue (is_led q steps s.1) × IsFalse (is_led q steps s.0) × AreSteps D f capacity q steps

-- the vertices are those that the steps lead to q
pub record IsTree (D : Digraph) (f : ℕ → ℕ → ℕ) (capacity q : ℕ) (s : Search) : Type 0 where
  pub count : s.reaching.count ≡ D.n + 1
  pub in_range : All (IsVertex D.n) s.reaching.members
  pub same : (v : ℕ) → has s.reaching.members v ≡ is_led q (reverse s.steps.items) v
  pub steps : AreSteps D f capacity q (reverse s.steps.items)

-- and all that reach q, unless the root does
pub record IsSearched (D : Digraph) (f : ℕ → ℕ → ℕ) (capacity q : ℕ) (s : Search) : Type 0 where
  pub tree : IsTree D f capacity q s
  pub closed : IsFalse (has s.reaching.members D.root) → (u v : ℕ) → IsTrue (has s.reaching.members v) → CanSend D f capacity u v → IsTrue (has s.reaching.members u)

-- the units that enter a set are those that leave it, and k more where q is in it, and k fewer where the root is
abbrev pub IsBalanced : Digraph → ℕ → ℕ → (ℕ → ℕ → ℕ) → Type 0
IsBalanced D q k f = (set : List ℕ) → entering_sum D f set + (if has set D.root then k else 0) ≡ entering_sum D (back f) set + (if has set q then k else 0)

-- a flow of k units from the root to q, at most one of them on an arc that something remains of
pub record IsFlow (D : Digraph) (q k : ℕ) (f : ℕ → ℕ → ℕ) : Type 0 where
  pub balanced : IsBalanced D q k f
  pub single : (u v left : ℕ) → remaining D u v ≡ Some left → 0 < left → f u v ≤ f v u + 1
  pub few : (u v : ℕ) → f u v ≤ k

-- one unit more from the root to q, over arcs that were open
pub record SendsOne (D : Digraph) (q : ℕ) (old new : ℕ → ℕ → ℕ) : Type 0 where
  pub balanced : (k : ℕ) → IsBalanced D q k old → IsBalanced D q (k + 1) new
  pub more : (u v : ℕ) → old u v ≤ new u v
  pub over : (u v : ℕ) → (new u v ≡ old u v) ⊎ (CanSend D old 1 u v × (new u v ≡ old u v + 1))
