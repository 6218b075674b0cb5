-- The arcs of a tree as a chain: each is kept at its head, together with the head of the arc before.
use Rattle.std.specs.Prelude.{◌≡◌, ℕ, ◌<◌, ◌==◌, Bool, IsTrue, IsFalse, List, [], ◌∷◌, Option, Some, None, slice_index_or, ⊤}
use Rattle.std.specs.List.{list_any}
use Rattle.lift_back.specs.declared.chain.Arrival.{Arrival}
use Rattle.lift_back.specs.declared.chain.Chain.{Chain}

-- whether one of the arcs leads to v
abbrev pub leads_to : List (ℕ × ℕ) → ℕ → Bool
leads_to arcs v = list_any (λ arc. arc.1 == v) arcs

-- how v is reached, if it is
abbrev pub arrival_at : List (Option Arrival) → ℕ → Option Arrival
arrival_at arrivals v = slice_index_or arrivals v None

-- each arc in turn is kept at its head, with the vertex that was reached before
abbrev pub LeadsOn : List (Option Arrival) → ℕ → List (ℕ × ℕ) → ℕ → Type 0
LeadsOn arrivals before [] last = before ≡ last
LeadsOn arrivals before (arc ∷ arcs) last = (arrival_at arrivals arc.1 ≡ Some (record { tail = arc.0; before = before })) × LeadsOn arrivals arc.1 arcs last

-- the chain keeps just these arcs
pub record IsChainOf (start : ℕ) (arcs : List (ℕ × ℕ)) (c : Chain) : Type 0 where
  pub leads : LeadsOn c.arrivals.items start arcs c.last
  pub others : (v : ℕ) → IsFalse (leads_to arcs v) → arrival_at c.arrivals.items v ≡ None

-- no two of the arcs lead to the same vertex
abbrev pub AreOnce : List (ℕ × ℕ) → Type 0
AreOnce [] = ⊤
AreOnce (arc ∷ arcs) = IsFalse (leads_to arcs arc.1) × AreOnce arcs

-- each arc leads to a vertex of its own that is below the count and isn't the start
pub record AreLed (count start : ℕ) (arcs : List (ℕ × ℕ)) : Type 0 where
  pub once : AreOnce arcs
  pub apart : IsFalse (leads_to arcs start)
  pub within : (v : ℕ) → IsTrue (leads_to arcs v) → v < count
