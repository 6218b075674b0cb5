-- Trees in a network, grown arc by arc from a start, and what they cost.
use Rattle.std.specs.Prelude.{ℕ, ◌+◌, ◌≤◌, IsTrue, IsFalse, IsSome, if◌then◌else◌, List, [], ◌∷◌, ⊤, unwrap_or}
use Rattle.st_model.specs.declared.tree.Tree.{Tree}
use Rattle.st_model.specs.Lists.{has, total, sum_to}
use Rattle.st_model.specs.Network.{Network, IsVertex}
use Rattle.st_model.specs.Ground.{Ground, ground}

-- what is reached once the heads of the arcs join it, the last first
abbrev pub reached_from : List ℕ → List (ℕ × ℕ) → List ℕ
reached_from r [] = r
reached_from r (arc ∷ arcs) = reached_from (arc.1 ∷ r) arcs

-- the start and every head
abbrev pub reached : Tree → List ℕ
reached t = reached_from (t.start ∷ []) t.arcs

-- each arc in turn leads from a vertex that is reached to one that isn't
abbrev pub GrowsIn : Ground → List ℕ → List (ℕ × ℕ) → Type 0
GrowsIn G r [] = ⊤
GrowsIn G r ((u, v) ∷ arcs) = IsSome (G.price u v) × IsTrue (has r u) × IsFalse (has r v) × GrowsIn G (v ∷ r) arcs

-- arcs that grow from the start
pub record IsArborescenceIn (G : Ground) (t : Tree) : Type 0 where
  pub start : IsVertex G.n t.start
  pub grows : GrowsIn G (t.start ∷ []) t.arcs

-- and every required vertex is reached
pub record IsTreeIn (G : Ground) (t : Tree) : Type 0 where
  pub arborescence : IsArborescenceIn G t
  pub required : (v : ℕ) → IsVertex G.n v → IsTrue (G.required v) → IsTrue (has (reached t) v)

abbrev pub arc_cost_in : Ground → ℕ × ℕ → ℕ
arc_cost_in G arc = unwrap_or (G.price arc.0 arc.1) 0

-- what v costs where r is reached: its prize, unless it is among them
abbrev pub missed_in : Ground → List ℕ → ℕ → ℕ
missed_in G r v = if has r v then 0 else G.pays v

-- the arcs of the tree, and the prizes of all vertices that it doesn't reach
abbrev pub cost_in : Ground → Tree → ℕ
cost_in G t = total (arc_cost_in G) t.arcs + sum_to (missed_in G (reached t)) G.n

-- every tree costs at least x
abbrev pub IsBoundIn : Ground → ℕ → Type 0
IsBoundIn G x = (t : Tree) → IsTreeIn G t → x ≤ cost_in G t

-- no tree costs less
pub record IsBestIn (G : Ground) (t : Tree) : Type 0 where
  pub tree : IsTreeIn G t
  pub least : IsBoundIn G (cost_in G t)

-- the same in a network
abbrev pub Grows : Network → List ℕ → List (ℕ × ℕ) → Type 0
Grows I r arcs = GrowsIn (ground I) r arcs

abbrev pub IsArborescence : Network → Tree → Type 0
IsArborescence I t = IsArborescenceIn (ground I) t

abbrev pub IsTree : Network → Tree → Type 0
IsTree I t = IsTreeIn (ground I) t

abbrev pub arc_cost : Network → ℕ × ℕ → ℕ
arc_cost I arc = arc_cost_in (ground I) arc

abbrev pub missed : Network → List ℕ → ℕ → ℕ
missed I r v = missed_in (ground I) r v

abbrev pub cost : Network → Tree → ℕ
cost I t = cost_in (ground I) t

abbrev pub IsBound : Network → ℕ → Type 0
IsBound I x = IsBoundIn (ground I) x

abbrev pub IsBest : Network → Tree → Type 0
IsBest I t = IsBestIn (ground I) t
