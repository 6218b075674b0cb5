-- Leaves of a tree, and what they are worth.
use Rattle.std.specs.Prelude.{◌≡◌, ℕ, ◌≤◌, Bool, ◌||◌, ◌==◌, IsFalse, List, [], ◌∷◌, filter}
use Rattle.st_model.specs.declared.branch.Branch.{Branch}
use Rattle.st_model.specs.declared.tree.Tree.{Tree}
use Rattle.st_model.specs.Arborescence.{arc_cost}
use Rattle.st_model.specs.Branch.{is_certain}
use Rattle.st_model.specs.Network.{Network, pays}

-- v is an end of the arc
abbrev pub is_end : ℕ → ℕ × ℕ → Bool
is_end v arc = (arc.0 == v) || (arc.1 == v)

-- the arcs with an end at v
abbrev pub arcs_at : List (ℕ × ℕ) → ℕ → List (ℕ × ℕ)
arcs_at arcs v = filter (is_end v) arcs

-- no leaf that is neither required nor inside pays less than its link costs: a vertex, the start
-- as any other, that is an end of one arc alone
abbrev pub NoLeafToSpare : Network → Branch → Tree → Type 0
NoLeafToSpare I B t = (v : ℕ) (arc : ℕ × ℕ) → arcs_at t.arcs v ≡ arc ∷ [] → IsFalse (is_certain I B v) → arc_cost I arc ≤ pays I v
