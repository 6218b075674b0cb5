-- What leads a tree back over the steps that were taken.
use Rattle.std.specs.Prelude.{◌≡◌, ℕ, if◌then◌else◌, List, [], ◌∷◌, ◌++◌, Some, ◌≤◌}
use Rattle.st_model.specs.declared.tree.Tree.{Tree}
use Rattle.st_model.specs.Made.{is_between}
use Rattle.st_model.specs.Network.{Network, link}
use Rattle.st_model.specs.Arborescence.{IsTree, cost}
use Rattle.lift_back.specs.declared.undo.Undo.{Undo}
use Rattle.lift_back.specs.declared.undo.Undo.TheVariants.{Keep, Past, Leaf}
use Rattle.lift_back.specs.State.{State, IsTreeOf, worth}
use Rattle.lift_back.specs.Steps.{least}

-- an arc between a and b leads over v
abbrev pub led_past : ℕ → ℕ → ℕ → List (ℕ × ℕ) → List (ℕ × ℕ)
led_past v a b [] = []
led_past v a b (arc ∷ arcs) = if is_between (a, b) arc.0 arc.1 then (arc.0, v) ∷ (v, arc.1) ∷ led_past v a b arcs else arc ∷ led_past v a b arcs

-- the arcs before the step
abbrev pub arcs_before : Undo → List (ℕ × ℕ) → List (ℕ × ℕ)
arcs_before Keep arcs = arcs
arcs_before (Past v a b) arcs = led_past v a b arcs
arcs_before (Leaf v u) arcs = arcs ++ (u, v) ∷ []

-- the arcs before all steps, the last of which is undone first
abbrev pub arcs_at_first : List Undo → List (ℕ × ℕ) → List (ℕ × ℕ)
arcs_at_first [] arcs = arcs
arcs_at_first (undo ∷ undos) arcs = arcs_before undo (arcs_at_first undos arcs)

-- the tree of the first instance
abbrev pub tree_at_first : List Undo → Tree → Tree
tree_at_first undos t = record { start = t.start; arcs = arcs_at_first undos t.arcs }

-- each tree of what is left leads back to one of the first instance, at the same worth
abbrev pub LeadBack : Network → List Undo → State → Type 0
LeadBack first undos s = (t : Tree) → IsTreeOf s t → IsTree first (tree_at_first undos t) × (cost first (tree_at_first undos t) ≡ worth s t)

-- what leads back over a step that took v between a and b, whose links cost the sum
abbrev pub FitsThrough : State → ℕ → ℕ → ℕ → ℕ → Undo → Type 0
FitsThrough s v a b sum Keep = (cost : ℕ) × (link s.instance.links a b ≡ Some cost) × (cost ≤ sum)
FitsThrough s v a b sum (Past w x y) = (w ≡ v) × (x ≡ a) × (y ≡ b) × (least s a b sum ≡ sum)
FitsThrough s v a b sum (Leaf w n) = ⊥
