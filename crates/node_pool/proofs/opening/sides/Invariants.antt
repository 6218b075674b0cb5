use Rattle.std.proofs.Common.{◌≡◌, ◌-◌, [], All, map, length}
use Rattle.node_pool.specs.Lane.{hand}
use Rattle.node_pool.specs.Ends.{queue_of}
use Rattle.node_pool.specs.Sides.{AreSides}
use Rattle.node_pool.proofs.opening.sides.Given as goal

abbrev pub invariant-loop-made : goal.invariant-loop-made
invariant-loop-made g l = (map queue_of l.all.items ≡ map queue_of l.fn.owners.items) × (length l.sides.items ≡ l.made)
    × AreSides (map queue_of l.fn.owners.items) l.sides.items × All (λ w. w.hand ≡ hand (65 - l.made) [] []) l.all.items
    × All (λ side. All (λ t. t.hand ≡ hand 1 [] []) side) l.sides.items
