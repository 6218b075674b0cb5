use Rattle.std.proofs.Common.{◌≡◌, ◌-◌, ◌++◌, ◌<◌, ℕ, [], All, length, map, slice_index_or}
use Rattle.node_pool.specs.Lane.{hand}
use Rattle.node_pool.specs.Ends.{queue_of}
use Rattle.node_pool.specs.Pool.{Station, own_queue, queues_at}
use Rattle.node_pool.specs.Sides.{AreSides, IsNewPass}
use Rattle.node_pool.proofs.opening.seated.Given as goal

abbrev pub invariant-loop-owner : goal.invariant-loop-owner
invariant-loop-owner g l =
    (goal.iterator-loop-owner g).can_next l.owner-iterator × (goal.iterator-loop-owner g).is_finite l.owner-iterator
    × (map own_queue l.passes.items ++ map queue_of l.owner-iterator.rest.items ≡ map queue_of l.fn.owners.items)
    × AreSides (map queue_of l.fn.owners.items) l.sides.rest.items
    × (length l.sides.rest.items ≡ length l.owner-iterator.rest.items)
    × All (λ w. w.hand ≡ hand (65 - length l.fn.owners.items) [] []) l.owner-iterator.rest.items
    × All (λ side. All (λ t. t.hand ≡ hand 1 [] []) side) l.sides.rest.items
    × ((k : ℕ) (d : Station) → k < length l.passes.items → queues_at k (slice_index_or l.passes.items k d) ≡ map queue_of l.fn.owners.items)
    × All IsNewPass l.passes.items
