use Rattle.std.proofs.Common.{◌≡◌, ◌++◌, ◌+◌, [], All, map}
use Rattle.node_pool.specs.Lane.{hand}
use Rattle.node_pool.specs.Ends.{queue_of}
use Rattle.node_pool.proofs.opening.side.Given as goal

abbrev pub invariant-loop-owner : goal.invariant-loop-owner
invariant-loop-owner g l =
    (goal.iterator-loop-owner g).can_next l.owner-iterator × (goal.iterator-loop-owner g).is_finite l.owner-iterator
    × (map queue_of l.all.items ++ map queue_of l.owner-iterator.rest.items ≡ map queue_of l.fn.owners.items)
    × (map queue_of l.ends.items ++ map queue_of l.owner-iterator.rest.items ≡ map queue_of l.fn.owners.items)
    × All (λ w. w.hand ≡ hand l.fn.parts [] []) l.all.items
    × All (λ w. w.hand ≡ hand (l.fn.parts + 1) [] []) l.owner-iterator.rest.items
    × All (λ t. t.hand ≡ hand 1 [] []) l.ends.items
