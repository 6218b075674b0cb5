use Rattle.std.proofs.Common.{◌≡◌, ◌++◌, [], map, All}
use Rattle.node_pool.specs.Ends.{queue_of}
use Rattle.node_pool.specs.Sides.{rejoined}
use Rattle.node_pool.proofs.closing.rejoin.Given as goal

abbrev pub invariant-loop-owner : goal.invariant-loop-owner
invariant-loop-owner g l =
    (goal.iterator-loop-owner g).can_next l.owner-iterator × (goal.iterator-loop-owner g).is_finite l.owner-iterator
    × (map queue_of l.ends.rest.items ≡ map queue_of l.owner-iterator.rest.items)
    × (l.all.items ++ rejoined l.owner-iterator.rest.items l.ends.rest.items ≡ rejoined l.fn.owners.items l.fn.side.items)
    × (All (λ t. (t.hand.parts ≡ 1) × (t.hand.put ≡ [])) l.ends.rest.items → All (λ t. (t.hand.parts ≡ 1) × (t.hand.put ≡ [])) l.fn.side.items)
