use Rattle.std.proofs.Common.{◌≡◌, ◌+◌, ℕ, All, map, length}
use Rattle.branching.specs.declared.node.Node.{Node}
use Rattle.node_pool.specs.Pool.{puts, takes}
use Rattle.node_pool.specs.Ends.{put_by, queue_of}
use Rattle.node_pool.specs.Sides.{all_puts, all_takes, AreSides}
use Rattle.node_pool.proofs.closing.rejoin_all.Given as goal

abbrev pub invariant-loop-side : goal.invariant-loop-side
invariant-loop-side g l =
    (goal.iterator-loop-side g).can_next l.side-iterator × (goal.iterator-loop-side g).is_finite l.side-iterator
    × AreSides (map queue_of l.all.items) l.side-iterator.rest.items
    × All (λ o. o.hand.parts + length l.side-iterator.rest.items ≡ 65) l.all.items
    × ((h : Node → ℕ) → puts h l.all.items + all_puts h l.side-iterator.rest.items ≡ puts h l.fn.owners.items + all_puts h l.fn.sides.items)
    × ((h : Node → ℕ) → takes h l.all.items + all_takes h l.side-iterator.rest.items ≡ takes h l.fn.owners.items + all_takes h l.fn.sides.items)
    × (map put_by l.all.items ≡ map put_by l.fn.owners.items)
