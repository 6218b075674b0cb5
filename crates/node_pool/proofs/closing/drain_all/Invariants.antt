use Rattle.std.proofs.Common.{◌≡◌, ◌+◌, ◌++◌, ℕ, All}
use Rattle.std.specs.List.{flat_map, sum_by}
use Rattle.branching.specs.declared.node.Node.{Node}
use Rattle.node_pool.specs.Ends.{rest_of}
use Rattle.node_pool.specs.Pool.{puts, takes}
use Rattle.node_pool.proofs.closing.drain_all.Given as goal

abbrev pub invariant-loop-owner : goal.invariant-loop-owner
invariant-loop-owner g l =
    (goal.iterator-loop-owner g).can_next l.owner-iterator × (goal.iterator-loop-owner g).is_finite l.owner-iterator
    × All (λ o. o.hand.parts ≡ 65) l.owner-iterator.rest.items
    × ((h : Node → ℕ) → sum_by h l.left.items + puts h l.owner-iterator.rest.items + takes h l.fn.owners.items ≡ takes h l.owner-iterator.rest.items + puts h l.fn.owners.items)
    × All (λ node. g.S.Sound.sound node) l.left.items
    × (l.left.items ++ flat_map rest_of l.owner-iterator.rest.items ≡ flat_map rest_of l.fn.owners.items)
