use Rattle.std.proofs.Common.{◌≡◌, ◌+◌, ◌++◌, ◌<◌, ℕ, All, length, map, slice_index_or}
use Rattle.std.specs.List.{flat_map, sum_by}
use Rattle.branching.specs.declared.node.Node.{Node}
use Rattle.node_pool.specs.Ends.{put_by, queue_of}
use Rattle.node_pool.specs.Pool.{Station, own_put, own_queue, list_of, queues_at, puts, takes, all_gave, all_took}
use Rattle.node_pool.specs.Sides.{AreSides, all_puts, all_takes}
use Rattle.node_pool.proofs.closing.taken_apart.Given as goal

abbrev pub invariant-loop-pass : goal.invariant-loop-pass
invariant-loop-pass g l =
    (goal.iterator-loop-pass g).can_next l.pass-iterator × (goal.iterator-loop-pass g).is_finite l.pass-iterator
    × (map queue_of l.owners.items ++ map own_queue l.pass-iterator.rest.items ≡ map own_queue l.fn.passes.items)
    × AreSides (map own_queue l.fn.passes.items) l.sides.items
    × (length l.sides.items ≡ length l.owners.items)
    × All (λ o. o.hand.parts + length l.fn.passes.items ≡ 65) l.owners.items
    × ((h : Node → ℕ) → puts h l.owners.items + all_puts h l.sides.items + sum_by h l.left.items + all_gave h l.pass-iterator.rest.items ≡ all_gave h l.fn.passes.items)
    × ((h : Node → ℕ) → takes h l.owners.items + all_takes h l.sides.items + all_took h l.pass-iterator.rest.items ≡ all_took h l.fn.passes.items)
    × ((k : ℕ) (d : Station) → k < length l.pass-iterator.rest.items → queues_at (length l.owners.items + k) (slice_index_or l.pass-iterator.rest.items k d) ≡ map own_queue l.fn.passes.items)
    × All (λ node. g.S.Sound.sound node) l.left.items
    × (map put_by l.owners.items ++ map own_put l.pass-iterator.rest.items ≡ map own_put l.fn.passes.items)
    × (l.left.items ++ flat_map list_of l.pass-iterator.rest.items ≡ flat_map list_of l.fn.passes.items)
