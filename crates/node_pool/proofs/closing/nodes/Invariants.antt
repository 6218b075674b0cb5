use Rattle.std.proofs.Common.{◌≡◌, ◌++◌, All}
use Rattle.node_pool.proofs.closing.nodes.Given as goal

abbrev pub invariant-loop-kept : goal.invariant-loop-kept
invariant-loop-kept g l =
    (goal.iterator-loop-kept g).can_next l.kept-iterator × (goal.iterator-loop-kept g).is_finite l.kept-iterator
    × (l.nodes.items ++ l.kept-iterator.rest.items ≡ l.fn.list.items) × All (λ node. g.S.Sound.sound node) l.nodes.items
