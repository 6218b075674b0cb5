use Rattle.std.proofs.Common.{All, ◌≡◌, ◌+◌, ◌++◌, ℕ, drop, length}
use Rattle.std.specs.List.{sum_by}
use Rattle.branching.specs.declared.node.Node.{Node}
use Rattle.node_pool.proofs.lane.Owner.drain.Given as goal

abbrev pub invariant-loop : goal.invariant-loop
invariant-loop g l =
    (l.self.hand.parts ≡ 65) × (l.self.hand.put ≡ l.fn.self.hand.put) × ((h : Node → ℕ) → sum_by h l.self.hand.taken ≡ sum_by h l.fn.self.hand.taken + sum_by h l.left.items) × All (λ node. g.S.Sound.sound node) l.left.items
    × (drop (length l.fn.self.hand.taken) l.fn.self.hand.put ≡ l.left.items ++ drop (length l.self.hand.taken) l.self.hand.put)
