use Rattle.std.proofs.Common.{◌≡◌, All, length}
use Rattle.node_pool.specs.Lane.{first_hand}
use Rattle.node_pool.proofs.opening.owners.Given as goal

abbrev pub invariant-loop : goal.invariant-loop
invariant-loop g l = (l.counter ≡ length l.all.items) × All (λ w. w.hand ≡ first_hand) l.all.items
