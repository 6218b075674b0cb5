use Rattle.std.proofs.Common.{reverse}
use Rattle.cert_checker.proofs.Orders.{branch_of-in_order}
use Rattle.cert_checker.proofs.path.Path.push.Goals as goal

pub turned-requires : goal.turned-requires
turned-requires c = rw c.self.invariant (branch_of-in_order (reverse c.self.inside.turns.items))
