use Rattle.std.proofs.Common.{reverse}
use Rattle.cert_checker.proofs.Orders.{branch_of-in_order}
use Rattle.cert_checker.proofs.path.Path.is_inside.Goals as goal

pub holds-requires : goal.holds-requires
holds-requires c = rw (c.as_slice.ensures, c.self.invariant) (branch_of-in_order (reverse c.self.inside.turns.items)).inside
