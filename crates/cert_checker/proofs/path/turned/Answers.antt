use Rattle.cert_checker.proofs.Orders.{order-joined}
use Rattle.cert_checker.proofs.path.turned.Goals as goal

pub joined-requires-in-Used : goal.joined-requires-in-Used
joined-requires-in-Used c = rw c.in_ok-joined-in-Used.ensures (order-joined c.args.branch.inside c.in-Used.low c.requires.inside)
