use Rattle.cert_checker.proofs.Orders.{order-without_new}
use Rattle.cert_checker.proofs.path.turned_back.Goals as goal

pub without_new-requires-in-Used : goal.without_new-requires-in-Used
without_new-requires-in-Used c = rw c.without_new.ensures (order-without_new c.args.branch.inside c.in-Used.high c.in-Used.high_came c.requires.inside)
