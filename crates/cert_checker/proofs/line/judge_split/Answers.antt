use Rattle.cert_checker.proofs.Orders.{branch_of-in_order}
use Rattle.cert_checker.proofs.line.judge_split.Goals as goal

pub is_split_at-requires : goal.is_split_at-requires
is_split_at-requires c = rw c.branch-path.ensures (branch_of-in_order c.args.path)
