use Rattle.std.proofs.Common.{rules}
use Rattle.checks_workers.proofs.Avoiding.{one_out_node}
use Rattle.checks_workers.proofs.worker_loop_tests.going_on.node_without.Goals as goal

pub returns : goal.returns
returns c = rw (c.no_cuts.ensures, c.into_branch.ensures, c.in_ok-sides.ensures.1) (one_out_node c.args.instance.now c.args.vertex 7 c.requires (search rules))
