use Rattle.branching.proofs.InOrder.{set_in_order}
use Rattle.branching.proofs.choosing.may_split.Goals as goal

pub is_undecided-requires-clause-inside : goal.is_undecided-requires-clause-inside
is_undecided-requires-clause-inside c = set_in_order c.args.branch.now.inside c.requires.inside.ascending

pub is_undecided-requires-clause-outside : goal.is_undecided-requires-clause-outside
is_undecided-requires-clause-outside c = set_in_order c.args.branch.now.outside c.requires.outside.ascending
