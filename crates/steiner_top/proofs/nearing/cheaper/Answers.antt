use Rattle.std.proofs.Common.{rules}
use Rattle.steiner_top.proofs.nearing.cheaper.Goals as goal

pub returns-then-tree_cost-clause-near : goal.returns-then-tree_cost-clause-near
returns-then-tree_cost-clause-near c = search rules

pub returns-clause-cost : goal.returns-clause-cost
returns-clause-cost c = search rules
