use Rattle.std.proofs.Common.{arith}
use Rattle.steiner_top.proofs.nearing.near_start.Goals as goal

pub returns-clause-cheap : goal.returns-clause-cheap
returns-clause-cheap c none = let low = c.in_ok-tree.ensures.cheap none in let less = c.in_ok-start.ensures.cost in omega (arith, low, less)
