use Rattle.std.proofs.Common.{arith, ◌+◌, ◌≤◌, suc, add-one}
use Rattle.st_model.specs.Lists.{sum_to}
use Rattle.st_model.specs.Network.{pays}
use Rattle.st_model.proofs.Costs.{sum_to_part}
use Rattle.st_model.proofs.cost.all_prizes.Goals as goal

-- a part of the sum is at most the amount of the instance
pub overflow_add-sum : goal.overflow_add-sum
overflow_add-sum c =
    let I = c.args.instance.now in
    let part : sum_to (pays I) c.loop-before.before + pays I (c.loop-before.before + 1) ≤ sum_to (pays I) I.n = rw add-one (sum_to_part (pays I) (suc c.loop-before.before) I.n (omega (arith, c.vertices-before-end.ensures.count))) in
    omega (arith, part, c.vertices-before-end.ensures.instance.amount, c.prize-sum.ensures, c.loop-before.invariant)
