use Rattle.std.proofs.Common.{take}
use Rattle.std.specs.Prelude.{All}
use Rattle.steiner_top.specs.Left.{CanBeCounted}
use Rattle.steiner_top.proofs.reducing.count_steps.Given as goal

-- those so far can be counted
abbrev pub invariant-loop-step : goal.invariant-loop-step
invariant-loop-step l = All CanBeCounted (take l.step-index l.steps)
