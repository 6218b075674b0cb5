use Rattle.std.proofs.Common.{◌≡◌, drop, take}
use Rattle.lift_back.specs.State.{whole}
use Rattle.lift_back.specs.Steps.{Applies}
use Rattle.resuming.proofs.Leaving.{IsToCome}
use Rattle.resuming.proofs.from_log.left_of.Given as goal

abbrev pub invariant-loop-step : goal.invariant-loop-step
invariant-loop-step l = record {
  first : l.reduced.first ≡ l.instance;
  taken : Applies (take l.step-index l.steps) (whole l.instance) l.reduced.state;
  to_come : IsToCome (drop l.step-index l.steps) l.reduced.state;
}
