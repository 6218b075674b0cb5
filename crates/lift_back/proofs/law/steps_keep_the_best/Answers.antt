use Rattle.lift_back.proofs.Stepwise.{steps_lift_back, steps_keep_the_least}
use Rattle.lift_back.proofs.law.steps_keep_the_best.Goals as goal

pub returns : goal.returns
returns c = record { lifts = steps_lift_back; least = steps_keep_the_least }
