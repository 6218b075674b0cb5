use Rattle.lift_back.proofs.Stepwise.{each_step_lifts_back, each_step_keeps_the_least}
use Rattle.lift_back.proofs.law.a_step_keeps_the_best.Goals as goal

pub returns : goal.returns
returns c = record { lifts = each_step_lifts_back; least = each_step_keeps_the_least }
