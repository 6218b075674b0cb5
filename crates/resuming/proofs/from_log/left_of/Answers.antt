use Rattle.std.proofs.Common.{◌∙◌}
use Rattle.lift_back.specs.State.{whole}
use Rattle.resuming.proofs.Leaving.{come_more, may_take_at, taken_more}
use Rattle.resuming.proofs.from_log.left_of.Goals as goal

pub take-requires : goal.take-requires
take-requires c = may_take_at c.args.steps.now c.loop-step.step-index c.step-item.result c.loop-step.reduced.state c.loop-step-test.true c.step-item.is c.loop-step.invariant.to_come

pub loop-step-preserved : goal.loop-step-preserved
loop-step-preserved c =
    let steps = c.args.steps.now in
    let k = c.loop-step.step-index in
    let before = c.loop-step.reduced.state in
    let after = c.take.new.reduced.state in
    let is_state = c.in_ok-take.ensures.state in
    let takes = c.in_ok-take.ensures.taken in
    record {
      first = c.in_ok-take.ensures.first ∙ c.loop-step.invariant.first;
      taken = taken_more steps k c.step-item.result (whole c.args.instance.now) before after c.loop-step-test.true c.step-item.is c.loop-step.invariant.taken is_state takes;
      to_come = come_more steps k c.step-item.result before after c.loop-step-test.true c.step-item.is c.loop-step.invariant.to_come is_state takes;
    }
