use Rattle.std.proofs.Common.{length, reverse}
use Rattle.std.proofs.lemmas.List.{length_push}
use Rattle.std.proofs.lemmas.Iterator.Consumers.{YieldsList-turn}
use Rattle.std.proofs.lemmas.Iterator.Adapters.{YieldsList-from_rev_slice}
use Rattle.st_model.proofs.RegrowSteps.{regrown-turn, regrown-keep}
use Rattle.st_model.proofs.regrowing.arcs_from.Goals as goal

pub loop-tail-preserved-then-head-current : goal.loop-tail-preserved-then-head-current
loop-tail-preserved-then-head-current c =
    let turn = YieldsList-turn (YieldsList-from_rev_slice c.args.arcs.now cc) c.loop-tail.yielded _ c.loop-tail.yielded_by _ _ c.in-Some.field-0 c.in-Some.is c.next.ensures.steps in
    regrown-turn (reverse c.args.arcs.now) (length c.loop-tail.yielded) _ c.in-Some.field-0.now c.loop-tail.turned.items c.push.new.self.items (reverse c.loop-tail.kept.items) _ c.loop-tail.current turn (length_push c.loop-tail.yielded c.in-Some.field-0) c.if-head-current.true c.in_ok-push.ensures.items c.loop-tail.invariant

pub loop-tail-preserved : goal.loop-tail-preserved
loop-tail-preserved c =
    let turn = YieldsList-turn (YieldsList-from_rev_slice c.args.arcs.now cc) c.loop-tail.yielded _ c.loop-tail.yielded_by _ _ c.in-Some.field-0 c.in-Some.is c.next.ensures.steps in
    regrown-keep (reverse c.args.arcs.now) (length c.loop-tail.yielded) _ c.in-Some.field-0.now c.loop-tail.turned.items c.loop-tail.kept.items c.push-else-head-current.new.self.items _ c.loop-tail.current turn (length_push c.loop-tail.yielded c.in-Some.field-0) c.if-head-current.false c.in_ok-push-2.ensures.items c.loop-tail.invariant
