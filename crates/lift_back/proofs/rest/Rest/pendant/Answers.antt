use Rattle.std.proofs.Common.{refl, arith, ◌-◌}
use Rattle.lift_back.specs.declared.rest.Rest.{Rest}
use Rattle.lift_back.specs.Keeping.{state_of}
use Rattle.lift_back.specs.Steps.{links_without}
use Rattle.lift_back.proofs.Idle.{GoesIdle, leaves_idle, becomes_idle, one_left}
use Rattle.lift_back.proofs.KeptAfter.{kept_without}
use Rattle.lift_back.proofs.rest.Rest.pendant.Goals as goal

pub overflow_sub-self : goal.overflow_sub-self
overflow_sub-self c = let idle = (c.is_pendant.ensures.0 c.if-not-is_pendant.false).idle in one_left c.args.self.now c.args.vertex c.requires idle.vertex idle.present

pub returns-clause-kept : goal.returns-clause-kept
returns-clause-kept c =
    let old = c.args.self.now in
    let new : Rest = record old { store = c.remove_vertex.new.self; left = old.left - 1 } in
    let idle = (c.is_pendant.ensures.0 c.if-not-is_pendant.false).idle in
    let some = one_left old c.args.vertex c.requires idle.vertex idle.present in
    let removes = c.remove_vertex.ensures.removes in
    let goes : GoesIdle old new c.args.vertex = record { graph = c.remove_vertex.ensures.graph; count = removes.count; needs = removes.needs; present = removes.present; left = omega arith; required = refl; offset = refl; amount = c.remove_vertex.ensures.amount } in
    kept_without old new c.args.vertex c.requires (leaves_idle old new c.args.vertex c.requires idle goes)

pub returns-clause-taken : goal.returns-clause-taken
returns-clause-taken c =
    let old = c.args.self.now in
    let new : Rest = record old { store = c.remove_vertex.new.self; left = old.left - 1 } in
    let pendant = c.is_pendant.ensures.0 c.if-not-is_pendant.false in
    let some = one_left old c.args.vertex c.requires pendant.idle.vertex pendant.idle.present in
    let removes = c.remove_vertex.ensures.removes in
    let goes : GoesIdle old new c.args.vertex = record { graph = c.remove_vertex.ensures.graph; count = removes.count; needs = removes.needs; present = removes.present; left = omega arith; required = refl; offset = refl; amount = c.remove_vertex.ensures.amount } in
    record { allowed = pendant; becomes = becomes_idle old new c.args.vertex (links_without (state_of old) c.args.vertex) c.requires pendant.idle goes removes.links }
