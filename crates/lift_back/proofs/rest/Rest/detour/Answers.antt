use Rattle.std.proofs.Common.{refl, arith}
use Rattle.st_model.proofs.ThinGrowth.{linked-vertices}
use Rattle.lift_back.specs.declared.rest.Rest.{Rest}
use Rattle.lift_back.proofs.Detouring.{GoesLink, kept_but, takes_detour}
use Rattle.lift_back.proofs.rest.Rest.detour.Goals as goal

pub remove_link-requires-clause-a : goal.remove_link-requires-clause-a
remove_link-requires-clause-a c = (linked-vertices c.args.self.now.store.network c.args.a c.args.b c.requires.state.instance (c.is_detour.ensures.0 c.if-not-is_detour.false).linked).0

pub remove_link-requires-clause-b : goal.remove_link-requires-clause-b
remove_link-requires-clause-b c = (linked-vertices c.args.self.now.store.network c.args.a c.args.b c.requires.state.instance (c.is_detour.ensures.0 c.if-not-is_detour.false).linked).1

pub returns-clause-kept : goal.returns-clause-kept
returns-clause-kept c =
    let new : Rest = record c.args.self.now { store = c.remove_link.new.self } in
    let all = c.remove_link.ensures.amount in
    let goes : GoesLink c.args.self.now new c.args.a c.args.b = record { removes = c.remove_link.ensures.removes; graph = c.remove_link.ensures.graph; left = refl; required = refl; offset = refl; amount = omega arith } in
    kept_but c.args.self.now new c.args.a c.args.b c.requires goes

pub returns-clause-taken : goal.returns-clause-taken
returns-clause-taken c =
    let new : Rest = record c.args.self.now { store = c.remove_link.new.self } in
    let all = c.remove_link.ensures.amount in
    let goes : GoesLink c.args.self.now new c.args.a c.args.b = record { removes = c.remove_link.ensures.removes; graph = c.remove_link.ensures.graph; left = refl; required = refl; offset = refl; amount = omega arith } in
    takes_detour c.args.self.now new c.args.a c.args.b c.args.inner.now (c.is_detour.ensures.0 c.if-not-is_detour.false) goes
