use Rattle.std.proofs.Common.{◌≡◌, IfOk, subst}
use Rattle.instance_gen.proofs.Whole.{AreDrawn, are_drawn, ends_in_range, vertices_in_range, small_amount, is_generated}
use Rattle.instance_gen.proofs.generate.Goals as goal
use Rattle.instance_gen.proofs.generate.Goals.{After-deref-3}

made : (c : After-deref-3) → AreDrawn c.args.seed c.args.n c.args.m c.args.t c.args.prizes c.deref-2.result.now c.deref-3.result.now
made c = are_drawn c.args.seed c.args.n c.args.m c.args.t c.args.prizes _ _ _ _ _ _ _ _ _ c.of-draws.ensures c.in_ok-links.ensures c.in_ok-list.ensures.list c.deref.ensures.value c.in_ok-needs.ensures c.deref-2.ensures.value c.deref-3.ensures.value

pub build-requires-clause-ends : goal.build-requires-clause-ends
build-requires-clause-ends c = ends_in_range c.args.seed c.args.n c.args.m c.args.t c.args.prizes _ _ c.requires (made c)

pub build-requires-clause-needs : goal.build-requires-clause-needs
build-requires-clause-needs c = vertices_in_range c.args.seed c.args.n c.args.m c.args.t c.args.prizes _ _ (made c)

pub build-requires-clause-amount : goal.build-requires-clause-amount
build-requires-clause-amount c = small_amount c.args.seed c.args.n c.args.m c.args.t c.args.prizes _ _ c.requires (made c)

pub returns : goal.returns
returns c = subst (λ network. IfOk c.build.result (λ i. i ≡ network)) (is_generated c.args.seed c.args.n c.args.m c.args.t c.args.prizes _ _ (made (goal.at.returns c).After-deref-3)) c.build.ensures
