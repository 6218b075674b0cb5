use Rattle.std.proofs.Common.{◌≡◌, ℕ, ◌∷◌, [], ◌++◌, sym, ap, subst, ◌∙◌}
use Rattle.std.specs.declared.alloc.Global.{Global}
use Rattle.std.specs.declared.vec.Vec.{Vec}
use Rattle.special_dist.proofs.Going.{on_true, on_false}
use Rattle.reductions.specs.Working.{IsWork}
use Rattle.reductions.proofs.Starting.{same_but_queue}
use Rattle.reductions.proofs.Stepping.{dropped_less, dropped_work}
use Rattle.reductions.proofs.work.Work.drop_link.Goals as goal

pub returns-clause-work : goal.returns-clause-work
returns-clause-work c =
    let old = c.args.self.now in
    let took = on_true c.in_ok-take.field-0 c.if-not-branch.false c.in_ok-take.ensures.took in
    let state = on_true c.in_ok-take.field-0 c.if-not-branch.false c.in_ok-take.ensures.state in
    let next = dropped_work old c.take.new.self state c.take.ensures.first c.args.a c.args.b c.args.inner old.queue.items c.requires.work took in
    let pushed : c.push_ends.new.queue.items ≡ old.queue.items ++ c.args.a ∷ c.args.b ∷ [] = c.in_ok-push_ends.ensures ∙ ap (λ (q : Vec ℕ Global). q.items ++ c.args.a ∷ c.args.b ∷ []) c.take.ensures.queue in
    subst (IsWork (record c.take.new.self { queue = c.push_ends.new.queue })) (sym pushed) (same_but_queue c.take.new.self c.push_ends.new.queue (old.queue.items ++ c.args.a ∷ c.args.b ∷ []) next)

pub returns-clause-less : goal.returns-clause-less
returns-clause-less c =
    let old = c.args.self.now in
    let took = on_true c.in_ok-take.field-0 c.if-not-branch.false c.in_ok-take.ensures.took in
    let state = on_true c.in_ok-take.field-0 c.if-not-branch.false c.in_ok-take.ensures.state in
    dropped_less old c.take.new.self state c.take.ensures.first c.args.a c.args.b c.args.inner old.queue.items c.requires.work took

pub returns-then-not-branch-clause-dropped : goal.returns-then-not-branch-clause-dropped
returns-then-not-branch-clause-dropped c = absurd ((on_false c.in_ok-take.field-0 c.if-not-branch.true c.in_ok-take.ensures.refused).0 c.requires.detour)

pub returns-then-not-branch-clause-less : goal.returns-then-not-branch-clause-less
returns-then-not-branch-clause-less c = absurd ((on_false c.in_ok-take.field-0 c.if-not-branch.true c.in_ok-take.ensures.refused).0 c.requires.detour)
