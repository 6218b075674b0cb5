use Rattle.std.proofs.Common.{◌≡◌, ap, subst}
use Rattle.lift_back.specs.Reduction.{Reduction}
use Rattle.special_dist.proofs.Going.{on_true, on_false}
use Rattle.reductions.specs.declared.work.Work.{Work}
use Rattle.reductions.specs.Results.{HasNoStepAt}
use Rattle.reductions.specs.Working.{Went}
use Rattle.reductions.proofs.work.Work.let_go.Goals as goal

-- a look at the ends leaves all as it was
looked : (old : Work) (r : Reduction) → r ≡ old.reduced → record old { reduced = r } ≡ old
looked old r same = ap (λ r. record old { reduced = r }) same

pub returns-then-branch-clause-gone : goal.returns-then-branch-clause-gone
returns-then-branch-clause-gone c = record {
  went = subst (λ (w : Work). Went w c.goes.new.self c.args.vertex) (looked c.args.self.now c.ends-ends.new.self c.ends-ends.ensures.same) (on_true c.in_ok-goes.field-0 c.if-branch.true c.in_ok-goes.ensures.went);
  state = on_true c.in_ok-goes.field-0 c.if-branch.true c.in_ok-goes.ensures.state;
  led = c.ends-ends.ensures.ends;
}

pub returns-clause-stays : goal.returns-clause-stays
returns-clause-stays c =
    subst (λ (w : Work). HasNoStepAt w.reduced.state c.args.vertex × (c.goes.new.self ≡ w)) (looked c.args.self.now c.ends-ends.new.self c.ends-ends.ensures.same) (on_false c.in_ok-goes.field-0 c.if-branch.false c.in_ok-goes.ensures.stays)
