use Rattle.std.proofs.Common.{sym, ◌∙◌}
use Rattle.better_trees.specs.Part.{is_left_out}
use Rattle.st_model.proofs.Those.{AreThose-push, AreThose-skip}
use Rattle.better_trees.proofs.narrowing.left_out.Goals.{then-is_left_out+in_ok-push, else-is_left_out}
use Rattle.better_trees.proofs.narrowing.left_out.Goals as goal

pub loop-before-preserved : goal.loop-before-preserved
loop-before-preserved c =
    let test = is_left_out c.args.instance.now c.args.branch.now c.args.reached.now.members in
    let out = c.loop-before.out.items in
    elim c.if-is_left_out.branch [
      | then-is_left_out+in_ok-push w ↦
          let passes = sym c.is_left_out.ensures ∙ w.if-is_left_out.true in
          rw (w.out-is, w.in_ok-push.ensures.items) (AreThose-push test c.loop-before.before out c.loop-before.invariant passes)
      | else-is_left_out w ↦ rw w.out-is (AreThose-skip test c.loop-before.before out c.loop-before.invariant (sym c.is_left_out.ensures ∙ w.if-is_left_out.false))
    ]
