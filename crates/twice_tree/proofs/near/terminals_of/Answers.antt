use Rattle.std.proofs.Common.{sym, ◌∙◌}
use Rattle.st_model.specs.Network.{is_required}
use Rattle.st_model.proofs.Those.{AreThose-push, AreThose-skip}
use Rattle.twice_tree.proofs.near.terminals_of.Goals.{then-is_required+in_ok-push, else-is_required}
use Rattle.twice_tree.proofs.near.terminals_of.Goals as goal

pub loop-before-preserved : goal.loop-before-preserved
loop-before-preserved c =
    let test = is_required c.args.store.now.network in
    let terminals = c.loop-before.terminals.items in
    elim c.if-is_required.branch [
      | then-is_required+in_ok-push w ↦
          let passes = sym c.is_required.ensures ∙ w.if-is_required.true in
          rw (w.terminals-is, w.in_ok-push.ensures.items) (AreThose-push test c.loop-before.before terminals c.loop-before.invariant passes)
      | else-is_required w ↦ rw w.terminals-is (AreThose-skip test c.loop-before.before terminals c.loop-before.invariant (sym c.is_required.ensures ∙ w.if-is_required.false))
    ]
