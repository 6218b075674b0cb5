use Rattle.std.proofs.Common.{sym, ◌∙◌}
use Rattle.st_model.specs.Lists.{has}
use Rattle.st_model.proofs.Those.{AreThose-push, AreThose-skip}
use Rattle.tree_heuristic.proofs.listing.ascending.Goals.{then-contains+in_ok-push, else-contains}
use Rattle.tree_heuristic.proofs.listing.ascending.Goals as goal

pub loop-before-preserved : goal.loop-before-preserved
loop-before-preserved c =
    let members = c.args.set.now.members in
    let last = c.loop-before.before in
    elim c.if-contains.branch [
      | then-contains+in_ok-push w ↦ rw (w.list-is, w.in_ok-push.ensures.items) (AreThose-push (has members) last c.loop-before.list.items c.loop-before.invariant (sym c.contains.ensures ∙ w.if-contains.true))
      | else-contains w ↦ rw w.list-is (AreThose-skip (has members) last c.loop-before.list.items c.loop-before.invariant (sym c.contains.ensures ∙ w.if-contains.false))
    ]
