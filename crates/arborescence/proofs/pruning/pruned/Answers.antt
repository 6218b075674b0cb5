use Rattle.std.proofs.Common.{sym, ◌∙◌}
use Rattle.arborescence.proofs.Pruned.{pruning_start, pruning_some, pruning_none, pruning_done}
use Rattle.arborescence.proofs.pruning.pruned.Goals as goal

pub loop-left-init : goal.loop-left-init
loop-left-init c = rw c.new-kept.ensures.items (pruning_start c.args.instance.now.n c.args.branch.now c.args.instance.now.root c.args.chosen.now c.requires.spans)

pub loop-left-preserved-in_ok-push : goal.loop-left-preserved-in_ok-push
loop-left-preserved-in_ok-push c =
    let D = c.args.instance.now in
    pruning_some D.n c.args.branch.now D.root c.args.chosen.now c.loop-left.left c.loop-left.kept.items _ c.in_ok-missed.field-0 c.loop-left-test.true c.loop-left.invariant c.requires.within (sym c.if-is_some.true ∙ c.is_some.ensures) (rw c.deref.ensures.value at c.in_ok-missed.ensures.found) c.in_ok-push.ensures.items

pub loop-left-preserved : goal.loop-left-preserved
loop-left-preserved c =
    let D = c.args.instance.now in
    pruning_none D.n c.args.branch.now D.root c.args.chosen.now c.loop-left.left c.loop-left.kept.items c.in_ok-missed.field-0 c.loop-left-test.true c.loop-left.invariant (sym c.if-is_some.false ∙ c.is_some.ensures) (rw c.deref.ensures.value at c.in_ok-missed.ensures.none)

pub returns : goal.returns
returns c = pruning_done c.args.instance.now.n c.args.branch.now c.args.instance.now.root c.args.chosen.now c.loop-left.kept.items c.loop-left.left c.loop-left-test.false c.loop-left.invariant
