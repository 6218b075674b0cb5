use Rattle.std.proofs.Common.{refl}
use Rattle.directed_search.proofs.Done.{node_split}
use Rattle.directed_search.proofs.expanding.split.Goals as goal

pub returns : goal.returns
returns c =
    node_split c.args.instance.now c.args.progress.now c.split.new.self c.args.branch.now c.args.packing c.args.vertex c.args.waiting.now c.push-2.new.self c.vertices.ensures.instance c.requires.hand c.requires.packing c.requires.may c.in_ok-split.ensures
    (rw (c.in_ok-push-2.ensures, c.in_ok-push.ensures, c.in_ok-inside.ensures, c.in_ok-outside.ensures, c.in_ok-shared.ensures, c.branch-branch.ensures, c.branch-branch-2.ensures) refl)
