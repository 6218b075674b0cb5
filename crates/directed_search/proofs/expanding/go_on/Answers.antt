use Rattle.directed_search.proofs.Done.{hand_improves}
use Rattle.directed_search.proofs.expanding.go_on.Goals as goal

pub close_heavy-requires-clause-hand : goal.close_heavy-requires-clause-hand
close_heavy-requires-clause-hand c = hand_improves c.args.instance.now c.args.progress.now c.try_tree.new.self c.args.branch.now c.args.waiting.now c.requires.hand c.in_ok-try_tree.ensures

pub split-requires-clause-hand : goal.split-requires-clause-hand
split-requires-clause-hand c = hand_improves c.args.instance.now c.args.progress.now c.try_tree.new.self c.args.branch.now c.args.waiting.now c.requires.hand c.in_ok-try_tree.ensures

pub close_decided-requires-clause-hand : goal.close_decided-requires-clause-hand
close_decided-requires-clause-hand c = hand_improves c.args.instance.now c.args.progress.now c.try_tree.new.self c.args.branch.now c.args.waiting.now c.requires.hand c.in_ok-try_tree.ensures
