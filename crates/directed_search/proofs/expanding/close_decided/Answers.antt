use Rattle.directed_search.proofs.Done.{hand_improves}
use Rattle.directed_search.proofs.expanding.close_decided.Goals as goal

pub close_heavy-requires-clause-hand : goal.close_heavy-requires-clause-hand
close_heavy-requires-clause-hand c = hand_improves c.args.instance.now c.args.progress.now c.offer.new.self c.args.branch.now c.args.waiting.now c.requires.hand c.offer.ensures.improved
