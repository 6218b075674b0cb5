use Rattle.directed_search.proofs.Done.{heavy_closed}
use Rattle.directed_search.proofs.expanding.close_heavy.Goals as goal

pub returns : goal.returns
returns c = heavy_closed c.args.instance.now c.args.progress.now c.close.new.self c.args.branch.now c.args.packing c.args.waiting.now c.vertices.ensures.instance c.requires.hand c.requires.packing c.close.ensures.small c.close.ensures.few c.requires.heavy c.in_ok-close.ensures.closed
