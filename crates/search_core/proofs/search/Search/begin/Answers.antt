use Rattle.search_core.proofs.Rooted.{root_node}
use Rattle.search_core.proofs.search.Search.begin.Goals as goal

pub begin_at-requires : goal.begin_at-requires
begin_at-requires c = rw c.no_cuts-packing.ensures (root_node c.args.instance.now c.args.branch.now c.requires.branch c.requires.required)
