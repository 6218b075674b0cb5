use Rattle.directed_search.proofs.Done.{extended_packing}
use Rattle.directed_search.proofs.expanding.ascend.Goals as goal

pub close_heavy-requires-clause-packing : goal.close_heavy-requires-clause-packing
close_heavy-requires-clause-packing c = let ascent = rw c.in-Reached.is at c.in_ok-reached.ensures in extended_packing c.args.instance.now c.args.branch.now c.args.packing c.in-Reached.reached c.requires.packing ascent.0

pub go_on-requires-clause-packing : goal.go_on-requires-clause-packing
go_on-requires-clause-packing c = let ascent = rw c.in-Full.is at c.in_ok-reached.ensures in extended_packing c.args.instance.now c.args.branch.now c.args.packing c.in-Full.full c.requires.packing ascent.0
