use Rattle.std.proofs.Common.{[], rules}
use Rattle.steiner_top.proofs.Asking.{stops_first}
use Rattle.steiner_top.proofs.loading.load.Goals as goal

pub returns-in-Err-clause-first : goal.returns-in-Err-clause-first
returns-in-Err-clause-first g c = stops_first c.args.name.now [] (g.F.Shelf.text c.args.shelf.now) (g.F.Shelf.asked c.args.shelf.now) (g.F.Shelf.asked c.load.new.self) _ (search rules) (search rules)
