use Rattle.std.proofs.Common.{[]}
use Rattle.steiner_top.proofs.Asking.{asks_first}
use Rattle.steiner_top.proofs.few_command.few_command.Goals as goal

pub returns-in_err-answer-clause-asked : goal.returns-in_err-answer-clause-asked
returns-in_err-answer-clause-asked g c = asks_first (g.F.Shelf.asked c.args.shelf.now) (g.F.Shelf.asked c.load.new.shelf) c.args.words.now.file.now [] c.load.ensures.asked

pub returns-clause-asked : goal.returns-clause-asked
returns-clause-asked g c = asks_first (g.F.Shelf.asked c.args.shelf.now) (g.F.Shelf.asked c.load.new.shelf) c.args.words.now.file.now [] c.load.ensures.asked
