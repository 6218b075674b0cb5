use Rattle.steiner_top.proofs.Asking.{asks_both, stops_second}
use Rattle.steiner_top.proofs.resume_command.resume_command.Goals as goal

pub returns-in-Err-load-clause-asked : goal.returns-in-Err-load-clause-asked
returns-in-Err-load-clause-asked g c = asks_both (g.F.Shelf.asked c.args.shelf.now) (g.F.Shelf.asked c.load.new.shelf) (g.F.Shelf.asked c.load-2.new.shelf) c.args.words.now.file.now c.args.words.now.log_name.now c.load.ensures.asked c.load-2.ensures.asked

pub returns-in_err-answer-clause-asked : goal.returns-in_err-answer-clause-asked
returns-in_err-answer-clause-asked g c = asks_both (g.F.Shelf.asked c.args.shelf.now) (g.F.Shelf.asked c.load.new.shelf) (g.F.Shelf.asked c.load-2.new.shelf) c.args.words.now.file.now c.args.words.now.log_name.now c.load.ensures.asked c.load-2.ensures.asked

pub returns-in_err-save-clause-asked : goal.returns-in_err-save-clause-asked
returns-in_err-save-clause-asked g c = rw c.save.ensures.asked (asks_both (g.F.Shelf.asked c.args.shelf.now) (g.F.Shelf.asked c.load.new.shelf) (g.F.Shelf.asked c.load-2.new.shelf) c.args.words.now.file.now c.args.words.now.log_name.now c.load.ensures.asked c.load-2.ensures.asked)

pub returns-clause-asked : goal.returns-clause-asked
returns-clause-asked g c = rw c.save.ensures.asked (asks_both (g.F.Shelf.asked c.args.shelf.now) (g.F.Shelf.asked c.load.new.shelf) (g.F.Shelf.asked c.load-2.new.shelf) c.args.words.now.file.now c.args.words.now.log_name.now c.load.ensures.asked c.load-2.ensures.asked)

pub returns-in-Err-load-clause-first : goal.returns-in-Err-load-clause-first
returns-in-Err-load-clause-first g c = stops_second c.args.words.now.file.now c.args.words.now.log_name.now (g.F.Shelf.text c.args.shelf.now) (g.F.Shelf.text c.load.new.shelf) (g.F.Shelf.asked c.args.shelf.now) (g.F.Shelf.asked c.load.new.shelf) (g.F.Shelf.asked c.load-2.new.shelf)
    c.in-Ok.stp.items c.in-Err-load.status c.load.ensures.asked c.load-2.ensures.asked c.in-Ok.ensures.loaded c.load.ensures.texts c.in-Err-load.ensures.stopped
