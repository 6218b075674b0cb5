use Rattle.bidirected_form.proofs.Lookups.{found_at, found_none}
use Rattle.bidirected_form.proofs.rows.find.Goals as goal

pub returns-in-Ok : goal.returns-in-Ok
returns-in-Ok c = found_at c.args.tails.now c.args.arcs.now c.args.tail c.in-Ok.place _ c.requires.tails c.requires.ascending c.in-Ok.ensures.position

pub returns-in-Err : goal.returns-in-Err
returns-in-Err c = found_none c.args.tails.now c.args.arcs.now c.args.tail c.in-Err.field-0 c.requires.tails c.requires.ascending c.in-Err.ensures.position
