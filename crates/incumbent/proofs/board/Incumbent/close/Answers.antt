use Rattle.std.proofs.Common.{rules, ◌≡◌, ◌+◌, length}
use Rattle.incumbent.proofs.Together.{closes, joined_all}
use Rattle.incumbent.proofs.board.Incumbent.close.Goals as goal

pub returns-clause-least : goal.returns-clause-least
returns-clause-least c = let sum : c.self.inside.own.hand.parts + length c.args.seats.items ≡ 65 = search rules in
    rw (← c.self.view_is) (closes c.see.result c.self.inside.own.hand c.take_all.new.own.hand c.args.seats.items (search rules) c.self.invariant.1 sum c.see.ensures.whole)

pub returns-clause-seen : goal.returns-clause-seen
returns-clause-seen c = joined_all c.see.result c.self.inside.own.hand c.args.seats.items (search rules)
