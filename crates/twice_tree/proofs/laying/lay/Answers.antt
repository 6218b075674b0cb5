use Rattle.std.proofs.Common.{◌+◌, is_some, ap, arith}
use Rattle.st_model.proofs.ThinGrowth.{linked-vertices}
use Rattle.twice_tree.specs.Cells.{far_in, terminal_of}
use Rattle.twice_tree.proofs.Ways.{goes_by, goes_on}
use Rattle.twice_tree.proofs.laying.lay.Goals as goal

pub go_out-requires-clause-vertex : goal.go_out-requires-clause-vertex
go_out-requires-clause-vertex c = (linked-vertices c.args.store.now.network c.args.offer.from c.args.offer.to c.requires.cells.instance (ap is_some c.requires.made.linked)).0

pub go_out-requires-clause-near : goal.go_out-requires-clause-near
go_out-requires-clause-near c = let sum = c.requires.made.cost in let fits = c.requires.made.fits in omega (arith, sum, fits)

pub follow-requires-clause-laid : goal.follow-requires-clause-laid
follow-requires-clause-laid c = c.in_ok-go_out.ensures.laid

pub follow-requires-clause-from : goal.follow-requires-clause-from
follow-requires-clause-from c = c.in_ok-go_out.ensures.there

pub follow-requires-clause-linked : goal.follow-requires-clause-linked
follow-requires-clause-linked c = ap is_some c.requires.made.linked

pub go_home-requires-clause-vertex : goal.go_home-requires-clause-vertex
go_home-requires-clause-vertex c = (linked-vertices c.args.store.now.network c.args.offer.from c.args.offer.to c.requires.cells.instance (ap is_some c.requires.made.linked)).1

pub go_home-requires-clause-near : goal.go_home-requires-clause-near
go_home-requires-clause-near c = let sum = c.requires.made.cost in let fits = c.requires.made.fits in omega (arith, sum, fits)

pub go_home-requires-clause-from : goal.go_home-requires-clause-from
go_home-requires-clause-from c =
    (goes_by c.args.store.now.network c.go_out.new.laid c.follow.new.self c.args.offer.from c.args.offer.to c.requires.made.link_cost c.in_ok-follow.ensures.laid c.in_ok-follow.ensures.reached c.in_ok-follow.ensures.cost c.requires.made.linked).there

pub returns : goal.returns
returns c =
    let I = c.args.store.now.network in
    let far = far_in c.args.cells.now.distances in
    let step = goes_by I c.go_out.new.laid c.follow.new.self c.args.offer.from c.args.offer.to c.requires.made.link_cost c.in_ok-follow.ensures.laid c.in_ok-follow.ensures.reached c.in_ok-follow.ensures.cost c.requires.made.linked in
    let there = goes_on I c.args.laid.now c.go_out.new.laid c.follow.new.self c.args.offer.from c.args.offer.to (far c.args.offer.from) c.requires.made.link_cost c.in_ok-go_out.ensures step in
    let k = terminal_of I c.args.cells.now.distances c.args.offer.to in
    rw c.requires.made.cost (goes_on I c.args.laid.now c.follow.new.self c.go_home.new.laid c.args.offer.to k (far c.args.offer.from + c.requires.made.link_cost) (far c.args.offer.to) there c.in_ok-go_home.ensures)
