use Rattle.std.proofs.Common.{arith, get_or}
use Rattle.short_paths.specs.declared.settled.Settled.{Settled}
use Rattle.short_paths.proofs.Endings.{read_first, read_more}
use Rattle.short_paths.proofs.distances.path_back.Goals as goal

pub loop-here-init : goal.loop-here-init
loop-here-init c =
    let none : Settled = record { vertex = 0; cost = 0; before = 0 } in
    (c.requires, rw (c.in_ok-push.ensures.items, c.new-path.ensures.items) (read_first c.args.settled.now c.args.place none c.requires))

pub loop-here-preserved : goal.loop-here-preserved
loop-here-preserved c =
    let none : Settled = record { vertex = 0; cost = 0; before = 0 } in
    let next = (get_or c.args.settled.now c.loop-here.here none).before in
    let inside = c.loop-here.invariant.0 in
    let less = c.loop-here-test.true in
    (omega arith, rw c.in_ok-push-2.ensures.items (read_more c.args.settled.now c.args.place c.loop-here.here next none c.loop-here.path.items less (omega arith) c.loop-here.invariant.1))
