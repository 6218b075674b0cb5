use Rattle.steiner_top.proofs.Remaining.{left_is_state, some_left}
use Rattle.steiner_top.proofs.solving.find.Goals as goal

pub search_left-requires-clause-state : goal.search_left-requires-clause-state
search_left-requires-clause-state g c _ _ =
    let l = c.in_ok-left in
    left_is_state c.args.reading.now.instance l.left.steps.items l.left.reduced.state c.vertices.ensures.instance l.ensures.applies

pub search_left-requires-clause-some : goal.search_left-requires-clause-some
search_left-requires-clause-some g c _ _ =
    let l = c.in_ok-left in
    some_left c.args.reading.now.instance l.left.steps.items l.left.reduced.state c.vertices.ensures.instance l.ensures.applies c.requires
