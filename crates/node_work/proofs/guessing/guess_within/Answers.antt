use Rattle.node_work.proofs.guessing.guess_within.Goals as goal

pub carried_over-requires-clause-sets : goal.carried_over-requires-clause-sets
carried_over-requires-clause-sets g c κs within =
    let e = rw c.in-Reached.is at c.in_ok-ascent.ensures.extended in
    e.0.sets
