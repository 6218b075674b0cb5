use Rattle.steiner_top.proofs.solving.solve_arcs.Goals as goal

pub returns-in-NoTree : goal.returns-in-NoTree
returns-in-NoTree c =
    let found = rw c.in-NoTree.is at c.in_ok-found.ensures in
    record { wall = found.wall; none = found.none; version = found.version; claims = found.claims; is_log = found.is_log; accepted = found.accepted }
