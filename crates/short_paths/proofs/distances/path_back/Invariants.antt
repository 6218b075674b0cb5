use Rattle.std.proofs.Common.{◌≡◌, ◌<◌, ◌++◌, [], get_or, length, reverse, cond, nat_lt}
use Rattle.short_paths.specs.Searching.{paths_of}
use Rattle.short_paths.specs.declared.settled.Settled.{Settled}
use Rattle.short_paths.proofs.distances.path_back.Given as goal

-- what is still to be read, and what was read in turn
abbrev pub invariant-loop-here : goal.invariant-loop-here
invariant-loop-here l =
    let none : Settled = record { vertex = 0; cost = 0; before = 0 } in
    let s = get_or l.settled l.here none in
    (l.here < length l.settled) × (get_or (paths_of l.settled) l.place [] ≡ cond (nat_lt s.before l.here) (get_or (paths_of l.settled) s.before []) [] ++ reverse l.path.items)

abbrev pub decreases-loop-here : goal.decreases-loop-here
decreases-loop-here l = l.here
