use Rattle.std.proofs.Common.{◌≡◌, ◌++◌, map, Some}
use Rattle.worker_loop.specs.Slots.{account_of, pass_of, segment_of, sight_of}
use Rattle.worker_loop.proofs.team.handed_back.Given as goal

abbrev pub invariant-loop-slot : goal.invariant-loop-slot
invariant-loop-slot g l =
    (goal.iterator-loop-slot g).can_next l.slot-iterator × (goal.iterator-loop-slot g).is_finite l.slot-iterator
    × (l.returned.passes.items ++ map pass_of l.slot-iterator.rest.items ≡ map pass_of l.fn.team.items)
    × (l.returned.accounts.items ++ map account_of l.slot-iterator.rest.items ≡ map account_of l.fn.team.items)
    × (l.returned.sights.items ++ map sight_of l.slot-iterator.rest.items ≡ map sight_of l.fn.team.items)
    × (map Some l.returned.segments.items ++ map segment_of l.slot-iterator.rest.items ≡ map segment_of l.fn.team.items)
