use Rattle.std.specs.Prelude.{All, IfSome}
use Rattle.node_work.specs.Target.{IsRefinedFor}
use Rattle.node_work.specs.Trying.{IsTriedFor}
use Rattle.node_work.proofs.refining.turn.Given as goal

abbrev pub invariant-loop-attempt : goal.invariant-loop-attempt
invariant-loop-attempt g l =
    (goal.iterator-loop-attempt g).can_next l.attempt-iterator × (goal.iterator-loop-attempt g).is_finite l.attempt-iterator
    × All (IsTriedFor l.fn.site.target l.fn.extension) l.attempt-iterator.rest.items
    × IfSome l.best (IsRefinedFor l.fn.site.target l.fn.extension)
