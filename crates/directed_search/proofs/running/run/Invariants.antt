use Rattle.std.proofs.Common.{◌≡◌}
use Rattle.directed_search.specs.Searching.{IsAt, branches, nodes_left}
use Rattle.directed_search.proofs.running.run.Given as goal

abbrev pub invariant-loop-node : goal.invariant-loop-node
invariant-loop-node l = record { at : IsAt l.instance l.progress l.waiting; budget : l.progress.budget ≡ l.initial.progress.budget }

abbrev pub decreases-loop-node : goal.decreases-loop-node
decreases-loop-node l = nodes_left l.instance (branches l.waiting)
