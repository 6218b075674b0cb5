use Rattle.std.proofs.Common.{◌≡◌, ◌++◌, drop}
use Rattle.search_core.specs.Settled.{queued}
use Rattle.search_core.proofs.gathering.queued_of.Given as goal

abbrev pub invariant-loop-made : goal.invariant-loop-made
invariant-loop-made l = l.queued.items ++ queued (drop l.made-index l.nodes) ≡ queued l.nodes
