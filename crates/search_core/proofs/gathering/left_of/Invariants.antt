use Rattle.std.proofs.Common.{◌≡◌, ◌++◌, drop}
use Rattle.search_core.specs.Settled.{left_of}
use Rattle.search_core.proofs.gathering.left_of.Given as goal

abbrev pub invariant-loop-made : goal.invariant-loop-made
invariant-loop-made l = l.left.items ++ left_of (drop l.made-index l.nodes) l.w ≡ left_of l.nodes l.w
