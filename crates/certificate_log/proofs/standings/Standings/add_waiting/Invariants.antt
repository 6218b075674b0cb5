use Rattle.std.proofs.Common.{List, ◌++◌, take}
use Rattle.branching.specs.declared.node.Node.{Node}
use Rattle.search_core.specs.declared.done.Done.{Done}
use Rattle.certificate_log.specs.Standing.{FindsIn}
use Rattle.certificate_log.proofs.standings.Standings.add_waiting.Given as goal

-- those so far are found as well
abbrev pub invariant-loop-node : goal.invariant-loop-node
invariant-loop-node l = (ds : List Done) (ns : List Node) → FindsIn ds ns l.initial.self → FindsIn ds (ns ++ take l.node-index l.nodes) l.self
