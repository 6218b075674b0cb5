use Rattle.std.proofs.Common.{List, ◌++◌, take}
use Rattle.branching.specs.declared.node.Node.{Node}
use Rattle.search_core.specs.declared.done.Done.{Done}
use Rattle.certificate_log.specs.Standing.{FindsIn}
use Rattle.certificate_log.proofs.standings.Standings.add_records.Given as goal

-- those so far are found as well
abbrev pub invariant-loop-done : goal.invariant-loop-done
invariant-loop-done l = (ds : List Done) (ns : List Node) → FindsIn ds ns l.initial.self → FindsIn (ds ++ take l.done-index l.records) ns l.self
