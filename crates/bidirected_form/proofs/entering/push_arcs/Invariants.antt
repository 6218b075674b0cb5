use Rattle.std.proofs.Common.{◌≡◌, ◌++◌, take}
use Rattle.bidirected_form.specs.Rows.{unmarked}
use Rattle.bidirected_form.proofs.entering.push_arcs.Given as goal

abbrev pub invariant-loop-arc : goal.invariant-loop-arc
invariant-loop-arc l = l.found.items ≡ l.fn.found.items ++ unmarked l.marks l.head (take l.arc-index l.arcs)
