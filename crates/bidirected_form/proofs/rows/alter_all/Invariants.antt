use Rattle.std.proofs.Common.{◌≡◌, ◌++◌, map, take, drop}
use Rattle.bidirected_form.specs.Rows.{altered}
use Rattle.bidirected_form.proofs.rows.alter_all.Given as goal

abbrev pub invariant-loop-arc : goal.invariant-loop-arc
invariant-loop-arc l =
    l.arcs ≡ map (altered l.marks l.change) (take l.arc-index l.fn.arcs) ++ drop l.arc-index l.fn.arcs
