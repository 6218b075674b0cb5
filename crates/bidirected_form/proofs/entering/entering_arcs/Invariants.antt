use Rattle.std.proofs.Common.{◌≡◌, ℕ, take}
use Rattle.std.specs.List.{flat_map}
use Rattle.bidirected_form.specs.Rows.{row_of, unmarked}
use Rattle.bidirected_form.proofs.entering.entering_arcs.Given as goal

abbrev pub invariant-loop-vertex : goal.invariant-loop-vertex
invariant-loop-vertex l = l.found.items ≡ flat_map (λ (v : ℕ). unmarked l.marks v (row_of l.rows v)) (take l.vertex-index l.set)
