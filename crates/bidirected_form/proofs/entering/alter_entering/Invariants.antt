use Rattle.std.proofs.Common.{◌≡◌, ℕ, length, map, take}
use Rattle.std.specs.Prelude.{if◌then◌else◌}
use Rattle.st_model.specs.Lists.{has}
use Rattle.bidirected_form.specs.Rows.{altered, row_of}
use Rattle.bidirected_form.proofs.entering.alter_entering.Given as goal

abbrev pub invariant-loop-vertex : goal.invariant-loop-vertex
invariant-loop-vertex l = record { count : length l.rows ≡ length l.fn.rows; altered : (v : ℕ) → row_of l.rows v ≡ (if has (take l.vertex-index l.set) v then map (altered l.marks l.change) (row_of l.fn.rows v) else row_of l.fn.rows v) }
