use Rattle.std.proofs.Common.{◌≡◌, ℕ, ◌+◌, ◌≤◌, length}
use Rattle.bidirected_form.specs.Building.{cost_by}
use Rattle.bidirected_form.specs.Digraph.{AreArcsInto, left_from}
use Rattle.bidirected_form.specs.Rows.{IsLaidOut, row_of, rows_from}
use Rattle.bidirected_form.proofs.building.rows_of.Given as goal

abbrev pub invariant-loop-before : goal.invariant-loop-before
invariant-loop-before l = record {
  laid : IsLaidOut 0 l.ends.items (length l.arcs.items);
  count : length l.ends.items ≡ l.before + 1;
  arcs : (v : ℕ) → v ≤ l.before → AreArcsInto l.store.network.n v (row_of (rows_from 0 l.ends.items l.arcs.items) v);
  costs : (u v : ℕ) → v ≤ l.before → left_from (row_of (rows_from 0 l.ends.items l.arcs.items) v) u ≡ cost_by l.store l.branch l.kinds u v;
}
