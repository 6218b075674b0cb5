use Rattle.std.proofs.Common.{◌≡◌, length}
use Rattle.few_terminals.specs.Entries.{meanings, HaveParts}
use Rattle.few_terminals.specs.Rows.{AreRows}
use Rattle.few_terminals.proofs.table.fill.Given as goal

abbrev pub invariant-loop-bits : goal.invariant-loop-bits
invariant-loop-bits l = record {
  rows : AreRows l.store.network l.terminals.items (meanings l.store.network l.terminals.items l.entries.items) l.reached.items l.rows.items;
  parts : HaveParts l.store.network l.terminals.items (meanings l.store.network l.terminals.items l.entries.items);
  place : length l.rows.items ≡ l.bits;
}
