use Rattle.few_terminals.specs.Back.{IsOnTheWay}
use Rattle.few_terminals.specs.Rows.{meanings_of}
use Rattle.few_terminals.proofs.back.way_back.Given as goal

abbrev pub invariant-loop-place : goal.invariant-loop-place
invariant-loop-place l = IsOnTheWay l.store.network l.table.terminals.items (meanings_of l.store.network l.table) l.top l.wanted.items l.place l.laid

abbrev pub decreases-loop-place : goal.decreases-loop-place
decreases-loop-place l = l.place
