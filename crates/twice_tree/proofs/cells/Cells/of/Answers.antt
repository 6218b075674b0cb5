use Rattle.std.proofs.Common.{◌-◌, ◌^◌}
use Rattle.twice_tree.proofs.Nearest.{cell_range}
use Rattle.twice_tree.proofs.cells.Cells.of.Goals as goal

pub of-requires-clause-terminals : goal.of-requires-clause-terminals
of-requires-clause-terminals c v vertex = cell_range c.args.store.now.network c.args.terminals.now c.in_ok-distances.distances (2 ^ 64 - 1) v c.requires c.in_ok-distances.ensures vertex
