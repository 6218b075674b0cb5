use Rattle.std.proofs.Common.{sym}
use Rattle.graph_store.proofs.Vertices.{half_linked, no_half}
use Rattle.graph_store.proofs.store.Store.last_neighbour.Goals as goal

pub returns-in_err-last-clause-alone : goal.returns-in_err-last-clause-alone
returns-in_err-last-clause-alone c = rw c.from_residual.ensures (no_half c.args.self.now.network c.args.vertex c.neighbours.result.now c.neighbours.ensures.halves (sym c.in_err-last.ensures.value))

pub returns-clause-linked : goal.returns-clause-linked
returns-clause-linked c = half_linked c.args.self.now.network c.args.vertex c.neighbours.result.now _ c.in_ok-last.field-0.now c.neighbours.ensures.halves (sym c.in_ok-last.ensures.value)
