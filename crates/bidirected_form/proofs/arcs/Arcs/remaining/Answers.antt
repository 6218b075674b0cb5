use Rattle.bidirected_form.proofs.arcs.Arcs.remaining.Goals as goal

pub find-requires-clause-ascending : goal.find-requires-clause-ascending
find-requires-clause-ascending c = rw c.row.ensures (c.self.invariant.0.arcs c.args.v).ascending
