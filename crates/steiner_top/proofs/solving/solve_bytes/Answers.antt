use Rattle.steiner_top.proofs.Reasons.{refused_answer}
use Rattle.steiner_top.proofs.solving.solve_bytes.Goals as goal

pub returns-clause-refused : goal.returns-clause-refused
returns-clause-refused g c = refused_answer c.args.wanted.nodes c.args.wanted.plain c.args.wanted.links c.args.stp.now c.solve.result (c.file_refused_exactly.ensures c.args.stp.now) c.solve.ensures
