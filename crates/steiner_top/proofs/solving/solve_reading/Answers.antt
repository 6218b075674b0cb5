use Rattle.steiner_top.proofs.solving.solve_reading.Goals as goal

pub returns-in-Some : goal.returns-in-Some
returns-in-Some g c = c.without_tree.ensures c.args.wanted.nodes c.args.wanted.plain c.args.wanted.links c.args.reading.now.scale
