use Rattle.directed_search.proofs.solve_directed.Goals as goal

pub returns-in-Some : goal.returns-in-Some
returns-in-Some c = c.without_tree.ensures c.args.budget
