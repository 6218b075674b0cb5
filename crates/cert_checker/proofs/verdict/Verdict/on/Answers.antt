use Rattle.cert_checker.proofs.verdict.Verdict.on.Goals as goal

pub returns-in-Found : goal.returns-in-Found
returns-in-Found c = let f = c.in-Found in rw f.is (c.of.ensures f.tree f.steps f.proof)
