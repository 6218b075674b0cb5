use Rattle.node_work.proofs.expanding.take_up.Goals as goal

pub returns-in-Some-plan : goal.returns-in-Some-plan
returns-in-Some-plan g c = rw c.in_ok-branch.ensures at c.follow.ensures

pub returns-in-None : goal.returns-in-None
returns-in-None g c = rw c.in_ok-branch.ensures at c.work_on.ensures
