use Rattle.node_work.proofs.expanding.ended.Goals as goal

pub returns-in-Some-next : goal.returns-in-Some-next
returns-in-Some-next c = c.parted.ensures c.args.links c.in-Some-next.ensures.allowed

pub returns : goal.returns
returns c = c.parted-2.ensures c.args.links tt
