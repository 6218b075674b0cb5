use Rattle.solution_reader.proofs.FirstFault.{answers_cost, answers_fault}
use Rattle.solution_reader.proofs.verify.Goals as goal

pub returns-clause-ok : goal.returns-clause-ok
returns-clause-ok c = answers_cost c.args.instance.now c.args.scale c.args.claimed.now c.judged.result c.judged.ensures.instance c.judged.ensures.claim c.judged.ensures.tree c.judged.ensures.fault

pub returns-clause-only : goal.returns-clause-only
returns-clause-only c = answers_fault c.args.instance.now c.args.scale c.args.claimed.now c.judged.result c.judged.ensures.instance c.judged.ensures.claim c.judged.ensures.tree c.judged.ensures.fault
