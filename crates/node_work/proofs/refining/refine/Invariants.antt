use Rattle.node_work.specs.Target.{IsRefinedFor}
use Rattle.node_work.proofs.refining.refine.Given as goal

abbrev pub invariant-loop : goal.invariant-loop
invariant-loop g l = IsRefinedFor l.fn.target l.fn.extension l.refined
