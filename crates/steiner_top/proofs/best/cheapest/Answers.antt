use Rattle.std.proofs.Common.{sym, subst}
use Rattle.std.specs.Prelude.{IfSome}
use Rattle.st_model.specs.Arborescence.{IsTree}
use Rattle.st_model.specs.Branch.{ReachesAsTold}
use Rattle.search_core.specs.declared.gathered.Segment.{Segment}
use Rattle.steiner_top.proofs.Cheapest.{one_more}
use Rattle.steiner_top.proofs.best.cheapest.Goals as goal

pub with_found-requires-clause-found : goal.with_found-requires-clause-found
with_found-requires-clause-found c =
    subst (λ (s : Segment). IfSome s.best (λ t. IsTree c.args.instance.now t × ReachesAsTold c.args.branch.now t)) (sym c.segment-item.is)
    (c.requires.found c.loop-segment.segment-index c.segment-item.result c.loop-segment-test.true)

pub loop-segment-preserved : goal.loop-segment-preserved
loop-segment-preserved c = record {
  tree = c.in_ok-best.ensures.tree;
  reaches = c.in_ok-best.ensures.reaches;
  least = one_more c.args.instance.now c.loop-segment.best c.in_ok-best.best c.args.segments.now c.loop-segment.segment-index c.segment-item.result _ c.loop-segment-test.true c.segment-item.is c.in_ok-best.ensures.least c.loop-segment.invariant.least;
}
