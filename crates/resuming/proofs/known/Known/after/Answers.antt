use Rattle.std.proofs.Common.{sym, subst}
use Rattle.std.specs.Prelude.{IfSome}
use Rattle.st_model.specs.Arborescence.{IsTree}
use Rattle.search_core.specs.declared.gathered.Segment.{Segment}
use Rattle.resuming.proofs.Keeping.{kept_more, least_more}
use Rattle.resuming.proofs.known.Known.after.Goals as goal

pub with-requires : goal.with-requires
with-requires c =
    subst (λ (s : Segment). IfSome s.best (IsTree c.args.instance.now)) (sym c.segment-item.is)
    (c.requires c.loop-segment.segment-index c.segment-item.result c.loop-segment-test.true)

pub loop-segment-preserved : goal.loop-segment-preserved
loop-segment-preserved c = record {
  least = least_more c.args.instance.now c.loop-segment.known.least c.in_ok-known.known.least c.args.segments.now c.loop-segment.segment-index c.segment-item.result _ c.loop-segment-test.true c.segment-item.is c.in_ok-known.ensures.least c.loop-segment.invariant.least;
  kept = kept_more c.args.instance.now c.args.segments.now c.loop-segment.segment-index c.segment-item.result c.args.self.least c.loop-segment.known.least c.in_ok-known.known.least c.args.self.tree c.loop-segment.known.tree c.in_ok-known.known.tree c.loop-segment-test.true c.segment-item.is c.loop-segment.invariant.kept c.in_ok-known.ensures.tree;
}
