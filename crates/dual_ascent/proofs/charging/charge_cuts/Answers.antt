use Rattle.std.proofs.lemmas.List.{take_more}
use Rattle.dual_ascent.proofs.ChargedCuts.{AreLowered-append, AreSpent-append, next_enough, next_prize}
use Rattle.dual_ascent.proofs.charging.charge_cuts.Goals as goal

pub charge_cut-requires-clause-enough : goal.charge_cut-requires-clause-enough
charge_cut-requires-clause-enough c =
    next_enough c.args.arcs.now c.loop-cut.arcs c.args.twins.now c.loop-cut.twins c.args.cuts.now c.loop-cut.cut-index c.cut-item.result c.loop-cut-test.true c.cut-item.is c.requires.ends c.requires.borne c.loop-cut.invariant.arcs c.loop-cut.invariant.ends

pub charge_cut-requires-clause-prize : goal.charge_cut-requires-clause-prize
charge_cut-requires-clause-prize c =
    next_prize c.args.arcs.now c.loop-cut.arcs c.args.twins.now c.loop-cut.twins c.args.cuts.now c.loop-cut.cut-index c.cut-item.result c.loop-cut-test.true c.cut-item.is c.requires.ends c.requires.borne c.loop-cut.invariant.arcs c.loop-cut.invariant.ends

pub loop-cut-preserved : goal.loop-cut-preserved
loop-cut-preserved c =
    rw (take_more c.args.cuts.now c.loop-cut.cut-index c.cut-item.result c.loop-cut-test.true, ← c.cut-item.is) (record {
      arcs = AreLowered-append _ _ _ _ _ c.loop-cut.invariant.arcs c.charge_cut.ensures.arcs;
      ends = AreSpent-append _ _ _ _ _ c.loop-cut.invariant.ends c.charge_cut.ensures.ends;
    })
