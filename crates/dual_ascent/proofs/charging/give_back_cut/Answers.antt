use Rattle.std.proofs.Common.{◌∙◌, sym}
use Rattle.dual_ascent.proofs.FreedCuts.{prized_end}
use Rattle.dual_ascent.proofs.charging.give_back_cut.Goals as goal

pub give_back-requires-then-is_prized-clause-end : goal.give_back-requires-then-is_prized-clause-end
give_back-requires-then-is_prized-clause-end c =
    prized_end c.args.arcs.now c.args.twins.now c.args.cut.now.q c.requires.ends c.requires.vertex (sym c.has_prize-is_prized.ensures ∙ c.if-is_prized.true)
