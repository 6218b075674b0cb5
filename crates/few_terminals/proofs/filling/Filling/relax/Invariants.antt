use Rattle.std.proofs.Common.{take}
use Rattle.few_terminals.proofs.Offering.{HasRelaxed}
use Rattle.few_terminals.proofs.filling.Filling.relax.Given as goal

abbrev pub invariant-loop-half : goal.invariant-loop-half
invariant-loop-half l = HasRelaxed l.store.network l.vertex (take l.half-index l.half-items) l.initial.self l.self
