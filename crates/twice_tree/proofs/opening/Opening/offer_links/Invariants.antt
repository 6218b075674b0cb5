use Rattle.std.proofs.Common.{take}
use Rattle.twice_tree.specs.Opening.{OffersHalves}
use Rattle.twice_tree.proofs.opening.Opening.offer_links.Given as goal

abbrev pub invariant-loop-half : goal.invariant-loop-half
invariant-loop-half l = OffersHalves l.store.network l.cells l.vertex (take l.half-index l.half-items) l.initial.self l.self
