use Rattle.std.proofs.Common.{take}
use Rattle.short_paths.specs.Steps.{HasFollowed}
use Rattle.short_paths.proofs.search.Search.relax.Given as goal

abbrev pub invariant-loop-half : goal.invariant-loop-half
invariant-loop-half l = HasFollowed l.store.network.links l.store.network.n l.limit l.vertex l.cost (take l.half-index l.half-items) l.initial.self l.self
