use Rattle.std.proofs.Common.{◌≡◌, take}
use Rattle.graph_store.proofs.building.link_all.Given as goal

-- the links so far
abbrev pub invariant-loop-link : goal.invariant-loop-link
invariant-loop-link l = l.links ≡ (record { n = l.instance.n; links = take l.link-index l.link-items })
