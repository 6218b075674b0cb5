use Rattle.std.proofs.Common.{◌≡◌, map, take}
use Rattle.st_model.specs.Stated.{ends}
use Rattle.st_model.proofs.build.pairs_of.Given as goal

-- the pairs of the links so far
abbrev pub invariant-loop-link : goal.invariant-loop-link
invariant-loop-link l = l.pairs.keys ≡ map ends (take l.link-index l.links)
