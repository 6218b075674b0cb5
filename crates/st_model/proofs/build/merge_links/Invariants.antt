use Rattle.std.proofs.Common.{◌≡◌, map, take}
use Rattle.st_model.specs.Stated.{ends, merged}
use Rattle.st_model.proofs.build.merge_links.Given as goal

-- what the links so far make
abbrev pub invariant-loop-link : goal.invariant-loop-link
invariant-loop-link l = record {
  links : l.links.items ≡ merged (take l.link-index l.stated);
  pairs : l.pairs.keys ≡ map ends l.links.items;
}
