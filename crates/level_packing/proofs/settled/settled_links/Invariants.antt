use Rattle.std.proofs.Common.{◌≡◌, ◌++◌, drop}
use Rattle.level_packing.specs.Settled.{settled_links}
use Rattle.level_packing.proofs.settled.settled_links.Given as goal

-- what was written, and what is to come
abbrev pub invariant-loop-link : goal.invariant-loop-link
invariant-loop-link l = l.left.items ++ settled_links l.branch (drop l.link-index l.links) ≡ settled_links l.branch l.links
