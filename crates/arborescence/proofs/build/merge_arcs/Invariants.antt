use Rattle.std.proofs.Common.{◌≡◌, map, take}
use Rattle.arborescence.specs.Stated.{tail_head, merged_arcs}
use Rattle.arborescence.proofs.build.merge_arcs.Given as goal

-- what the arcs so far make
abbrev pub invariant-loop-arc : goal.invariant-loop-arc
invariant-loop-arc l = record {
  arcs : l.arcs.items ≡ merged_arcs (take l.arc-index l.stated);
  pairs : l.pairs.keys ≡ map tail_head l.arcs.items;
}
