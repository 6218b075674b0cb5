use Rattle.std.proofs.Common.{◌≡◌, ◌++◌, length, map, take, drop}
use Rattle.amounts.specs.declared.scale.Scale.TheVariants.{Whole}
use Rattle.stp_reader.specs.Unit.{link_in}
use Rattle.stp_reader.proofs.reading.to_wholes.Given as goal

abbrev pub invariant-loop-link : goal.invariant-loop-link
invariant-loop-link l = record {
  changed : l.link-items ≡ map (link_in Whole) (take l.link-index l.fn.links.items) ++ drop l.link-index l.fn.links.items;
  long : length l.link-items ≡ length l.fn.links.items;
}
