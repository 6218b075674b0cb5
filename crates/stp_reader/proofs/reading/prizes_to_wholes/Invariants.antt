use Rattle.std.proofs.Common.{◌≡◌, ◌++◌, length, map, take, drop}
use Rattle.amounts.specs.declared.scale.Scale.TheVariants.{Whole}
use Rattle.stp_reader.specs.Unit.{stated_in}
use Rattle.stp_reader.proofs.reading.prizes_to_wholes.Given as goal

abbrev pub invariant-loop-stated : goal.invariant-loop-stated
invariant-loop-stated l = record {
  changed : l.stated-items ≡ map (stated_in Whole) (take l.stated-index l.fn.needs.items) ++ drop l.stated-index l.fn.needs.items;
  long : length l.stated-items ≡ length l.fn.needs.items;
}
