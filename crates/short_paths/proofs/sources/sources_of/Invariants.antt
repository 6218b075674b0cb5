use Rattle.std.proofs.Common.{◌≡◌, length, map, take}
use Rattle.short_paths.proofs.Begins.{source_by}
use Rattle.short_paths.proofs.sources.sources_of.Given as goal

abbrev pub invariant-loop-vertex : goal.invariant-loop-vertex
invariant-loop-vertex l = record {
  long : length l.sources.items ≡ length l.marks;
  known : take l.vertex l.sources.items ≡ map (source_by l.settled) (take l.vertex l.marks);
}
