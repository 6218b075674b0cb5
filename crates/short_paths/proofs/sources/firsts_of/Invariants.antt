use Rattle.std.proofs.Common.{◌≡◌, length, take}
use Rattle.short_paths.proofs.Begins.{firsts}
use Rattle.short_paths.proofs.sources.firsts_of.Given as goal

abbrev pub invariant-loop-place : goal.invariant-loop-place
invariant-loop-place l = record {
  long : length l.firsts.items ≡ length l.settled;
  known : take l.place l.firsts.items ≡ firsts (take l.place l.settled);
}
