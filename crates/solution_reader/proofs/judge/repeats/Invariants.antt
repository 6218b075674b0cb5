use Rattle.std.proofs.Common.{◌≡◌, false, map, take}
use Rattle.st_model.specs.Regrown.{unordered}
use Rattle.solution_reader.specs.Stated.{repeats}
use Rattle.solution_reader.proofs.judge.repeats.Given as goal

abbrev pub invariant-loop-edge : goal.invariant-loop-edge
invariant-loop-edge l = record {
  keys : l.pairs.keys ≡ map unordered (take l.edge-index l.edges);
  once : repeats (take l.edge-index l.edges) ≡ false;
}
