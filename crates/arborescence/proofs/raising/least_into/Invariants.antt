use Rattle.std.proofs.Common.{◌+◌, ◌<◌, ◌≤◌, take}
use Rattle.std.specs.Prelude.{All, IsFalse}
use Rattle.st_model.specs.Lists.{has}
use Rattle.arborescence.proofs.raising.least_into.Given as goal

abbrev pub invariant-loop-arc : goal.invariant-loop-arc
invariant-loop-arc l = record {
  most : l.least ≤ l.most;
  borne : All (λ arc. IsFalse (has l.set.members arc.tail) → arc.load + l.least ≤ arc.cost) (take l.arc-index l.arcs);
  positive : 0 < l.most → All (λ arc. IsFalse (has l.set.members arc.tail) → arc.load < arc.cost) l.arcs → 0 < l.least;
}
