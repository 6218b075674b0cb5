use Rattle.std.proofs.Common.{ℕ, ◌+◌, ◌<◌, ◌≤◌, take}
use Rattle.std.specs.Prelude.{All, IsFalse, IsTrue}
use Rattle.st_model.specs.Lists.{has}
use Rattle.cut_packing.specs.Loads.{arcs_into}
use Rattle.arborescence.proofs.raising.least_left.Given as goal

abbrev pub invariant-loop-member : goal.invariant-loop-member
invariant-loop-member l = record {
  most : l.least ≤ l.room;
  borne : (v : ℕ) → IsTrue (has (take l.member-index l.member-items) v) → All (λ arc. IsFalse (has l.set.members arc.tail) → arc.load + l.least ≤ arc.cost) (arcs_into l.arcs v);
  positive : 0 < l.room → ((v : ℕ) → IsTrue (has l.set.members v) → All (λ arc. IsFalse (has l.set.members arc.tail) → arc.load < arc.cost) (arcs_into l.arcs v)) → 0 < l.least;
}
