use Rattle.std.proofs.Common.{◌≡◌, map, take}
use Rattle.few_terminals.specs.Filling.{mark_at}
use Rattle.few_terminals.proofs.filling.Filling.row.Given as goal

abbrev pub invariant-loop-vertex : goal.invariant-loop-vertex
invariant-loop-vertex l = record {
  costs : l.costs.items ≡ map (λ v. (mark_at l.self.marks.items v).cost) (take l.vertex-index l.reached);
  places : l.places.items ≡ map (λ v. (mark_at l.self.marks.items v).place) (take l.vertex-index l.reached);
}
