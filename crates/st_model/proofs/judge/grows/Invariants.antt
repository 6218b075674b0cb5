use Rattle.std.proofs.Common.{◌≡◌, ◌+◌, ◌↔◌, ℕ, List, take, drop, vec_len}
use Rattle.st_model.specs.Arborescence.{Grows, reached_from}
use Rattle.st_model.specs.Marks.{AreMarks}
use Rattle.st_model.proofs.judge.grows.Given as goal

-- the arcs so far have grown, and what is left decides
abbrev pub invariant-loop-arc : goal.invariant-loop-arc
invariant-loop-arc l = record {
  long : vec_len l.marks ≡ l.instance.n + 1;
  decides : (r : List ℕ) → AreMarks l.instance.n l.initial.marks.items r → Grows l.instance r l.arcs ↔ Grows l.instance (reached_from r (take l.arc-index l.arcs)) (drop l.arc-index l.arcs);
  marked : (r : List ℕ) → AreMarks l.instance.n l.initial.marks.items r → AreMarks l.instance.n l.marks.items (reached_from r (take l.arc-index l.arcs));
}
