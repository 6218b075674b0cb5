use Rattle.std.proofs.Common.{◌≡◌, ◌+◌, ◌↔◌, ℕ, [], ◌∷◌, take, drop}
use Rattle.st_model.specs.Arborescence.{GrowsIn, reached_from}
use Rattle.st_model.specs.Lists.{has}
use Rattle.arborescence.specs.DiNetwork.{di_ground}
use Rattle.arborescence.proofs.judge.grown.Given as goal

-- the arcs so far have grown, and what is left decides
abbrev pub invariant-loop-tail : goal.invariant-loop-tail
invariant-loop-tail l = record {
  count : l.reached.count ≡ l.instance.n + 1;
  decides : GrowsIn (di_ground l.instance) (l.instance.root ∷ []) l.arcs ↔ GrowsIn (di_ground l.instance) (reached_from (l.instance.root ∷ []) (take l.tail-index l.arcs)) (drop l.tail-index l.arcs);
  same : (v : ℕ) → has l.reached.members v ≡ has (reached_from (l.instance.root ∷ []) (take l.tail-index l.arcs)) v;
}
