use Rattle.std.proofs.Common.{vec_len, All}
use Rattle.st_model.specs.Branch.{IsVertexSet}
use Rattle.node_work.proofs.repairing.borne.Given as goal

abbrev pub invariant-loop-cut : goal.invariant-loop-cut
invariant-loop-cut l = record {
  waiting : All (λ c. IsVertexSet l.place.whole.now.instance.n c.set) l.waiting.items;
  cuts : All (λ c. IsVertexSet l.place.whole.now.instance.n c.set) l.cuts.items;
}

abbrev pub decreases-loop-cut : goal.decreases-loop-cut
decreases-loop-cut l = vec_len l.waiting
