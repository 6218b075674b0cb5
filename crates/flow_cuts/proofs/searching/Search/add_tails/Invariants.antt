use Rattle.std.proofs.Common.{◌≡◌, ℕ, ◌++◌, List}
use Rattle.std.specs.Prelude.{IsTrue}
use Rattle.st_model.specs.Lists.{has}
use Rattle.flow_cuts.specs.Sending.{IsTree, sent}
use Rattle.flow_cuts.proofs.Trees.{IsTakenUpTo}
use Rattle.flow_cuts.proofs.searching.Search.add_tails.Given as goal

abbrev pub invariant-loop-arc : goal.invariant-loop-arc
invariant-loop-arc l = record {
  count : l.self.reaching.count ≡ l.fn.self.reaching.count;
  tree : (q : ℕ) → IsTree l.arcs (sent l.flow) l.capacity q l.fn.self → IsTrue (has l.fn.self.reaching.members l.head) → IsTree l.arcs (sent l.flow) l.capacity q l.self;
  longer : (more : List ℕ) × (l.self.reaching.members ≡ l.fn.self.reaching.members ++ more);
  all : IsTakenUpTo (sent l.flow) l.capacity l.head l.row l.arc-index l.self.reaching.members;
}
