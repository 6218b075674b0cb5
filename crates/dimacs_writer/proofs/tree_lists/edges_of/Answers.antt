use Rattle.dimacs_writer.proofs.tree_lists.edges_of.Goals as goal

pub returns : goal.returns
returns c = record {
  ascending = c.put_in_order.ensures.ascending;
  same = λ edge. rw c.in_ok-edges.ensures at (c.put_in_order.ensures.same edge);
}
