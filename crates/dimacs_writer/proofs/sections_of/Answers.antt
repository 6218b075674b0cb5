use Rattle.dimacs_writer.proofs.Joined.{◌then◌}
use Rattle.dimacs_writer.proofs.sections_of.Goals as goal

pub returns : goal.returns
returns c =
    let remark = rw c.new-text.ensures.bytes at c.in_ok-put_remark.ensures in
    let tree = rw (c.deref.ensures.value, c.deref-2.ensures.value) at c.in_ok-put_tree.ensures in
    record {
      vertices = c.in_ok-vertices.vertices.items;
      edges = c.in_ok-edges.edges.items;
      vertices_of_tree = c.in_ok-vertices.ensures;
      edges_of_tree = c.in_ok-edges.ensures;
      written = remark then c.in_ok-put_solutions.ensures then c.in_ok-put_run.ensures then tree;
    }
