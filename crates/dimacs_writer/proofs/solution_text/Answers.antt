use Rattle.dimacs_writer.specs.Solution.{solution_text_of}
use Rattle.dimacs_writer.proofs.Joined.{◌then◌, then_text}
use Rattle.dimacs_writer.proofs.solution_text.Goals as goal

pub returns : goal.returns
unfolding solution_text_of
returns c =
    let said = c.in_ok-text.ensures in
    let whole = rw c.as_bytes.ensures.value at c.in_ok-extend_from_slice.ensures.items in
    record {
      vertices = said.vertices;
      edges = said.edges;
      vertices_of_tree = said.vertices_of_tree;
      edges_of_tree = said.edges_of_tree;
      text = (then_text _ (c.in_ok-out.ensures then c.in_ok-put_name.ensures) said.written whole).bytes;
    }
