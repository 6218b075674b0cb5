use Rattle.dimacs_writer.proofs.Joined.{◌then◌}
use Rattle.dimacs_writer.proofs.sections.put_tree.Goals as goal

pub returns : goal.returns
returns c =
    let vertices = c.in_ok-put_line.ensures then c.in_ok-put_number.ensures then c.in_ok-put_vertices.ensures in
    let edges = c.in_ok-put_number-2.ensures then c.in_ok-put_edges.ensures in
    vertices then edges then c.in_ok-put_line-2.ensures then c.in_ok-put_line-3.ensures
