use Rattle.instance_gen.proofs.Joined.{◌then◌}
use Rattle.instance_gen.proofs.text.put_graph.Goals as goal

pub returns : goal.returns
returns c =
    let nodes = rw (c.from.ensures, c.vertices.ensures.count) at c.in_ok-put_number.ensures in
    let edges = rw c.links-links.ensures.all at c.in_ok-put_number-2.ensures in
    let links = rw c.links-links.ensures.all at c.in_ok-put_links.ensures in
    c.in_ok-put_header.ensures then c.in_ok-put_pair.ensures then nodes then edges then links then c.in_ok-put_word.ensures
