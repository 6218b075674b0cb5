use Rattle.st_model.specs.declared.split_at.SplitAt.TheVariants.{Vertex}
use Rattle.checks_search.proofs.branching_tests.split.Goals as goal

pub returns-in-Ok : goal.returns-in-Ok
returns-in-Ok c =
    let choice = c.in-Some.ensures.some in
    let law = c.halves_are_no_lighter.ensures c.args.instance.now c.args.node (Vertex c.in-Some.vertex) 1 2 c.vertices.ensures.instance c.requires choice.split in
    rw (c.in-Ok.ensures.inside, c.in-Ok.ensures.outside) (law.0.node, law.1.node)
