use Rattle.std.proofs.Common.{arith}
use Rattle.graph_store.proofs.Reading.{few_neighbours}
use Rattle.graph_store.proofs.store.Store.degree.Goals as goal

pub overflow_cast-result : goal.overflow_cast-result
overflow_cast-result c =
    let few = few_neighbours c.args.self.now.network c.args.vertex c.neighbours.result.now c.neighbours.ensures.halves in
    let bound = c.neighbours.ensures.graph.instance.few_vertices in
    omega arith
