use Rattle.branching.specs.Node.{IsNode}
use Rattle.search_core.proofs.NodeLists.{found_node}
use Rattle.search_core.proofs.search.Search.held.Goals as goal

pub returns-in-Some-clause-node : goal.returns-in-Some-clause-node
returns-in-Some-clause-node c =
    rw (← c.self.view_is) (found_node (λ m. IsNode c.self.inside.instance m.node) c.self.inside.nodes c.in-Some.id c.find.result c.self.invariant.sound.nodes c.find.ensures)
