use Rattle.std.proofs.Common.{[], ◌∷◌, ◌++◌, take, append_assoc}
use Rattle.std.proofs.lemmas.List.{take_more}
use Rattle.certificate_log.proofs.Finding.{with_node}
use Rattle.certificate_log.proofs.standings.Standings.add_waiting.Goals as goal

pub loop-node-preserved : goal.loop-node-preserved
loop-node-preserved c = λ ds ns finds.
    let nodes = c.args.nodes.now in
    let i = c.loop-node.node-index in
    rw (take_more nodes i c.node-item.result c.loop-node-test.true, ← c.node-item.is, ← append_assoc ns (take i nodes) (c.node-item.result ∷ []))
    (with_node ds (ns ++ take i nodes) c.loop-node.self c.add.new.self _ (c.loop-node.invariant ds ns finds) c.in_ok-add.ensures)
