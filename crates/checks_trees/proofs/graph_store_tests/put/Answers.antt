use Rattle.std.proofs.Common.{arith}
use Rattle.graph_store.proofs.PutLinks.{total-put_link}
use Rattle.checks_trees.proofs.graph_store_tests.put.Goals as goal

pub put_link-requires-clause-amount : goal.put_link-requires-clause-amount
put_link-requires-clause-amount c =
    let more = total-put_link c.args.store.now.network.links (record { a = c.args.a; b = c.args.b; cost = c.args.cost }) in
    let fits = c.requires.amount in
    omega arith
