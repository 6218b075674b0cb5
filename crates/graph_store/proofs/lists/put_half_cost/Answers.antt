use Rattle.std.proofs.Common.{rules}
use Rattle.std.specs.Vec.{with_item}
use Rattle.graph_store.proofs.ListLemmas.{halves_at-read, halves_at-here, halves_at-others, slice_get-put_cost}
use Rattle.graph_store.proofs.lists.put_half_cost.Goals as goal

pub returns-clause-here : goal.returns-clause-here
returns-clause-here c =
    let here = halves_at-here c.args.lists.now.items c.args.at (with_item c.index_mut.result.now c.args.place (record { to = c.index_mut-2.result.now.to; cost = c.args.cost })) (search rules) in
    let read = halves_at-read c.args.lists.now.items c.args.at c.index_mut.result.now (search rules) c.index_mut.ensures.value in
    rw (here, read) (λ k. slice_get-put_cost c.index_mut.result.now.items c.args.place c.index_mut-2.result.now c.args.cost k (rw read at c.requires.place) c.index_mut-2.ensures.value)

pub returns-clause-others : goal.returns-clause-others
returns-clause-others c v = halves_at-others c.args.lists.now.items c.args.at (with_item c.index_mut.result.now c.args.place (record { to = c.index_mut-2.result.now.to; cost = c.args.cost })) v (search rules)
