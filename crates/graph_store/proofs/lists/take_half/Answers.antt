use Rattle.std.proofs.Common.{rules, ap, sym, ◌∙◌, slice_get, List}
use Rattle.graph_store.specs.declared.half.Half.{Half}
use Rattle.graph_store.proofs.ListLemmas.{halves_at-read, halves_at-here, halves_at-others, slice_get-item, slice_get-swap_remove}
use Rattle.graph_store.proofs.lists.take_half.Goals as goal

pub returns-clause-moved : goal.returns-clause-moved
returns-clause-moved c =
    let here = halves_at-here c.args.lists.now.items c.args.at c.swap_remove.new.self (search rules) in
    c.copied.ensures ∙ slice_get-item c.deref.result.now c.args.place c.get.result c.get.ensures.lookup.0 c.get.ensures.lookup.1 ∙ ap (λ (hs : List Half). slice_get hs c.args.place) (c.deref.ensures.value ∙ sym here)

pub returns-clause-here : goal.returns-clause-here
returns-clause-here c =
    let here = halves_at-here c.args.lists.now.items c.args.at c.swap_remove.new.self (search rules) in
    let read = halves_at-read c.args.lists.now.items c.args.at c.index_mut-list.result.now (search rules) c.index_mut-list.ensures.value in
    rw (here, read, c.swap_remove.ensures.items) (λ k. slice_get-swap_remove c.index_mut-list.result.now.items c.args.place c.swap_remove.result k (rw read at c.requires.place))

pub returns-clause-others : goal.returns-clause-others
returns-clause-others c v = halves_at-others c.args.lists.now.items c.args.at c.swap_remove.new.self v (search rules)
