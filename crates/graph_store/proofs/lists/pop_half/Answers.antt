use Rattle.std.proofs.Common.{rules, arith, ap, ◌∙◌, take, length, ◌-◌}
use Rattle.graph_store.proofs.ListLemmas.{halves_at-written}
use Rattle.graph_store.proofs.lists.pop_half.Goals as goal

pub returns-clause-popped : goal.returns-clause-popped
returns-clause-popped c = halves_at-written c.args.lists.now.items c.args.at c.index_mut.result.now c.pop.new.self (λ hs. take (length hs - 1) hs) (search rules) c.index_mut.ensures.value (c.pop.ensures.rest ∙ ap (λ n. take (n - 1) c.index_mut.result.now.items) (omega arith))
