use Rattle.std.proofs.Common.{rules, ◌++◌, ◌∷◌, []}
use Rattle.std.proofs.lemmas.Result.{err_from_is_err_and}
use Rattle.graph_store.proofs.ListLemmas.{halves_at-written, halves_at-unwritten}
use Rattle.graph_store.proofs.lists.push_half.Goals as goal

pub returns-in_err-push-clause-err : goal.returns-in_err-push-clause-err
returns-in_err-push-clause-err c = let p = err_from_is_err_and c.from_residual.result c.from_residual.ensures.1 in rw p.1 (halves_at-unwritten c.args.lists.now.items c.args.at c.index_mut.result.now c.push.new.self (search rules) c.index_mut.ensures.value c.in_err-push.ensures.items)

pub returns-clause-ok : goal.returns-clause-ok
returns-clause-ok c = halves_at-written c.args.lists.now.items c.args.at c.index_mut.result.now c.push.new.self (λ hs. hs ++ c.args.half ∷ []) (search rules) c.index_mut.ensures.value c.in_ok-push.ensures.items
