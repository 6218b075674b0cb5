use Rattle.std.proofs.Common.{sym, ◌∙◌}
use Rattle.st_model.proofs.Putting.{kept_where_present}
use Rattle.arborescence.proofs.Putting.{put_new, put_at, ends_set}
use Rattle.arborescence.proofs.build.put.Goals as goal

pub returns-in_ok-push-clause-arcs : goal.returns-in_ok-push-clause-arcs
returns-in_ok-push-clause-arcs c =
    c.in_ok-push.ensures.items ∙ put_new c.args.arcs.now.items c.args.pairs.now.keys c.args.arc c.requires (sym c.if-is_new.true ∙ c.in_ok-index.ensures.added)

pub returns-else-is_new-clause-arcs : goal.returns-else-is_new-clause-arcs
returns-else-is_new-clause-arcs c =
    put_at c.args.arcs.now.items c.args.pairs.now.keys c.args.arc c.requires c.in_ok-index.index c.index_mut-kept.result.now _ (sym c.if-is_new.false ∙ c.in_ok-index.ensures.added) c.in_ok-index.ensures.index c.index_mut-kept.ensures.value c.min-kept.ensures

pub returns-else-is_new-clause-pairs : goal.returns-else-is_new-clause-pairs
returns-else-is_new-clause-pairs c =
    c.in_ok-index.ensures.keys ∙ kept_where_present _ _ _ (sym c.if-is_new.false ∙ c.in_ok-index.ensures.added) ∙ c.requires
    ∙ sym (ends_set c.args.arcs.now.items c.in_ok-index.index c.index_mut-kept.result.now _ c.index_mut-kept.ensures.value)
