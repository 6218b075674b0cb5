use Rattle.std.proofs.Common.{sym, ◌∙◌}
use Rattle.st_model.proofs.Putting.{put_new, put_at, ends_set, kept_where_present}
use Rattle.st_model.proofs.build.put.Goals as goal

pub returns-in_ok-push-clause-links : goal.returns-in_ok-push-clause-links
returns-in_ok-push-clause-links c =
    c.in_ok-push.ensures.items ∙ put_new c.args.links.now.items c.args.pairs.now.keys c.args.link _ _ c.requires c.min-low.ensures c.max-high.ensures (sym c.if-is_new.true ∙ c.in_ok-index.ensures.added)

pub returns-else-is_new-clause-links : goal.returns-else-is_new-clause-links
returns-else-is_new-clause-links c =
    put_at c.args.links.now.items c.args.pairs.now.keys c.args.link _ _ c.requires c.min-low.ensures c.max-high.ensures c.in_ok-index.index c.index_mut-kept.result.now _ (sym c.if-is_new.false ∙ c.in_ok-index.ensures.added) c.in_ok-index.ensures.index c.index_mut-kept.ensures.value c.min-kept.ensures

pub returns-else-is_new-clause-pairs : goal.returns-else-is_new-clause-pairs
returns-else-is_new-clause-pairs c =
    c.in_ok-index.ensures.keys ∙ kept_where_present _ _ _ (sym c.if-is_new.false ∙ c.in_ok-index.ensures.added) ∙ c.requires
    ∙ sym (ends_set c.args.links.now.items c.in_ok-index.index c.index_mut-kept.result.now _ c.index_mut-kept.ensures.value)
