use Rattle.std.proofs.Common.{map, ap, ◌∙◌}
use Rattle.node_pool.specs.Ends.{queue_of}
use Rattle.node_pool.proofs.TakingApart.{put_at}
use Rattle.node_pool.proofs.closing.unseat.Goals as goal

pub returns-clause-side : goal.returns-clause-side
returns-clause-side g c = rw (← c.pass.view_is) (ap (map queue_of) c.in_ok-insert.ensures.items ∙ put_at c.args.place c.pass.inside.others.items c.in_ok-end.end c.pass.inside.own.queue c.in_ok-end.ensures.new.0)
