use Rattle.std.proofs.Common.{ap, ◌∙◌}
use Rattle.st_model.specs.Lists.{up_to}
use Rattle.reductions.proofs.Starting.{whole_work}
use Rattle.reductions.proofs.work.Work.of.Goals as goal

pub returns-clause-work : goal.returns-clause-work
returns-clause-work c =
    whole_work (record { reduced = c.in_ok-of.field-0; steps = c.new.result; queue = c.in_ok-all_vertices.field-0 }) c.args.instance.now c.vertices.ensures.instance c.in_ok-of.ensures c.new.ensures.items (c.in_ok-all_vertices.ensures ∙ ap up_to c.vertices.ensures.count)
