use Rattle.std.proofs.Common.{ap, ◌∙◌}
use Rattle.st_model.specs.Network.{Network}
use Rattle.reductions.proofs.Passing.{tried_all}
use Rattle.reductions.proofs.work.Work.pass.Goals as goal

pub returns-clause-none : goal.returns-clause-none
returns-clause-none c =
    tried_all c.args.self.now c.try_links.new.self c.in_ok-any.any c.deref.result.now
    (c.deref.ensures.value ∙ c.in_ok-links.ensures ∙ ap (λ (I : Network). I.links) c.store.ensures.network) c.in_ok-any.ensures.tried
