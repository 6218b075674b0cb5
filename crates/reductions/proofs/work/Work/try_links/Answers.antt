use Rattle.std.proofs.Common.{◌||◌, get_or, take, refl, sym, ap, subst, ◌∙◌}
use Rattle.std.proofs.lemmas.List.{take_more, take_all}
use Rattle.st_model.specs.declared.link.Link.{Link}
use Rattle.st_model.specs.Network.{Network}
use Rattle.reductions.specs.Working.{HasTried}
use Rattle.reductions.proofs.Passing.{passed_none, passed_step}
use Rattle.reductions.proofs.work.Work.try_links.Goals as goal

nothing : Link
nothing = record { a = 0; b = 0; cost = 0 }

pub loop-link-init : goal.loop-link-init
loop-link-init c = record { work = c.requires.work; first = refl; finder = refl; tried = passed_none c.args.self.now c.args.most }

pub drops-requires-clause-finder : goal.drops-requires-clause-finder
drops-requires-clause-finder c = c.loop-link.invariant.finder ∙ c.requires.finder ∙ sym (ap (λ (I : Network). I.n) c.loop-link.invariant.first)

pub loop-link-preserved : goal.loop-link-preserved
unfolding nothing
loop-link-preserved c =
    let links = c.args.links.now in
    let i = c.loop-link.link-index in
    record {
      work = c.in_ok-dropped.ensures.work;
      first = c.drops.ensures.first ∙ c.loop-link.invariant.first;
      finder = c.drops.ensures.finder ∙ c.loop-link.invariant.finder;
      tried = subst (HasTried c.args.self.now c.drops.new.self (c.loop-link.any || c.in_ok-dropped.dropped) c.args.most) (sym (take_more links i nothing c.loop-link-test.true))
          (passed_step c.args.self.now c.loop-link.self c.drops.new.self c.loop-link.any c.in_ok-dropped.dropped c.args.most (take i links) (get_or links i nothing) c.in_ok-dropped.ensures.some c.in_ok-dropped.ensures.none c.loop-link.invariant.tried);
    }

pub returns-clause-tried : goal.returns-clause-tried
returns-clause-tried c =
    subst (HasTried c.args.self.now c.loop-link.self c.loop-link.any c.args.most) (take_all c.loop-link.link-index c.args.links.now c.loop-link-test.false) c.loop-link.invariant.tried
