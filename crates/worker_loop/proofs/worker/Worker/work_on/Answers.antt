use Rattle.std.proofs.Common.{rules, ◌≡◌, ℕ, ◌+◌, subst}
use Rattle.st_model.specs.Network.{Network}
use Rattle.incumbent.specs.Seat.{Known as Sight}
use Rattle.open_ledger.specs.Seat.{Known as Account}
use Rattle.node_pool.specs.Pool.{Station}
use Rattle.search_core.specs.declared.done.Done.TheVariants as recorded
use Rattle.better_trees.specs.Better.{least_after}
use Rattle.node_work.specs.declared.step.End.TheVariants.{Close, Split}
use Rattle.worker_loop.specs.declared.work.Work.{Work}
use Rattle.worker_loop.specs.Progress.{Adopts, IsClosed, IsHalved, as_of, moment}
use Rattle.node_work.specs.Step.{IsEnd, IsStep}
use Rattle.worker_loop.proofs.WorkedOn.{closed_on, split_on}
use Rattle.worker_loop.proofs.worker.Worker.work_on.Goals as goal

pub returns-in_ok-close-in-Close-clause-worked : goal.returns-in_ok-close-in-Close-clause-worked
returns-in_ok-close-in-Close-clause-worked g c =
    let I = g.Q.Aim.instance in
    let w = c.args.self.now in
    let k = c.args.work.now in
    let r = c.see-work.result in
    let v = c.adopt.new.self in
    let k' = c.adopt.new.work in
    let found = c.in_ok-better.field-0 in
    let better = found.better in
    let step = subst (λ (J : Network). IsStep J c.args.node r w.links found) c.requires.whole c.in_ok-better.ensures in
    let end_is : found.end ≡ Close c.in-Close.packing = search rules in
    let end = subst (IsEnd I c.args.node (least_after r better) w.links) end_is step.ends in
    let looked : Work = record { done = k.done; best = k.best; seen = r } in
    let adopts = subst (λ (m : Sight). Adopts better m v.best looked k') c.see-work.ensures.seen c.adopt.ensures.adopts in
    let same = c.adopt.ensures.same in
    let P = c.in-Close.packing in
    let m = moment c.close.new.self c.close.new.work in
    let closed = subst (λ (n : ℕ). IsClosed c.args.node.id P (as_of w.pass w.ledger v.best n k') m) same.2
    (subst (λ (q : Station). IsClosed c.args.node.id P (as_of q w.ledger v.best v.next k') m) same.3
    (subst (λ (u : Account). IsClosed c.args.node.id P (as_of v.pass u v.best v.next k') m) same.4 c.in_ok-close-in-Close.ensures.closed)) in (
      recorded.Close c.args.node.id P,
      closed_on I g.Q.Aim.branch g.Q.Aim.start w.seat w.workers r w.links c.args.node w.pass w.ledger w.best v.best w.next k k' m better P c.requires.node
          c.see-work.ensures.at_most step.tree end adopts closed,
      tt,
    )

pub returns-in_ok-half-in-Split-clause-worked : goal.returns-in_ok-half-in-Split-clause-worked
returns-in_ok-half-in-Split-clause-worked g c =
    let I = g.Q.Aim.instance in
    let w = c.args.self.now in
    let k = c.args.work.now in
    let r = c.see-work.result in
    let v = c.adopt.new.self in
    let k' = c.adopt.new.work in
    let found = c.in_ok-better.field-0 in
    let better = found.better in
    let step = subst (λ (J : Network). IsStep J c.args.node r w.links found) c.requires.whole c.in_ok-better.ensures in
    let end_is : found.end ≡ Split c.in-Split.node c.in-Split.at c.in-Split.plan = search rules in
    let end = subst (IsEnd I c.args.node (least_after r better) w.links) end_is step.ends in
    let looked : Work = record { done = k.done; best = k.best; seen = r } in
    let adopts = subst (λ (m : Sight). Adopts better m v.best looked k') c.see-work.ensures.seen c.adopt.ensures.adopts in
    let same = c.adopt.ensures.same in
    let M = c.in-Split.node in
    let at = c.in-Split.at in
    let planned = c.is_some-is_planned.result in
    let half = c.in_ok-half-in-Split.half in
    let m = moment c.split.new.self c.split.new.work in
    let halved = subst (λ (n : ℕ). IsHalved w.workers c.args.node.id M at planned (as_of w.pass w.ledger v.best n k') m half) same.2
    (subst (λ (q : Station). IsHalved w.workers c.args.node.id M at planned (as_of q w.ledger v.best v.next k') m half) same.3
    (subst (λ (u : Account). IsHalved w.workers c.args.node.id M at planned (as_of v.pass u v.best v.next k') m half) same.4
    (subst (λ (n : ℕ). IsHalved n c.args.node.id M at planned (as_of v.pass v.ledger v.best v.next k') m half) same.1 c.in_ok-half-in-Split.ensures.halved))) in (
      recorded.Split c.args.node.id at w.next (w.next + w.workers) M.packing,
      split_on I g.Q.Aim.branch g.Q.Aim.start w.seat w.workers r w.links c.args.node M half at planned w.pass w.ledger w.best v.best w.next k k' m better c.requires.aim.instance c.requires.node c.see-work.ensures.at_most
          c.requires.low step.tree end adopts halved,
      end.allowed,
    )
