use Rattle.std.proofs.Common.{rules, arith, ◌≡◌, ℕ, true}
use Rattle.std.specs.Option.{option_to_list}
use Rattle.worker_loop.specs.Progress.{moment}
use Rattle.worker_loop.proofs.Progressing.{granted_so, worked}
use Rattle.worker_loop.proofs.worker.Worker.turn.Goals as goal

unrefused : (a b c : ℕ) → a ≡ b → b ≡ c → c ≡ 0 → a ≡ 0
unrefused a b c e f h = omega arith

pub returns-clause-turned : goal.returns-clause-turned
returns-clause-turned g c p h =
    let w = c.args.self.now in
    let yes : c.claim.result ≡ true = search rules in
    let claim = granted_so w.ledger c.see_halt.new.self c.claim.new.self _ c.claim.result c.see_halt.ensures.seen yes c.claim.ensures.claimed in
    let on = c.in_ok-half.ensures.worked in (
      worked g.Q.Aim.instance g.Q.Aim.branch g.Q.Aim.start w.seat w.workers p w.pass w.ledger c.claim.new.self w.best w.next c.args.work.now c.args.node (moment c.work_on.new.self c.work_on.new.work)
          (option_to_list c.in_ok-half.half) on.0
          claim on.1 h,
      unrefused c.work_on.new.self.ledger.tally.refused c.claim.new.self.tally.refused w.ledger.tally.refused on.1.refused claim.refused c.requires.unrefused,
    )
