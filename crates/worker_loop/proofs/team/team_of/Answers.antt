use Rattle.std.proofs.Common.{rules, arith, ◌≡◌, ◌∷◌, ◌++◌, [], ℕ, ◌+◌, List, None, length, length-append, ap, ◌∙◌, subst, sym}
use Rattle.worker_loop.specs.declared.team.Slot.{Slot}
use Rattle.worker_loop.specs.Slots.{AreSeated, IsSeated, account_of, pass_of, sight_of}
use Rattle.worker_loop.proofs.Members.{made_of_next, seated_push, used_all}
use Rattle.worker_loop.proofs.team.team_of.Goals as goal

pub loop-seat-preserved : goal.loop-seat-preserved
loop-seat-preserved g c =
    let i = c.loop-seat.invariant in
    let team = c.loop-seat.team.items in
    let w = c.of.result in
    let s : Slot g.row.Q.Denot = record { worker = w; segment = None } in
    let more : c.push.new.self.items ≡ team ++ s ∷ [] = search rules in
    let passes : c.loop-seat.passes.rest.items ≡ c.in-Some.pass ∷ c.next.new.self.rest.items = search rules in
    let accounts : c.loop-seat.accounts.rest.items ≡ c.in-Some-next.account ∷ c.next-in-loop-seat.new.self.rest.items = search rules in
    let sights : c.loop-seat.sights.rest.items ≡ c.in-Some-next-2.sight ∷ c.next-in-loop-seat-2.new.self.rest.items = search rules in
    let pass : w.pass ≡ c.in-Some.pass = search rules in
    let account : w.ledger ≡ c.in-Some-next.account = search rules in
    let sight : w.best ≡ c.in-Some-next-2.sight = search rules in
    let seat : w.seat ≡ c.loop-seat.seat = search rules in
    let workers : w.workers ≡ c.args.workers = search rules in
    let links : w.links ≡ c.args.links = search rules in
    let next : w.next ≡ 1 + c.loop-seat.seat = search rules in
    let here : 0 + length team ≡ c.loop-seat.seat = omega (arith, i.count) in
    let one : IsSeated c.args.workers c.args.links (0 + length team) s = subst (λ (k : ℕ). IsSeated c.args.workers c.args.links k s) (sym here) (record { seat_is = seat; workers_are = workers; links_are = links; next = next }) in
    record {
      count = ap (λ (ss : List (Slot g.row.Q.Denot)). length ss) more ∙ (length-append team (s ∷ []) ∙ ap (λ (k : ℕ). k + 1) i.count);
      seats = subst (AreSeated c.args.workers c.args.links 0) (sym more) (seated_push c.args.workers c.args.links 0 team s i.seats one);
      pass_items = made_of_next pass_of team c.push.new.self.items s c.loop-seat.passes.rest.items c.next.new.self.rest.items c.args.passes.items c.in-Some.pass more passes pass i.pass_items;
      account_items = made_of_next account_of team c.push.new.self.items s c.loop-seat.accounts.rest.items c.next-in-loop-seat.new.self.rest.items c.args.accounts.items c.in-Some-next.account more
          accounts account i.account_items;
      sight_items = made_of_next sight_of team c.push.new.self.items s c.loop-seat.sights.rest.items c.next-in-loop-seat-2.new.self.rest.items c.args.sights.items c.in-Some-next-2.sight more sights
          sight i.sight_items;
    }

pub returns-clause-passes : goal.returns-clause-passes
returns-clause-passes g c =
    let i = c.loop-seat.invariant in
    let all : length c.loop-seat.team.items ≡ c.args.workers = omega (arith, i.count) in
    used_all pass_of c.loop-seat.team.items c.loop-seat.passes.rest.items c.args.passes.items c.args.workers i.pass_items all c.requires.passes

pub returns-clause-accounts : goal.returns-clause-accounts
returns-clause-accounts g c =
    let i = c.loop-seat.invariant in
    let all : length c.loop-seat.team.items ≡ c.args.workers = omega (arith, i.count) in
    used_all account_of c.loop-seat.team.items c.loop-seat.accounts.rest.items c.args.accounts.items c.args.workers i.account_items all c.requires.accounts

pub returns-clause-sights : goal.returns-clause-sights
returns-clause-sights g c =
    let i = c.loop-seat.invariant in
    let all : length c.loop-seat.team.items ≡ c.args.workers = omega (arith, i.count) in
    used_all sight_of c.loop-seat.team.items c.loop-seat.sights.rest.items c.args.sights.items c.args.workers i.sight_items all c.requires.sights
