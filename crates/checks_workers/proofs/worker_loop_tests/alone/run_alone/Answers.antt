use Rattle.std.proofs.Common.{rules, ◌≡◌, ◌∷◌, ◌++◌, [], ℕ, List, None, false, arith, subst}
use Rattle.std.specs.Prelude.{All}
use Rattle.std.proofs.lemmas.List.Elements.{All-head, All-tail}
use Rattle.incumbent.specs.Seat.{Known as Sight, fresh as new_sight}
use Rattle.open_ledger.specs.Seat.{Known as Account, fresh as new_account}
use Rattle.worker_loop.specs.declared.team.Slot.{Slot}
use Rattle.worker_loop.proofs.Searching.{unused_one}
use Rattle.checks_workers.proofs.worker_loop_tests.alone.run_alone.Goals as goal

last_of : {A : Type 0} (F : A → Type 0) (xs : List A) (x : A) → All F (xs ++ x ∷ []) → F x
last_of F [] x all = All-head F x [] all
last_of F (y ∷ ys) x all = last_of F ys x (All-tail F y (ys ++ x ∷ []) all)

pub run-requires-clause-ready : goal.run-requires-clause-ready
run-requires-clause-ready g c κs within =
    let L = c.in_ok-_ledger._ledger.ledger in
    let M = c.in_ok-_incumbent._incumbent.incumbent in
    let w = c.of-worker.result in
    let s : Slot g.row.Q.Denot = record { worker = w; segment = None } in
    let accounts : c.in_ok-_ledger.accounts.items ≡ c.pop-2.new.self.items ++ c.in-Some-pop.account ∷ [] = search rules in
    let sights : c.in_ok-_incumbent.sights.items ≡ c.pop-3.new.self.items ++ c.in-Some-pop-2.sight ∷ [] = search rules in
    let account : c.in-Some-pop.account ≡ new_account L 100 = last_of (λ (u : Account). u ≡ new_account L 100) c.pop-2.new.self.items c.in-Some-pop.account
    (subst (All (λ (u : Account). u ≡ new_account L 100)) accounts c.in_ok-_ledger.ensures.seats) in
    let sight : c.in-Some-pop-2.sight ≡ new_sight M c.args.first = last_of (λ (m : Sight). m ≡ new_sight M c.args.first) c.pop-3.new.self.items c.in-Some-pop-2.sight
    (subst (All (λ (m : Sight). m ≡ new_sight M c.args.first)) sights c.in_ok-_incumbent.ensures.seats) in
    let account_is : w.ledger ≡ new_account L 100 = search rules in
    let sight_is : w.best ≡ new_sight M g.Q.Aim.start = subst (λ (n : ℕ). w.best ≡ new_sight M n) c.requires.first (search rules) in
    record {
      whole = c.requires.whole;
      aim = c.requires.aim;
      unused = unused_one {links = false} L M 100 g.Q.Aim.start 1 0 s (omega arith) (record { seat_is = search rules; workers_are = search rules; links_are = search rules; next = search rules }) account_is sight_is;
    }
