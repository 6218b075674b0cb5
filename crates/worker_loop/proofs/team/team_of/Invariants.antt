use Rattle.std.proofs.Common.{◌≡◌, ◌++◌, length, map}
use Rattle.worker_loop.specs.Slots.{AreSeated, account_of, pass_of, sight_of}
use Rattle.worker_loop.proofs.team.team_of.Given as goal

abbrev pub invariant-loop-seat : goal.invariant-loop-seat
invariant-loop-seat g l = record {
  count : length l.team.items ≡ l.seat;
  seats : AreSeated l.workers l.links 0 l.team.items;
  pass_items : map pass_of l.team.items ++ l.passes.rest.items ≡ l.fn.passes.items;
  account_items : map account_of l.team.items ++ l.accounts.rest.items ≡ l.fn.accounts.items;
  sight_items : map sight_of l.team.items ++ l.sights.rest.items ≡ l.fn.sights.items;
}
