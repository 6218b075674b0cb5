use Rattle.std.proofs.Common.{◌≤◌, ◌↔◌, drop}
use Rattle.lift_back.specs.Keeping.{state_of}
use Rattle.lift_back.proofs.Walking.{GoesOn}
use Rattle.lift_back.proofs.rest.Rest.is_detour.Given as goal

-- the walk is a detour just where the rest of it goes on
abbrev pub invariant-loop-next : goal.invariant-loop-next
invariant-loop-next l = record {
  within : l.paid ≤ l.limit;
  goes : GoesOn (state_of l.self).instance l.a l.b l.limit 0 l.a l.inner ↔ GoesOn (state_of l.self).instance l.a l.b l.limit l.paid l.at (drop l.next-index l.inner);
}
