use Rattle.std.proofs.Common.{ℕ, ◌+◌, ◌<◌, ◌^◌, length, subst, arith}
use Rattle.search_core.specs.declared.event.Event.TheVariants.{Up}
use Rattle.search_core.specs.Seen.{state_of}
use Rattle.search_core.proofs.Keeping.{kept_after}
use Rattle.search_core.proofs.Room.{room_to_open}
use Rattle.search_core.proofs.search.Search.up.Goals as goal

pub overflow_add-self : goal.overflow_add-self
overflow_add-self c =
    let nodes : length c.self.inside.nodes < 2 ^ 63 = subst (λ (n : ℕ). n < 2 ^ 63) c.len.ensures.count c.len.ensures.small in
    let workers : length c.self.inside.workers.items < 2 ^ 63 = omega (arith, c.self.inside.workers.ok.0, c.self.inside.workers.ok.1, c.self.inside.workers.small) in
    let room : c.self.inside.opened + 1 < 2 ^ 64 = room_to_open (state_of c.self.inside) c.self.invariant.counted nodes workers in
    omega arith

pub invariant_of-self : goal.invariant_of-self
invariant_of-self c =
    rw c.await_split.ensures (kept_after (state_of c.self.inside) (Up c.args.w) c.self.invariant (rw (← c.self.view_is) at c.requires))
