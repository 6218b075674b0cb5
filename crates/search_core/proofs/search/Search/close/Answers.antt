use Rattle.std.proofs.Common.{ℕ, ◌<◌, ◌^◌, length, subst}
use Rattle.search_core.specs.declared.event.Event.TheVariants.{Close}
use Rattle.search_core.specs.Seen.{state_of}
use Rattle.search_core.proofs.Keeping.{kept_after}
use Rattle.search_core.proofs.Early.{up_early}
use Rattle.search_core.proofs.Room.{room_to_close}
use Rattle.search_core.proofs.search.Search.close.Goals as goal

pub invariant_of-self-2 : goal.invariant_of-self-2
invariant_of-self-2 c =
    rw (c.set_place.ensures, c.in_ok-close.ensures.ok, c.unwrap_or-id.ensures, c.hand.ensures, ← c.self.view_is) (kept_after (state_of c.self.inside) (Close c.args.w c.args.packing) c.self.invariant (rw (← c.self.view_is) at c.requires))

pub close-requires-clause-room : goal.close-requires-clause-room
close-requires-clause-room c =
    let nodes : length c.self.inside.nodes < 2 ^ 63 = subst (λ (n : ℕ). n < 2 ^ 63) c.len.ensures.count c.len.ensures.small in
    room_to_close (state_of c.self.inside) c.args.w c.self.invariant.counted nodes (up_early (state_of c.self.inside) c.args.w (rw (← c.self.view_is) at c.requires.early)).worker
