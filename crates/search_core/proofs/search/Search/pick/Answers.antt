use Rattle.search_core.specs.declared.event.Event.TheVariants.{Pick}
use Rattle.search_core.specs.Seen.{state_of}
use Rattle.search_core.proofs.Keeping.{kept_after}
use Rattle.search_core.proofs.search.Search.pick.Goals as goal

pub invariant_of-self : goal.invariant_of-self
invariant_of-self c =
    rw (c.set_place.ensures, c.hold.ensures) (kept_after (state_of c.self.inside) (Pick c.args.w c.args.id) c.self.invariant (rw (← c.self.view_is) at c.requires))
