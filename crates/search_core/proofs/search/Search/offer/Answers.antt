use Rattle.search_core.specs.declared.event.Event.TheVariants.{Offer}
use Rattle.search_core.specs.Seen.{state_of}
use Rattle.search_core.proofs.Keeping.{kept_after}
use Rattle.search_core.proofs.search.Search.offer.Goals as goal

pub invariant_of-self : goal.invariant_of-self
invariant_of-self c =
    rw (c.offer.ensures, c.min-self-inside.ensures) (kept_after (state_of c.self.inside) (Offer c.args.w c.args.value) c.self.invariant (rw (← c.self.view_is) at c.requires))
