use Rattle.search_core.specs.declared.event.Event.TheVariants.{See}
use Rattle.search_core.specs.Seen.{state_of}
use Rattle.search_core.proofs.Keeping.{kept_after}
use Rattle.search_core.proofs.search.Search.see.Goals as goal

pub invariant_of-self : goal.invariant_of-self
invariant_of-self c =
    rw (c.see.ensures) (kept_after (state_of c.self.inside) (See c.args.w) c.self.invariant (rw (← c.self.view_is) at c.requires))
