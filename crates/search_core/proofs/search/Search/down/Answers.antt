use Rattle.search_core.specs.declared.event.Event.TheVariants.{Down}
use Rattle.search_core.specs.Seen.{state_of}
use Rattle.search_core.proofs.Keeping.{kept_after}
use Rattle.search_core.proofs.search.Search.down.Goals as goal

pub invariant_of-self : goal.invariant_of-self
invariant_of-self c =
    rw (c.come_down.ensures, c.saturating_sub-self-inside.ensures) (kept_after (state_of c.self.inside) (Down c.args.w) c.self.invariant (rw (← c.self.view_is) at c.requires))
