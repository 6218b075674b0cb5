use Rattle.search_core.specs.declared.event.Event.TheVariants.{Claim}
use Rattle.search_core.specs.Seen.{state_of}
use Rattle.search_core.proofs.Happened.{after_claim}
use Rattle.search_core.proofs.Keeping.{kept_after, kept_refused}
use Rattle.search_core.proofs.search.Search.claim.Goals as goal

pub invariant_of-self : goal.invariant_of-self
invariant_of-self c =
    rw (c.claim.ensures, c.unwrap_or-id.ensures, c.hand.ensures, ← c.self.view_is) (rw (after_claim (state_of c.self.inside) c.args.w c.if-self.true) at (kept_after (state_of c.self.inside) (Claim c.args.w) c.self.invariant (rw (← c.self.view_is) at c.requires)))

pub invariant_of-self-else-self : goal.invariant_of-self-else-self
invariant_of-self-else-self c = rw c.refuse.ensures (kept_refused (state_of c.self.inside) c.args.w c.self.invariant)
