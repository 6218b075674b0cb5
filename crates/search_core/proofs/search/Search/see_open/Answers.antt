use Rattle.search_core.specs.declared.done.End.TheVariants.{OpenZero}
use Rattle.search_core.specs.Seen.{state_of}
use Rattle.search_core.proofs.Keeping.{kept_ended}
use Rattle.search_core.proofs.search.Search.see_open.Goals as goal

pub invariant_of-self : goal.invariant_of-self
invariant_of-self c = rw c.end.ensures (kept_ended (state_of c.self.inside) c.args.w OpenZero c.self.invariant)
