use Rattle.search_core.specs.Seen.{state_of}
use Rattle.search_core.proofs.Accounting.{gathered_of, settled_complete}
use Rattle.search_core.proofs.search.Search.segments.Goals as goal

pub returns-clause-accounts : goal.returns-clause-accounts
returns-clause-accounts c =
    rw (← c.self.view_is, c.of.ensures, c.of-2.ensures, c.in_ok-segments.ensures, c.in_ok-queued.ensures, c.as_slice-nodes.ensures, c.deref.ensures.value) (gathered_of (state_of c.self.inside) c.self.invariant)

pub returns-clause-complete : goal.returns-clause-complete
returns-clause-complete c settled =
    rw (← c.self.view_is, c.of.ensures, c.of-2.ensures, c.in_ok-segments.ensures, c.in_ok-queued.ensures, c.as_slice-nodes.ensures, c.deref.ensures.value) (settled_complete (state_of c.self.inside) c.self.invariant (rw (← c.self.view_is) at settled))
