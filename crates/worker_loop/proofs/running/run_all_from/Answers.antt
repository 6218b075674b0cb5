use Rattle.search_core.specs.Complete.{records}
use Rattle.worker_loop.proofs.Allowed.{at_vertices}
use Rattle.worker_loop.proofs.Beginning.{node_sound}
use Rattle.worker_loop.proofs.running.run_all_from.Goals as goal

pub searched-requires-clause-root : goal.searched-requires-clause-root
searched-requires-clause-root g c _ _ = node_sound c.args.whole.now.instance c.args.node c.requires.node

pub returns-clause-sites : goal.returns-clause-sites
returns-clause-sites g c none = at_vertices c.args.limits.links none (records c.in_ok-gathered.gathered) (rw c.seated-limits.ensures.links at c.in_ok-gathered.ensures.sites)
