use Rattle.search_core.specs.Complete.{records}
use Rattle.worker_loop.proofs.Allowed.{at_vertices}
use Rattle.worker_loop.proofs.Beginning.{reaches_leaves, root_sound}
use Rattle.worker_loop.proofs.running.run_all.Goals as goal

pub searched-requires-clause-root : goal.searched-requires-clause-root
searched-requires-clause-root g c _ _ =
    let I = c.args.whole.now.instance in
    let R = c.args.branch.now in
    rw c.no_cuts-packing.ensures (root_sound I R c.requires.branch (reaches_leaves I R c.args.start.now c.requires.branch c.requires.tree c.requires.reaches))

pub returns-clause-sites : goal.returns-clause-sites
returns-clause-sites g c none = at_vertices c.args.limits.links none (records c.in_ok-gathered.gathered) (rw c.seated.ensures.links at c.in_ok-gathered.ensures.sites)
