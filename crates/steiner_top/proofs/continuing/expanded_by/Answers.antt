use Rattle.std.proofs.Common.{◌≤◌, ◌+◌, arith, rules}
use Rattle.resuming.specs.Resumed.{expanded_by}
use Rattle.steiner_top.proofs.Resuming.{count_fits, count_more}
use Rattle.steiner_top.proofs.continuing.expanded_by.Goals as goal

pub overflow_add-expanded : goal.overflow_add-expanded
overflow_add-expanded c =
    let fits : c.loop-search.expanded + c.search-item.result.gathered.claimed ≤ expanded_by c.args.searches.now = count_fits c.loop-search.expanded c.args.searches.now c.loop-search.search-index c.search-item.result c.loop-search-test.true c.search-item.is c.loop-search.invariant in
    omega (arith, fits, c.requires)

pub loop-search-preserved : goal.loop-search-preserved
loop-search-preserved c = count_more c.loop-search.expanded _ c.args.searches.now c.loop-search.search-index c.search-item.result c.loop-search-test.true c.search-item.is (search rules) c.loop-search.invariant
