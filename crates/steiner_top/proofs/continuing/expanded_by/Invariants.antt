use Rattle.std.proofs.Common.{◌≡◌, ◌+◌, drop}
use Rattle.resuming.specs.Resumed.{expanded_by}
use Rattle.steiner_top.proofs.continuing.expanded_by.Given as goal

abbrev pub invariant-loop-search : goal.invariant-loop-search
invariant-loop-search l = l.expanded + expanded_by (drop l.search-index l.searches) ≡ expanded_by l.searches
