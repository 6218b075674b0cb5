use Rattle.std.proofs.Common.{◌≡◌, drop}
use Rattle.st_model.specs.Arborescence.{IsTree, cost}
use Rattle.st_model.specs.Branch.{ReachesAsTold}
use Rattle.search_core.specs.Complete.{least_found}
use Rattle.steiner_top.proofs.best.cheapest.Given as goal

abbrev pub invariant-loop-segment : goal.invariant-loop-segment
invariant-loop-segment l = record {
  tree : IsTree l.instance l.best;
  reaches : ReachesAsTold l.branch l.best;
  least : least_found l.instance (cost l.instance l.best) (drop l.segment-index l.segments) ≡ least_found l.instance (cost l.instance l.fn.start) l.segments;
}
