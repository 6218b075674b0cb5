use Rattle.std.proofs.Common.{◌≡◌, drop}
use Rattle.search_core.specs.Complete.{least_found}
use Rattle.resuming.specs.Finding.{IsKept}
use Rattle.resuming.proofs.known.Known.after.Given as goal

abbrev pub invariant-loop-segment : goal.invariant-loop-segment
invariant-loop-segment l = record {
  least : least_found l.instance l.known.least (drop l.segment-index l.segments) ≡ least_found l.instance l.fn.self.least l.segments;
  kept : IsKept l.instance l.segments l.fn.self.least l.fn.self.tree l.known.least l.known.tree;
}
