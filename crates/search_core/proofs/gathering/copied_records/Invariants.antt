use Rattle.std.proofs.Common.{◌≡◌, take}
use Rattle.search_core.proofs.gathering.copied_records.Given as goal

abbrev pub invariant-loop-done : goal.invariant-loop-done
invariant-loop-done l = l.copies.items ≡ take l.done-index l.records
