use Rattle.std.proofs.Common.{◌-◌, ◌≤◌, length}
use Rattle.std.specs.Io.KnownBytes.{Consumes}
use Rattle.st_edge.proofs.disk_shelf.read_within.Given as goal

abbrev pub invariant-loop-text : goal.invariant-loop-text
invariant-loop-text g l =
    (length l.text.items ≤ l.limit)
    × Consumes (g.S.Read.remaining l.initial.source) (g.S.Read.remaining l.source) l.text.items

abbrev pub decreases-loop-text : goal.decreases-loop-text
decreases-loop-text g l = l.limit - length l.text.items
