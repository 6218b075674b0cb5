use Rattle.std.proofs.Common.{◌≡◌, ◌+◌, ◌≤◌, length}
use Rattle.log_format.specs.Text.{Begins}
use Rattle.log_format.proofs.WholeLines.{IsReadUpTo}
use Rattle.log_format.proofs.read.read_lines.Given as goal

abbrev pub invariant-loop-line : goal.invariant-loop-line
invariant-loop-line l = record {
  read : IsReadUpTo l.bytes l.reader l.rest;
  count : l.lines ≡ length l.reader;
  few : l.lines + length l.rest ≤ length l.bytes;
  begun : Begins l.reader;
}

abbrev pub decreases-loop-line : goal.decreases-loop-line
decreases-loop-line l = length l.rest
