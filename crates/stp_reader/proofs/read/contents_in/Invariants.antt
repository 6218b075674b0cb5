use Rattle.std.proofs.Common.{◌≡◌, ◌+◌, ◌≤◌, length}
use Rattle.stp_reader.specs.Lines.{word_lines}
use Rattle.stp_reader.specs.Judging.{stated_from, stated}
use Rattle.stp_reader.specs.Reached.{place_of, IsReached}
use Rattle.stp_reader.proofs.read.contents_in.Given as goal

abbrev pub invariant-loop-piece : goal.invariant-loop-piece
invariant-loop-piece l = record {
  decides : stated_from l.mode l.number (place_of l.stage) (word_lines l.rest) ≡ stated l.mode l.bytes;
  reached : IsReached l.stage;
  few : l.number + length l.rest ≤ length l.bytes + 1;
}

abbrev pub decreases-loop-piece : goal.decreases-loop-piece
decreases-loop-piece l = length l.rest
