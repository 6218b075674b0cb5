use Rattle.std.proofs.Common.{◌≡◌, length}
use Rattle.std.specs.List.{list_any}
use Rattle.stp_reader.specs.Lines.{words}
use Rattle.stp_reader.specs.Words.{is_magic}
use Rattle.stp_reader.proofs.words.has_magic.Given as goal

abbrev pub invariant-loop-word : goal.invariant-loop-word
invariant-loop-word l = list_any is_magic (words l.rest) ≡ list_any is_magic (words l.line)

abbrev pub decreases-loop-word : goal.decreases-loop-word
decreases-loop-word l = length l.rest
