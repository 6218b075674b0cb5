use Rattle.std.proofs.Common.{◌+◌, ◌*◌}
use Rattle.log_format.proofs.write.+apart.Given as goal

abbrev pub decreases-with_lines : goal.decreases-with_lines
decreases-with_lines g l = 2 * l.threads + 1

abbrev pub decreases-others : goal.decreases-others
decreases-others g l = 2 * l.threads
