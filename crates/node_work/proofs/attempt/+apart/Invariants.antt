use Rattle.std.proofs.Common.{◌+◌, ◌*◌, length}
use Rattle.node_work.proofs.attempt.+apart.Given as goal

abbrev pub decreases-make_apart : goal.decreases-make_apart
decreases-make_apart g l = 2 * length l.attempts.now

abbrev pub decreases-others : goal.decreases-others
decreases-others g l = 2 * length l.rest.now + 1
