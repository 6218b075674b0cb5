use Rattle.std.proofs.Common.{◌+◌, ◌*◌, length}
use Rattle.better_trees.proofs.candidate.+apart.Given as goal

abbrev pub decreases-grow_apart : goal.decreases-grow_apart
decreases-grow_apart g l = 2 * length l.candidates.now

abbrev pub decreases-others : goal.decreases-others
decreases-others g l = 2 * length l.rest.now + 1
