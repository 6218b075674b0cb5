use Rattle.std.proofs.Common.{length}
use Rattle.checks_digraph.proofs.prize_transform_tests.+vertex_at.Given as goal

abbrev pub decreases-vertex_at : goal.decreases-vertex_at
decreases-vertex_at l = length l.ends.now
