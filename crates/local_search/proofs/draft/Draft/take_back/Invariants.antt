use Rattle.std.proofs.Common.{vec_len}
use Rattle.local_search.proofs.draft.Draft.take_back.Given as goal

abbrev pub decreases-loop-vertex : goal.decreases-loop-vertex
decreases-loop-vertex l = vec_len l.self.changed
