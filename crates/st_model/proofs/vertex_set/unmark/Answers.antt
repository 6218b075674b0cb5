use Rattle.st_model.proofs.Marked.{IsMarked-drop, IsMarked-at}
use Rattle.st_model.proofs.vertex_set.unmark.Goals as goal

pub bounds-marks-member : goal.bounds-marks-member
bounds-marks-member c = IsMarked-at _ _ _ c.loop-member-test.true c.loop-member.invariant

pub loop-member-preserved : goal.loop-member-preserved
loop-member-preserved c =
    IsMarked-drop _ _ _ c.loop-member-test.true c.loop-member.invariant (IsMarked-at _ _ _ c.loop-member-test.true c.loop-member.invariant)
