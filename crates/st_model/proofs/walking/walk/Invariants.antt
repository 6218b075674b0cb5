use Rattle.std.proofs.Common.{◌≡◌, ◌-◌, length}
use Rattle.st_model.proofs.Walked.{IsWalked}
use Rattle.st_model.proofs.walking.walk.Given as goal

abbrev pub invariant-loop-tail : goal.invariant-loop-tail
invariant-loop-tail l =
    record { walked : IsWalked l.heads l.root l.next l.reached.members; count : l.reached.count ≡ length l.heads }

abbrev pub decreases-loop-tail : goal.decreases-loop-tail
decreases-loop-tail l = length l.heads - l.next
