use Rattle.std.proofs.Common.{◌≡◌, ◌-◌, length}
use Rattle.st_model.proofs.Walked.{IsWalked}
use Rattle.arborescence.specs.Gathering.{used_into}
use Rattle.arborescence.proofs.gathering.gather.Given as goal

abbrev pub invariant-loop-member : goal.invariant-loop-member
invariant-loop-member l = record { walked : IsWalked (used_into l.arcs) l.vertex l.next l.set.members; count : l.set.count ≡ length l.arcs }

abbrev pub decreases-loop-member : goal.decreases-loop-member
decreases-loop-member l = length l.arcs - l.next
