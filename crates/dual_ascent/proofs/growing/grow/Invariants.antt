use Rattle.std.proofs.Common.{◌≡◌, ◌+◌, ◌-◌}
use Rattle.std.specs.Prelude.{All}
use Rattle.st_model.specs.Network.{IsVertex}
use Rattle.dual_ascent.specs.Turns.{stops}
use Rattle.dual_ascent.proofs.Reaching.{AreApart, IsGrowing}
use Rattle.dual_ascent.proofs.growing.grow.Given as goal

abbrev pub invariant-loop-member : goal.invariant-loop-member
invariant-loop-member l = record {
  count : l.set.count ≡ l.arcs.n + 1;
  in_range : All (IsVertex l.arcs.n) l.set.members;
  apart : AreApart (stops l.known l.vertex) l.next l.set.members;
  growing : IsGrowing l.arcs l.vertex l.next l.set.members;
}

abbrev pub decreases-loop-member : goal.decreases-loop-member
decreases-loop-member l = l.arcs.n + 1 - l.next
