use Rattle.std.proofs.Common.{◌<◌, length, reverse}
use Rattle.st_model.specs.Network.{Network}
use Rattle.special_dist.specs.declared.quest.Quest.{Quest}
use Rattle.special_dist.specs.Answers.{IsReachedFrom}
use Rattle.special_dist.proofs.WalkingBack.{LeadsBack}
use Rattle.special_dist.proofs.walk_back.inner_to.Given as goal

abbrev pub invariant-loop-here : goal.invariant-loop-here
invariant-loop-here l = (l.here < length l.visits) × ((I : Network) (q : Quest) → IsReachedFrom I q l.visits l.place → LeadsBack I q l.visits l.here (reverse l.inner.items))

abbrev pub decreases-loop-here : goal.decreases-loop-here
decreases-loop-here l = l.here
