use Rattle.dual_ascent.proofs.Joined.{joined_full}
use Rattle.dual_ascent.proofs.law.joined_is_full.Goals as goal

pub returns : goal.returns
returns c = λ g B P D E A h. joined_full g B P D E h A
