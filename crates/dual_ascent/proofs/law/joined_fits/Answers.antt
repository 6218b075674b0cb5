use Rattle.dual_ascent.proofs.Joined.{together_fit}
use Rattle.dual_ascent.proofs.law.joined_fits.Goals as goal

pub returns : goal.returns
returns c = λ g B P D E A graph vertex h. together_fit g B P D E h A graph vertex
