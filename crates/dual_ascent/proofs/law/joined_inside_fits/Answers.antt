use Rattle.dual_ascent.proofs.Joined.{inside_fit}
use Rattle.dual_ascent.proofs.law.joined_inside_fits.Goals as goal

pub returns : goal.returns
returns c = λ g B P D E v A graph vertex h. inside_fit g B P D E h A v graph vertex
