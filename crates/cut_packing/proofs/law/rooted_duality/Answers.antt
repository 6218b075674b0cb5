use Rattle.cut_packing.proofs.Rooted.{rooted_duality_lem}
use Rattle.cut_packing.proofs.law.rooted_duality.Goals as goal

pub returns : goal.returns
returns c = rooted_duality_lem
