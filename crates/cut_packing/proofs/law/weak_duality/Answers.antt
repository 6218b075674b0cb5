use Rattle.cut_packing.proofs.Duality.{weak_duality_lem}
use Rattle.cut_packing.proofs.law.weak_duality.Goals as goal

pub returns : goal.returns
returns c = weak_duality_lem
