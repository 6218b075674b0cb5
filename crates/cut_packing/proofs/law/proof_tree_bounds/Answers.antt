use Rattle.cut_packing.proofs.Duality.{proof_tree_bounds_lem}
use Rattle.cut_packing.proofs.law.proof_tree_bounds.Goals as goal

pub returns : goal.returns
returns c = proof_tree_bounds_lem
