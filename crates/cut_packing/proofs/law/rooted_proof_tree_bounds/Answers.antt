use Rattle.cut_packing.proofs.Rooted.{rooted_proof_tree_bounds_lem}
use Rattle.cut_packing.proofs.law.rooted_proof_tree_bounds.Goals as goal

pub returns : goal.returns
returns c = rooted_proof_tree_bounds_lem
