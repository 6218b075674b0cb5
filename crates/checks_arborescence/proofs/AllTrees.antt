-- The branch of all trees.
use Rattle.std.proofs.Common.{[]}
use Rattle.std.proofs.lemmas.Bool.{false≢true}
use Rattle.st_model.specs.Branch.{all_trees, IsBranchIn, LeavesRequiredIn}
use Rattle.st_model.specs.Ground.{Ground}
use Rattle.st_model.proofs.Branches.{IsVertexSet-nil, IsBranch-deciding}

pub all_branch : (G : Ground) → IsBranchIn G all_trees
all_branch G = IsBranch-deciding G [] [] (IsVertexSet-nil G.n) (IsVertexSet-nil G.n) (λ v inside. absurd (false≢true inside))

pub all_leave : (G : Ground) → LeavesRequiredIn G all_trees
all_leave G = λ v outside. absurd (false≢true outside)
