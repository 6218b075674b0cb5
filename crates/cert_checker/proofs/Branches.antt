-- What splits lead to is a branch.
use Rattle.std.proofs.Common.{List, [], ◌∷◌, refl}
use Rattle.std.proofs.lemmas.Bool.{false≢true}
use Rattle.st_model.specs.Network.{Network, IsInstance}
use Rattle.st_model.specs.Ground.{ground}
use Rattle.st_model.specs.Branch.{IsBranch, IsPlain}
use Rattle.st_model.proofs.Branches.{IsBranch-with_inside, IsBranch-with_outside, IsBranch-with_must, IsBranch-with_barred}
use Rattle.st_model.proofs.ThinGrowth.{linked-vertices}
use Rattle.log_format.proofs.AllTrees.{all_trees-branch}
use Rattle.arborescence.specs.DiNetwork.{DiNetwork, di_ground}
use Rattle.cert_checker.specs.declared.turn.Turn.{Turn}
use Rattle.cert_checker.specs.declared.turn.Turn.TheVariants.{Inside, Outside, Used, Barred}
use Rattle.cert_checker.specs.Path.{branch_of, AreSplits, AreSplitsIn}

pub branch_of-branch : (I : Network) (path : List Turn) → IsInstance I → AreSplits I path → IsBranch I (branch_of path)
branch_of-branch I [] instance splits = all_trees-branch I
branch_of-branch I (Inside v ∷ path) instance splits = let at = splits.0.0 in IsBranch-with_inside (ground I) (branch_of path) v at.vertex at.undecided (branch_of-branch I path instance splits.1)
branch_of-branch I (Outside v ∷ path) instance splits = let at = splits.0.0 in IsBranch-with_outside (ground I) (branch_of path) v at.vertex at.undecided (branch_of-branch I path instance splits.1)
branch_of-branch I (Used a b a_came b_came ∷ path) instance splits =
    let at = splits.0.0 in
    let ends = linked-vertices I a b instance at.linked in
    IsBranch-with_must (ground I) (branch_of path) a b ends.0 ends.1 at.ordered at.linked at.low at.high at.no_must at.unbarred (branch_of-branch I path instance splits.1)
branch_of-branch I (Barred a b ∷ path) instance splits =
    let at = splits.0.0 in
    IsBranch-with_barred (ground I) (branch_of path) a b at.ordered at.linked at.no_must at.unbarred (branch_of-branch I path instance splits.1)

-- at a directed ground no turn is at a link
pub branch_of-plain : (D : DiNetwork) (path : List Turn) → AreSplitsIn (di_ground D) path → IsPlain (branch_of path)
branch_of-plain D [] splits = record { must = refl; barred = refl }
branch_of-plain D (Inside v ∷ path) splits = let before = branch_of-plain D path splits.1 in record { must = before.must; barred = before.barred }
branch_of-plain D (Outside v ∷ path) splits = let before = branch_of-plain D path splits.1 in record { must = before.must; barred = before.barred }
branch_of-plain D (Used a b a_came b_came ∷ path) splits = absurd (false≢true splits.0.0.linked)
branch_of-plain D (Barred a b ∷ path) splits = absurd (false≢true splits.0.0.linked)
