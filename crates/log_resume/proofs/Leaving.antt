-- The branch at the end of a path of splits leaves no required vertex outside.
use Rattle.std.proofs.Common.{List, [], ◌∷◌}
use Rattle.std.specs.Prelude.{IsFalse}
use Rattle.st_model.specs.Network.{Network, is_required}
use Rattle.st_model.specs.Branch.{LeavesRequired}
use Rattle.st_model.proofs.Halves.{at_either}
use Rattle.cert_checker.specs.declared.turn.Turn.{Turn}
use Rattle.cert_checker.specs.declared.turn.Turn.TheVariants.{Inside, Outside, Used, Barred}
use Rattle.cert_checker.specs.Path.{branch_of, AreSplits}

pub leaves_required : (I : Network) (path : List Turn) → AreSplits I path → LeavesRequired I (branch_of path)
leaves_required I [] splits = λ v member. absurd cc
leaves_required I (Inside v ∷ path) splits = leaves_required I path splits.1
leaves_required I (Outside v ∷ path) splits = at_either (λ w. IsFalse (is_required I w)) (branch_of path).outside v splits.0.0.free (leaves_required I path splits.1)
leaves_required I (Used a b a_came b_came ∷ path) splits = leaves_required I path splits.1
leaves_required I (Barred a b ∷ path) splits = leaves_required I path splits.1
