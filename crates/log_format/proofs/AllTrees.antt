-- The branch of the trees that reach nobody who is gone, and that of all trees.
use Rattle.std.proofs.Common.{◌≡◌, ℕ, List, [], refl, sym, subst, arith}
use Rattle.st_model.specs.declared.tree.Tree.{Tree}
use Rattle.st_model.specs.Network.{Network}
use Rattle.st_model.specs.Ground.{ground}
use Rattle.st_model.specs.Branch.{Belongs, IsBranch, IsVertexSet, UsesAsTold, deciding, all_trees}
use Rattle.st_model.proofs.Branches.{IsBranch-deciding, IsVertexSet-nil}
use Rattle.cut_packing.specs.ProofTree.{Proves}
use Rattle.lift_back.specs.State.{State, IsTreeOf, whole}
use Rattle.log_format.specs.declared.proof_line.ProofLine.{ProofLine}
use Rattle.log_format.specs.Accepts.{ProvesOf, ProvesFrom, ProvesAfter, left_over, left_of}

-- where nothing is said of any link, each tree uses what it is told to
uses_any : (inside outside : List ℕ) (t : Tree) → UsesAsTold (deciding inside outside) t
uses_any inside outside t = record { must = λ u v h. absurd cc; barred = λ u v h. absurd cc }

pub belongs_to_all : (t : Tree) → Belongs all_trees t
belongs_to_all t = record { reaches = record { inside = λ v h. absurd cc; outside = λ v h. absurd cc }; uses = uses_any [] [] t }

pub all_trees-branch : (I : Network) → IsBranch I all_trees
all_trees-branch I = IsBranch-deciding (ground I) [] [] (IsVertexSet-nil I.n) (IsVertexSet-nil I.n) (λ v h. absurd cc)

pub belongs_left_over : (s : State) (t : Tree) → IsTreeOf s t → Belongs (left_over s) t
belongs_left_over s t tree = record { reaches = record { inside = λ v h. absurd cc; outside = tree.avoids }; uses = uses_any [] s.gone t }

pub left_over-branch : (s : State) → IsVertexSet s.instance.n s.gone → IsBranch s.instance (left_over s)
left_over-branch s gone = IsBranch-deciding (ground s.instance) [] s.gone (IsVertexSet-nil s.instance.n) gone (λ v h. absurd cc)

-- where no step is taken, all is left and all of x is to be proved
all_left : (x : ℕ) (I : Network) → left_of x (whole I) ≡ x
all_left x I = omega arith

-- what is proved of all trees is proved where no step is taken
pub proves_after_none : (I : Network) (x : ℕ) (lines : List ProofLine) → ProvesOf I all_trees x lines → ProvesAfter I [] x lines
proves_after_none I x lines (p, written, proves) = (whole I, refl, (p, written, subst (λ (y : ℕ). Proves I all_trees y p) (sym (all_left x I)) proves))

-- and the other way round
pub proves_of_all : (I : Network) (x : ℕ) (lines : List ProofLine) → ProvesAfter I [] x lines → ProvesOf I all_trees x lines
proves_of_all I x lines (s, none, proves_in) =
    let (p, written, proves) = subst (λ (t : State). ProvesFrom t x lines) (sym none) proves_in in
    (p, written, subst (λ (y : ℕ). Proves I all_trees y p) (all_left x I) proves)
