-- The branch of the trees that reach one vertex and not another one.
use Rattle.std.proofs.Common.{◌≡◌, ℕ, [], refl, arith}
use Rattle.std.specs.Prelude.{IsTrue}
use Rattle.std.proofs.lemmas.Bool.Decides.{nat_tests}
use Rattle.st_model.specs.Branch.{IsBranch, all_trees, is_undecided, with_inside, with_outside}
use Rattle.st_model.specs.Network.{Network, IsVertex}
use Rattle.st_model.specs.Ground.{ground}
use Rattle.st_model.proofs.Branches.{IsVertexSet-nil, IsBranch-deciding, IsBranch-with_inside, IsBranch-with_outside}

everything : (I : Network) → IsBranch I all_trees
everything I = IsBranch-deciding (ground I) [] [] (IsVertexSet-nil I.n) (IsVertexSet-nil I.n) (λ v inside. refl)

undecided : (x y : ℕ) → (x ≡ y → ⊥) → IsTrue (is_undecided (with_inside all_trees x) y)
undecided x y apart = grind (arith, nat_tests)

pub one_in_one_out : (I : Network) (x y : ℕ) → IsVertex I.n x → IsVertex I.n y → (x ≡ y → ⊥) → IsBranch I (with_outside (with_inside all_trees x) y)
one_in_one_out I x y inside outside apart = IsBranch-with_outside (ground I) (with_inside all_trees x) y outside (undecided x y apart) (IsBranch-with_inside (ground I) all_trees x inside refl (everything I))
