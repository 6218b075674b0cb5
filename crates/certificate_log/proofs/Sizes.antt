-- How many lines a proof tree has, and how many of its closes are light.
use Rattle.std.proofs.Common.{◌≡◌, ℕ, Bool, true, false, cond, [], ◌∷◌, length, refl, arith}
use Rattle.std.specs.Prelude.{nat_lt}
use Rattle.std.proofs.lemmas.List.{length-append}
use Rattle.st_model.specs.declared.branch.Branch.{Branch}
use Rattle.st_model.specs.Network.{Network}
use Rattle.st_model.specs.Branch.{yes_half, no_half}
use Rattle.cut_packing.specs.Packing.{weight}
use Rattle.cut_packing.specs.ProofTree.{ProofTree, close, split}
use Rattle.log_format.specs.Preorder.{preorder}
use Rattle.search_core.specs.ReadOff.{light_closes, size}
use Rattle.certificate_log.specs.Spent.{light_weights}

pub length-preorder : (p : ProofTree) → length (preorder p) ≡ size p
length-preorder (close P) = refl
length-preorder (split at a b) = omega (arith, length-append (preorder a) (preorder b), length-preorder a, length-preorder b)

pub length-light_weights : (I : Network) (B : Branch) (x : ℕ) (p : ProofTree) → length (light_weights I B x p) ≡ light_closes I B x p
length-light_weights I B x (close P) = by_test (nat_lt (weight I B P) x)
  where
    by_test : (b : Bool) → length (cond b (weight I B P ∷ []) []) ≡ cond b 1 0
    by_test true = refl
    by_test false = refl
length-light_weights I B x (split at a b) =
    let inner = length-light_weights I (yes_half B at) x a in
    let outer = length-light_weights I (no_half B at) x b in
    omega (arith, length-append (light_weights I (yes_half B at) x a) (light_weights I (no_half B at) x b), inner, outer)
