-- What is left of a branch where more is to be avoided, and nothing is said of links.
use Rattle.std.proofs.Common.{◌≡◌, ℕ, Bool, true, false, not, ◌||◌, List, refl, sym, ◌∙◌}
use Rattle.std.specs.Prelude.{IsTrue, IsFalse}
use Rattle.std.proofs.lemmas.Bool.{or_left}
use Rattle.st_model.specs.declared.branch.Branch.{Branch}
use Rattle.st_model.specs.Lists.{has}
use Rattle.st_model.specs.Network.{Network, is_required}
use Rattle.st_model.specs.Ground.{ground}
use Rattle.st_model.specs.Branch.{AreThose, IsBranch, LeavesRequired, deciding, is_certain}
use Rattle.st_model.proofs.Branches.{IsBranch-deciding, IsVertexSet-member}
use Rattle.better_trees.specs.Part.{IsPartOf}
use Rattle.better_trees.specs.Part.{is_left_out}

-- a branch in which more is outside, but nothing that is certain
pub narrow_branch : (I : Network) (B : Branch) (reached out : List ℕ) → IsBranch I B → AreThose (is_left_out I B reached) I.n out
    → IsBranch I (deciding B.inside out)
narrow_branch I B reached out branch are = IsBranch-deciding (ground I) B.inside out branch.inside are.set apart
  where
    apart : (v : ℕ) → IsTrue (has B.inside v) → IsFalse (has out v)
    apart v inside =
        let vertex = IsVertexSet-member I.n B.inside v branch.inside inside in
        are.same v vertex ∙ rw (branch.apart v inside, inside) (by_case (is_required I v))
      where
        by_case : (b : Bool) → not ((b || true) || has reached v) ≡ false
        by_case true = refl
        by_case false = refl

-- it is a part of the branch
pub narrow_part : (I : Network) (B : Branch) (reached out : List ℕ) → IsBranch I B → AreThose (is_left_out I B reached) I.n out
    → IsPartOf B (deciding B.inside out)
narrow_part I B reached out branch are = record { inside = λ v h. h; outside = outside }
  where
    outside : (v : ℕ) → IsTrue (has B.outside v) → IsTrue (has out v)
    outside v h =
        let vertex = IsVertexSet-member I.n B.outside v branch.outside h in
        are.same v vertex ∙ or_left (has B.outside v) (not (is_certain I B v || has reached v)) h

-- it still leaves who is required
pub narrow_required : (I : Network) (B : Branch) (reached out : List ℕ) → LeavesRequired I B → AreThose (is_left_out I B reached) I.n out
    → LeavesRequired I (deciding B.inside out)
narrow_required I B reached out leaves are v h =
    by_case (is_required I v) refl (has B.outside v) refl (sym (are.same v (IsVertexSet-member I.n out v are.set h)) ∙ h)
  where
    by_case : (r : Bool) → is_required I v ≡ r → (o : Bool) → has B.outside v ≡ o → (o || not ((r || has B.inside v) || has reached v)) ≡ true → r ≡ false
    by_case true is true e left = sym is ∙ leaves v e
    by_case true is false e left = absurd cc
    by_case false is o e left = refl
