-- Branches that are parts of another one: their trees belong to it, and who is certain there is so here.
use Rattle.std.proofs.Common.{◌≡◌, ℕ, Bool, true, false, eqb, ◌||◌, List, refl, ◌∙◌}
use Rattle.std.specs.Prelude.{◌==◌, IsTrue, IsFalse}
use Rattle.std.proofs.lemmas.Bool.{both_ways, or_left, or_right}
use Rattle.st_model.specs.declared.branch.Branch.{Branch}
use Rattle.st_model.specs.Lists.{has}
use Rattle.st_model.specs.Network.{Network, is_required}
use Rattle.st_model.specs.declared.split_at.SplitAt.{SplitAt}
use Rattle.st_model.specs.declared.split_at.SplitAt.TheVariants.{Vertex, Link}
use Rattle.st_model.specs.Branch.{NoneIsCertain, with_inside, with_outside, with_vertex, yes_half, no_half}
use Rattle.st_model.proofs.Halves.{has-with_vertex, has-both}
use Rattle.better_trees.specs.Part.{IsPartOf}

-- a member is still one where v is put in
still : (xs : List ℕ) (v w : ℕ) → IsTrue (has xs w) → IsTrue (has (with_vertex xs v) w)
still xs v w h = has-with_vertex xs v w ∙ or_right (eqb v w) (has xs w) h

-- the halves of a part are parts
inside_part : (R B : Branch) (v : ℕ) → IsPartOf R B → IsPartOf R (with_inside B v)
inside_part R B v part = record { inside = λ w h. still B.inside v w (part.inside w h); outside = part.outside }

outside_part : (R B : Branch) (v : ℕ) → IsPartOf R B → IsPartOf R (with_outside B v)
outside_part R B v part = record { inside = part.inside; outside = λ w h. still B.outside v w (part.outside w h) }

-- a half of a part at a split is a part
pub yes_part : (R B : Branch) (at : SplitAt) → IsPartOf R B → IsPartOf R (yes_half B at)
yes_part R B (Vertex v) part = inside_part R B v part
yes_part R B (Link a b) part = record { inside = λ w h. has-both B.inside a b w ∙ or_right (b == w) _ (or_right (a == w) _ (part.inside w h)); outside = part.outside }

pub no_part : (R B : Branch) (at : SplitAt) → IsPartOf R B → IsPartOf R (no_half B at)
no_part R B (Vertex v) part = outside_part R B v part
no_part R B (Link a b) part = record { inside = part.inside; outside = part.outside }

-- where no vertex is certain in a part, none is in the whole
pub none_certain : (I : Network) (R B : Branch) → IsPartOf R B → NoneIsCertain I B → NoneIsCertain I R
none_certain I R B part none v vertex = by_case (is_required I v) refl (has R.inside v) refl (none v vertex)
  where
    by_case : (r : Bool) → is_required I v ≡ r → (i : Bool) → has R.inside v ≡ i → IsFalse (is_required I v || has B.inside v) → (r || i) ≡ false
    by_case true is i e free = absurd (both_ways (is_required I v || has B.inside v) free (or_left (is_required I v) (has B.inside v) is))
    by_case false is true e free = absurd (both_ways (is_required I v || has B.inside v) free (or_right (is_required I v) (has B.inside v) (part.inside v e)))
    by_case false is false e free = refl
