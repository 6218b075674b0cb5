-- The least of a value and of what some trees cost that were found, whichever comes first.
use Rattle.std.proofs.Common.{◌≡◌, ℕ, List, [], ◌∷◌, Option, None, Some, refl, ap, ◌∙◌, arith}
use Rattle.std.specs.Prelude.{min}
use Rattle.std.proofs.lemmas.Bool.Decides.{nat_tests}
use Rattle.st_model.specs.declared.tree.Tree.{Tree}
use Rattle.st_model.specs.Network.{Network}
use Rattle.st_model.specs.Arborescence.{cost}
use Rattle.search_core.specs.declared.gathered.Segment.{Segment}
use Rattle.search_core.specs.Complete.{least_found, less_found}

min_swap : (a b c : ℕ) → min a (min b c) ≡ min b (min a c)
min_swap a b c = grind (arith, nat_tests)

-- of two trees that were found either may come first
less_swap : (I : Network) (one other : Option Tree) (x : ℕ) → less_found I one (less_found I other x) ≡ less_found I other (less_found I one x)
less_swap I None other x = refl
less_swap I (Some t) None x = refl
less_swap I (Some t) (Some u) x = min_swap (cost I t) (cost I u) x

-- a tree that is found lowers what is found with others
pub least_found-less : (I : Network) (best : Option Tree) (x : ℕ) (ss : List Segment) → least_found I (less_found I best x) ss ≡ less_found I best (least_found I x ss)
least_found-less I best x [] = refl
least_found-less I best x (s ∷ ss) = ap (less_found I s.best) (least_found-less I best x ss) ∙ less_swap I s.best best (least_found I x ss)
