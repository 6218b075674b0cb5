-- The least values fall as searches go on, and the searches take no more than the budget.
use Rattle.std.proofs.Common.{◌≡◌, ℕ, ◌+◌, ◌-◌, ◌≤◌, min, List, [], ◌∷◌, Option, None, Some, arith}
use Rattle.std.proofs.lemmas.List.Sums.{sum_by-cons}
use Rattle.st_model.specs.declared.tree.Tree.{Tree}
use Rattle.st_model.specs.Arborescence.{cost}
use Rattle.st_model.specs.Network.{Network}
use Rattle.branching.specs.declared.node.Node.{Node}
use Rattle.search_core.specs.declared.gathered.Searched.{Searched}
use Rattle.search_core.specs.declared.gathered.Segment.{Segment}
use Rattle.search_core.specs.Complete.{least_found, less_found}
use Rattle.resuming.specs.GoingOn.{GoOn, IsSearchFrom, ended, searched}
use Rattle.resuming.specs.Resumed.{expanded_by}

less_found-le : (I : Network) (best : Option Tree) (x : ℕ) → less_found I best x ≤ x
less_found-le I None x = omega arith
less_found-le I (Some t) x = least_is_less (cost I t) x
  where
    least_is_less : (a b : ℕ) → min a b ≤ b
    least_is_less a b = omega arith

pub least_found-le : (I : Network) (x : ℕ) (ss : List Segment) → least_found I x ss ≤ x
least_found-le I x [] = omega arith
least_found-le I x (s ∷ ss) = omega (arith, less_found-le I s.best (least_found I x ss), least_found-le I x ss)

-- what a search found is no more than what it began with
pub search_falls : (I : Network) (N : Node) (start budget : ℕ) (E : Searched) → IsSearchFrom I N start budget E → E.gathered.least ≤ start
search_falls I N start budget E ran = omega (arith, ran.finished.least, least_found-le I start E.gathered.segments)

pub falls : (I : Network) (closes : List Node) (least budget : ℕ) (Es : List Searched) (last : ℕ) → GoOn I closes least budget Es last → last ≤ least
falls I closes least budget Es last (ended none) = omega arith
falls I closes least budget Es last (searched {rest} {N} {E} {more} next ran later) =
    omega (arith, search_falls I N least budget E ran, falls I rest E.gathered.least (budget - E.gathered.claimed) more last later)

pub one_more_claimed : (E : Searched) (Es : List Searched) → expanded_by (E ∷ Es) ≡ E.gathered.claimed + expanded_by Es
one_more_claimed E Es = sum_by-cons (λ (s : Searched). s.gathered.claimed) E Es

pub within_budget : (I : Network) (closes : List Node) (least budget : ℕ) (Es : List Searched) (last : ℕ) → GoOn I closes least budget Es last → expanded_by Es ≤ budget
within_budget I closes least budget Es last (ended none) = omega arith
within_budget I closes least budget Es last (searched {rest} {N} {E} {more} next ran later) =
    let all = one_more_claimed E more in
    let after = within_budget I rest E.gathered.least (budget - E.gathered.claimed) more last later in
    omega (arith, all, after, ran.complete.allowed)
