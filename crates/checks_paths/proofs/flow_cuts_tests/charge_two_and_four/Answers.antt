use Rattle.std.proofs.Common.{ℕ, zero, suc, List, [], ◌∷◌, sym, subst, rules, arith}
use Rattle.std.specs.List.Sorted.{IsStrictlyIncreasing}
use Rattle.std.proofs.lemmas.List.Elements.{All-from_recursion}
use Rattle.st_model.specs.Branch.{IsVertexSet}
use Rattle.st_model.specs.Network.{IsVertex}
use Rattle.checks_paths.proofs.flow_cuts_tests.charge_two_and_four.Goals as goal

abbrev two_and_four : List ℕ
two_and_four = 2 ∷ 4 ∷ []

rise : IsStrictlyIncreasing two_and_four
rise zero below = omega arith
rise (suc k) below = absurd (omega (arith, below))

a_set : IsVertexSet 4 two_and_four
a_set = record { ascending = rise; in_range = All-from_recursion (IsVertex 4) two_and_four (search rules) }

pub charge-requires-clause-set : goal.charge-requires-clause-set
charge-requires-clause-set c = subst (λ (n : ℕ). IsVertexSet n two_and_four) (sym c.requires.count) a_set
